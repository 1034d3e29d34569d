use Rattle.std.proofs.Common.{rules, ◌≡◌, ap, ◌∙◌}
use Rattle.std.specs.FinMap as map
use Rattle.acc_read.specs.Layout.{ArrayLayout, ArraysByName, with_array}
use Rattle.acc_read.proofs.NameEntries.{from_entries-insert}
use Rattle.acc_read.proofs.arrays.Arrays.insert.Goals as goal

pub returns-clause-ok : goal.returns-clause-ok
returns-clause-ok c =
    let old = c.self.inside in
    let key = c.in_ok-key.key in
    let same : key ≡ c.args.name.now = search rules in
    let layout_of : ArraysByName → ArrayLayout = λ names. record { names = names; last_end = c.args.array.end; limit = old.limit } in
    ap layout_of (from_entries-insert old.by_name c.insert.new.self key c.args.array c.in_ok-insert.ensures.updates)
    ∙ ap (λ k. layout_of (map.insert (map.from_entries old.by_name.entries) k c.args.array)) same
    ∙ ap (with_array c.args.name.now c.args.array) c.self.view_is
