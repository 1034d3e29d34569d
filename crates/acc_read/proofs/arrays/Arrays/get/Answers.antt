use Rattle.std.proofs.Common.{sym, ap, ◌∙◌}
use Rattle.std.specs.HashMap.{get_by}
use Rattle.std.specs.Str.{bytes_eq}
use Rattle.acc_read.specs.Layout.{array_of}
use Rattle.acc_read.proofs.NameEntries.{get-name}
use Rattle.acc_read.proofs.arrays.Arrays.get.Goals as goal

pub returns : goal.returns
returns c =
    let map = c.self.inside.by_name in
    c.copied.ensures ∙ c.get.ensures.value ∙ ap (λ k. get_by (bytes_eq k) map) c.in_ok-new.ensures
    ∙ sym (get-name c.args.name.now map.entries) ∙ ap (array_of c.args.name.now) c.self.view_is

pub returns-in_err-new : goal.returns-in_err-new
returns-in_err-new c =
    let map = c.self.inside.by_name in
    c.from_residual.ensures ∙ sym (c.self.invariant c.args.name.now c.in_err-new.ensures)
    ∙ sym (get-name c.args.name.now map.entries) ∙ ap (array_of c.args.name.now) c.self.view_is
