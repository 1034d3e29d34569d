use Rattle.std.proofs.Common.{length, ap, ◌∙◌, arith}
use Rattle.acc_index.specs.Indexed.{live_entries}
use Rattle.acc_index.proofs.Indexing.{with_last, one_more, ends-here}
use Rattle.acc_index.proofs.index.Index.insert.Goals as goal

pub returns-then-is_above-clause-entries : goal.returns-then-is_above-clause-entries
returns-then-is_above-clause-entries g c = c.push.ensures.entries ∙ with_last c.args.number c.args.value c.args.self.now.entries c.if-is_above.ensures.above

pub invariant_of-self : goal.invariant_of-self
invariant_of-self g c =
    let count = ap (λ es. length es) c.put_between.ensures.entries in
    let more = one_more c.args.number c.args.value (live_entries c.clear_away.new.items.items) in
    let cleared = ap (λ es. length es) c.clear_away.ensures.entries in (
      c.put_between.ensures.rising,
      ends-here c.put_between.new.items.items c.put_between.ensures.here,
      omega (arith, c.self.invariant, count, more, cleared),
      omega (arith, c.self.invariant, c.put_between.ensures.len, c.clear_away.ensures.count),
    )
