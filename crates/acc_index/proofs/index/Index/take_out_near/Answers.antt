use Rattle.std.proofs.Common.{ap, ◌∙◌, inl, inr, arith}
use Rattle.acc_index.specs.Indexed.{without_number, live_entries}
use Rattle.acc_index.proofs.Indexing.{one_taken}
use Rattle.acc_index.proofs.index.Index.take_out_near.Goals as goal

pub clear_from-requires-clause-count : goal.clear_from-requires-clause-count
clear_from-requires-clause-count g c =
    let fewer = one_taken c.self.inside.items.items c.take_value-value.new.items c.trim.new.items.items c.args.number c.self.inside.items.len c.self.invariant.0 (rw (← c.self.view_is) at c.requires) (omega (arith, c.take_value-value.auto.items, c.deref_mut.ensures.len, c.self.inside.items.ok.0)) (c.take_value-value.ensures.entries ∙ ap (λ xs. without_number c.args.number (live_entries xs)) c.deref_mut.ensures.value) c.trim.ensures.entries in
    omega (arith, fewer, c.self.invariant)

pub invariant_of-self : goal.invariant_of-self
invariant_of-self g c = (
  c.clear_from.ensures.rising,
  c.clear_from.ensures.last,
  c.clear_from.ensures.count,
  elim c.clear_from.ensures.cleared [ inl all ↦ omega (arith, all) | inr few ↦ omega (arith, few.0, few.1) ],
)
