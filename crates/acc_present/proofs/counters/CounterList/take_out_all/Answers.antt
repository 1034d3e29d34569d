use Rattle.std.proofs.Common.{◌≡◌, Some, sym, ap, ◌∙◌, subst, arith}
use Rattle.acc_base.specs.Attachments.{without_attachments, next_pointer}
use Rattle.acc_present.specs.KeptCounters.{CountersState, counters_in}
use Rattle.acc_present.proofs.Bounded.{no_pointer_above}
use Rattle.acc_present.proofs.Keyed.{next_attached, none_left, forgotten_first, shorter}
use Rattle.acc_present.proofs.counters.CounterList.take_out_all.Goals as goal

pub take_out-requires : goal.take_out-requires
take_out-requires c = next_attached c.args.block 0 c.in-Some.pointer c.loop-pointer.self.counters (sym c.next_near-next.ensures ∙ c.in-Some.is)

pub loop-pointer-preserved : goal.loop-pointer-preserved
loop-pointer-preserved c = record {
  counters = ap (without_attachments c.args.block) c.take_out.ensures.counters ∙ forgotten_first c.args.block c.in-Some.pointer c.loop-pointer.self.counters ∙ c.loop-pointer.invariant.counters;
  room = omega (arith, c.take_out.ensures.room, c.loop-pointer.invariant.room);
}

pub loop-pointer-smaller : goal.loop-pointer-smaller
loop-pointer-smaller c =
    let next : next_pointer c.args.block 0 c.loop-pointer.self.counters ≡ Some c.in-Some.pointer = sym c.next_near-next.ensures ∙ c.in-Some.is in
    rw c.take_out.ensures.counters (shorter c.args.block c.in-Some.pointer c.loop-pointer.self.counters (next_attached c.args.block 0 c.in-Some.pointer c.loop-pointer.self.counters next))

pub returns-in_default-clause-counters : goal.returns-in_default-clause-counters
returns-in_default-clause-counters c = sym (none_left c.args.block c.loop-pointer.self.counters (sym c.next_near-next.ensures ∙ c.in_default.is)) ∙ c.loop-pointer.invariant.counters

pub returns-then-self-block-clause-counters : goal.returns-then-self-block-clause-counters
returns-then-self-block-clause-counters c =
    let es = c.self.inside.counts.entries in
    subst (λ (s : CountersState). s.counters ≡ without_attachments c.args.block s.counters) c.self.view_is
    (sym (none_left c.args.block (counters_in es) (no_pointer_above c.self.inside.highest c.args.block es c.self.invariant c.if-self-block.true)))
