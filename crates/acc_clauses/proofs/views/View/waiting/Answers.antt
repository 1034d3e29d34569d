use Rattle.std.proofs.Common.{◌∙◌, sym, ap, length, arith}
use Rattle.acc_base.specs.Waits.{steps_of}
use Rattle.acc_clauses.proofs.Emptied.{more_wait, all_wait}
use Rattle.acc_clauses.proofs.views.View.waiting.Goals as goal

pub loop-q-init : goal.loop-q-init
loop-q-init c = record { all = omega arith; few = omega arith }

pub overflow_add-count : goal.overflow_add-count
overflow_add-count c = omega (arith, c.loop-q.invariant.few, c.loop-q-test.true, c.queue_len-count.ensures.limit, c.queue_len-count.ensures.bound)

pub loop-q-preserved : goal.loop-q-preserved
loop-q-preserved c = grind (arith, more_wait c.loop-q.q c.loop-q.count c.queue_len-count.result _ c.args.self.now.state.records.queues c.queue_len-count.ensures.value c.loop-q.invariant.all)

pub returns-after-loop-q : goal.returns-after-loop-q
returns-after-loop-q c =
    all_wait c.loop-q.q c.loop-q.count _ c.args.self.now.state.records.queues (omega (arith, c.loop-q-test.false, c.laws.ensures.sound.records.queues.all)) c.loop-q.invariant.all
    ∙ ap (λ o. length (steps_of o c.args.self.now.state.records.queues)) (sym c.in-None.is)
