use Rattle.std.proofs.Common.{◌≡◌, ◌∙◌, refl, sym, ap, subst, Ok, arith}
use Rattle.acc_base.specs.Loans.{none_lent}
use Rattle.acc_base.specs.Limits.{Limits}
use Rattle.acc_base.specs.Waits.{steps_of, transfers_of, drained}
use Rattle.acc_clauses.specs.Contents.{bare_numbers}
use Rattle.acc_clauses.specs.Devices.{state_beside}
use Rattle.acc_clauses.proofs.Emptying.{queue_free, rest_free}
use Rattle.acc_clauses.proofs.Emptied.{rest_drained, all_drained}
use Rattle.acc_clauses.proofs.draining.drain.Goals as goal

pub loop-q-init : goal.loop-q-init
loop-q-init c = record { limits = refl; host = refl; rest = λ n. refl; free = subst (λ o. none_lent (transfers_of o c.args.device.now.device.records.queues) c.args.device.now.device.records.loans ≡ Ok tt) c.in-None.is c.requires.free }

pub loop-q-preserved : goal.loop-q-preserved
loop-q-preserved c =
    let d = c.drain_queue-in-loop-q in
    record {
      limits = d.ensures.limits ∙ c.loop-q.invariant.limits;
      host = d.ensures.host ∙ c.loop-q.invariant.host;
      rest = λ n. rest_drained c.loop-q.q (state_beside c.loop-q.device.device c.loop-q.host n) (state_beside d.new.device.device d.new.host n) _ (d.ensures.state n) (c.loop-q.invariant.rest n);
      free = rest_free c.loop-q.q _ (state_beside c.loop-q.device.device c.loop-q.host bare_numbers) (state_beside d.new.device.device d.new.host bare_numbers) c.loop-q.invariant.free (d.ensures.state bare_numbers);
    }

pub drain_queue-requires-in-loop-q : goal.drain_queue-requires-in-loop-q
drain_queue-requires-in-loop-q c = record {
  host = c.loop-q.invariant.host ∙ c.requires.host ∙ ap (λ (l : Limits). l.host) (sym c.loop-q.invariant.limits);
  free = queue_free c.loop-q.q (state_beside c.loop-q.device.device c.loop-q.host bare_numbers) c.loop-q.invariant.free;
}

pub returns-after-loop-q-clause-state : goal.returns-after-loop-q-clause-state
returns-after-loop-q-clause-state c n =
    let old = c.args.device.now.device in
    all_drained c.loop-q.q (state_beside c.loop-q.device.device c.loop-q.host n) _ (omega (arith, c.loop-q-test.false, c.laws.ensures.sound.queues.all)) (c.loop-q.invariant.rest n)
    ∙ ap (λ o. drained (steps_of o old.records.queues) (state_beside old c.args.host.now n)) (sym c.in-None.is)
