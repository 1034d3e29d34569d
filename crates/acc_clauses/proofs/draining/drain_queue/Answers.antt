use Rattle.std.proofs.Common.{◌∙◌, refl, sym, ap, arith}
use Rattle.acc_base.specs.Limits.{Limits}
use Rattle.acc_clauses.specs.Contents.{bare_numbers}
use Rattle.acc_clauses.specs.Devices.{state_beside}
use Rattle.acc_clauses.proofs.Emptying.{next_free}
use Rattle.acc_clauses.proofs.Emptied.{stepped_more, drained-none}
use Rattle.acc_clauses.proofs.draining.drain_queue.Goals as goal

pub loop-init : goal.loop-init
loop-init c = record { limits = refl; host = refl; state = λ n. drained-none c.args.q (state_beside c.args.device.now.device c.args.host.now n) }

pub step-requires : goal.step-requires
step-requires c = record {
  host = c.loop.invariant.host ∙ c.requires.host ∙ ap (λ (l : Limits). l.host) (sym c.loop.invariant.limits);
  free = next_free c.args.q c.loop.counter (state_beside c.args.device.now.device c.args.host.now bare_numbers) (state_beside c.loop.device.device c.loop.host bare_numbers) c.requires.free (c.loop.invariant.state bare_numbers);
}

pub loop-preserved : goal.loop-preserved
loop-preserved c = record {
  limits = c.step.ensures.limits ∙ c.loop.invariant.limits;
  host = c.step.ensures.host ∙ c.loop.invariant.host;
  state = λ n. c.step.ensures.state n ∙ stepped_more c.args.q c.loop.counter _ _ (c.loop.invariant.state n);
}

pub returns-clause-state : goal.returns-clause-state
returns-clause-state c n = grind (arith)
