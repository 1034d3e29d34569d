use Rattle.std.proofs.Common.{◌≡◌, drop, length, Ok}
use Rattle.std.specs.List.{flat_map}
use Rattle.acc_base.specs.Loans.{none_lent}
use Rattle.acc_base.specs.Waits.{drained, steps_from}
use Rattle.acc_clauses.specs.Contents.{Numbers}
use Rattle.acc_clauses.specs.Devices.{state_beside}
use Rattle.acc_clauses.proofs.draining.drain.Given as goal

-- the queues that are left lead to what all of them lead to, and none of their transfers is of a block that is lent
abbrev pub invariant-loop-q : goal.invariant-loop-q
invariant-loop-q l = record {
  limits : l.device.limits ≡ l.fn.device.limits;
  host : length l.host ≡ length l.fn.host;
  free : none_lent (flat_map (λ ts. ts) (drop l.q l.device.device.records.queues)) l.device.device.records.loans ≡ Ok tt;
  rest : (n : Numbers) → drained (steps_from l.q (drop l.q l.device.device.records.queues)) (state_beside l.device.device l.host n) ≡ drained (steps_from 0 l.fn.device.device.records.queues) (state_beside l.fn.device.device l.fn.host n);
}
