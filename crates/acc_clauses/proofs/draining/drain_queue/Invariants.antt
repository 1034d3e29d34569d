use Rattle.std.proofs.Common.{◌≡◌, replicate, length}
use Rattle.acc_base.specs.Waits.{drained}
use Rattle.acc_clauses.specs.Contents.{Numbers}
use Rattle.acc_clauses.specs.Devices.{state_beside}
use Rattle.acc_clauses.proofs.draining.drain_queue.Given as goal

-- so many transfers of the queue were made
abbrev pub invariant-loop : goal.invariant-loop
invariant-loop l = record {
  limits : l.device.limits ≡ l.fn.device.limits;
  host : length l.host ≡ length l.fn.host;
  state : (n : Numbers) → state_beside l.device.device l.host n ≡ drained (replicate l.counter l.q) (state_beside l.fn.device.device l.fn.host n);
}
