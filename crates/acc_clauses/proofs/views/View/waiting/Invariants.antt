use Rattle.std.proofs.Common.{◌≡◌, ◌+◌, ◌*◌, ◌≤◌, length, drop}
use Rattle.acc_base.specs.Waits.{steps_from}
use Rattle.acc_clauses.proofs.views.View.waiting.Given as goal

-- those that were counted and those in the queues that are left are all
abbrev pub invariant-loop-q : goal.invariant-loop-q
invariant-loop-q l = record {
  all : l.count + length (steps_from l.q (drop l.q l.self.state.records.queues)) ≡ length (steps_from 0 l.self.state.records.queues);
  few : l.count ≤ 4096 * l.q;
}
