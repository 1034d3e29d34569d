use Rattle.std.proofs.Common.{◌≡◌, ◌≤◌, length}
use Rattle.acc_base.specs.Attachments.{without_attachments}
use Rattle.acc_present.proofs.counters.CounterList.take_out_all.Given as goal

-- what is to be left is the same
abbrev pub invariant-loop-pointer : goal.invariant-loop-pointer
invariant-loop-pointer l = record {
  counters : without_attachments l.block l.self.counters ≡ without_attachments l.block l.fn.self.counters;
  room : l.fn.self.room ≤ l.self.room;
}

abbrev pub decreases-loop-pointer : goal.decreases-loop-pointer
decreases-loop-pointer l = length l.self.counters
