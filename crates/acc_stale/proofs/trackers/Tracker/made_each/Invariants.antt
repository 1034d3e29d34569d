use Rattle.std.proofs.Common.{◌≡◌, take}
use Rattle.acc_base.specs.Limits.{Limits}
use Rattle.acc_base.specs.Records.{State}
use Rattle.acc_base.specs.Waits.{steps_from}
use Rattle.acc_base.specs.Accounts.{AreRecordsSound}
use Rattle.acc_stale.specs.Follows.{FollowsDevice}
use Rattle.acc_stale.specs.Tells.{LeavesOthers, IsDrained}
use Rattle.acc_stale.proofs.trackers.Tracker.made_each.Given as goal

abbrev pub invariant-loop-queue : goal.invariant-loop-queue
invariant-loop-queue g l = record {
  drained : (k : Limits) (s : State) → FollowsDevice l.device l.initial.self.account s.records → AreRecordsSound k s.records → IsDrained l.device (steps_from 0 (take l.queue s.records.queues)) s l.initial.self l.self;
  others : LeavesOthers l.device l.initial.self.account l.self.account;
  regions : l.self.account.regions ≡ l.initial.self.account.regions;
}
