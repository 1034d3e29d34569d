use Rattle.std.proofs.Common.{◌≡◌, ◌<◌, replicate}
use Rattle.acc_base.specs.declared.transfers.TheConstants.{QUEUE_COUNT}
use Rattle.acc_base.specs.Limits.{Limits}
use Rattle.acc_base.specs.Records.{State}
use Rattle.acc_base.specs.Accounts.{AreRecordsSound}
use Rattle.acc_stale.specs.Follows.{FollowsDevice}
use Rattle.acc_stale.specs.Tells.{LeavesOthers, IsDrained}
use Rattle.acc_stale.proofs.trackers.Tracker.made_all.Given as goal

abbrev pub invariant-loop : goal.invariant-loop
invariant-loop g l = record {
  drained : (k : Limits) (s : State) → FollowsDevice l.device l.initial.self.account s.records → AreRecordsSound k s.records → l.queue < QUEUE_COUNT → IsDrained l.device (replicate l.counter l.queue) s l.initial.self l.self;
  others : LeavesOthers l.device l.initial.self.account l.self.account;
  regions : l.self.account.regions ≡ l.initial.self.account.regions;
}
