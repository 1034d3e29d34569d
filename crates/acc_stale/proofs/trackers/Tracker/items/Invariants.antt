use Rattle.std.proofs.Common.{◌≡◌, take}
use Rattle.acc_base.specs.Limits.{Limits}
use Rattle.acc_base.specs.Records.{State}
use Rattle.acc_base.specs.Walk.{asked_in, done_in}
use Rattle.acc_base.specs.Devices.{device_in}
use Rattle.acc_stale.specs.Follows.{FollowsState, IsEventIn}
use Rattle.acc_stale.specs.Tells.{LeavesOthers, AreActed}
use Rattle.acc_stale.proofs.trackers.Tracker.items.Given as goal

abbrev pub invariant-loop-nth : goal.invariant-loop-nth
invariant-loop-nth g l = record {
  acted : (k : Limits) (s : State) → IsEventIn k l.event s → FollowsState (device_in l.event) l.initial.self.account s → AreActed (device_in l.event) (take l.nth (asked_in l.event s.register)) (take l.nth (done_in l.event)) s l.initial.self l.self;
  others : LeavesOthers (device_in l.event) l.initial.self.account l.self.account;
  regions : l.self.account.regions ≡ l.initial.self.account.regions;
}
