use Rattle.std.proofs.Common.{◌≡◌, ◌-◌, ◌≤◌, vec_len, vec_capacity}
use Rattle.std.specs.List.{AllByRecursion}
use Rattle.acc_ordered.specs.Laid.{IsWaiting}
use Rattle.acc_ordered.proofs.changes.make_waiting.Given as goal

abbrev pub invariant-loop-alloc : goal.invariant-loop-alloc
invariant-loop-alloc g l = record {
  waiting : AllByRecursion IsWaiting l.spare.items;
  not_fewer : vec_len l.initial.spare ≤ vec_len l.spare;
  not_more : vec_len l.spare ≤ l.count;
  capacity : vec_capacity l.spare ≡ vec_capacity l.initial.spare;
}

abbrev pub decreases-loop-alloc : goal.decreases-loop-alloc
decreases-loop-alloc g l = l.count - vec_len l.spare
