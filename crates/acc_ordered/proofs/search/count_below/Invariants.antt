use Rattle.std.proofs.Common.{◌+◌, ◌≤◌, length}
use Rattle.acc_ordered.proofs.Counting.{IsCounted}
use Rattle.acc_ordered.proofs.search.count_below.Given as goal

abbrev pub invariant-loop-nth : goal.invariant-loop-nth
invariant-loop-nth g l = record {
  bound : l.high ≤ length l.keys;
  first : l.low ≤ l.nth;
  comparisons : l.comparisons + l.low ≤ l.initial.comparisons + l.nth;
  counted : IsCounted g.K.Key.number (g.K.Key.number l.key) l.keys l.nth l.place;
}
