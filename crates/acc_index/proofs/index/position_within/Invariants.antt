use Rattle.std.proofs.Common.{◌+◌, ◌≤◌, length}
use Rattle.acc_index.proofs.Indexing.{IsHeld}
use Rattle.acc_index.proofs.index.position_within.Given as goal

abbrev pub invariant-halving : goal.invariant-halving
invariant-halving g l = record {
  some : 1 ≤ l.count;
  within : l.from + l.count ≤ length l.items;
  held : IsHeld l.items l.number l.from l.count;
}

abbrev pub decreases-halving : goal.decreases-halving
decreases-halving g l = l.count
