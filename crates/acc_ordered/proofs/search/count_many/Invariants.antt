use Rattle.std.proofs.Common.{◌≤◌, length}
use Rattle.acc_ordered.proofs.Halved.{IsHalved, HasDigits}
use Rattle.acc_ordered.proofs.search.count_many.Given as goal

abbrev pub invariant-loop-len : goal.invariant-loop-len
invariant-loop-len g l = record {
  halved : IsHalved g.K.Key.number (g.K.Key.number l.key) l.keys l.low l.len;
  not_fewer : l.initial.steps ≤ l.steps;
  digits : HasDigits (length l.keys) l.len l.initial.steps l.steps;
}

abbrev pub decreases-loop-len : goal.decreases-loop-len
decreases-loop-len g l = l.len
