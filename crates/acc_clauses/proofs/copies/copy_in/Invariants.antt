use Rattle.std.proofs.Common.{◌-◌, ◌≡◌, ◌+◌, ◌≤◌}
use Rattle.acc_clauses.proofs.Sweeping.{swept_in}
use Rattle.acc_clauses.proofs.copies.copy_in.Given as goal

abbrev pub invariant-loop-at : goal.invariant-loop-at
invariant-loop-at l = record {
  low : l.fn.section.start ≤ l.at;
  most : l.at ≤ l.end + 8;
  swept : l.environment ≡ swept_in l.fn.section l.fn.block l.fn.start l.at l.fn.host l.fn.environment;
}

abbrev pub decreases-loop-at : goal.decreases-loop-at
decreases-loop-at l = l.end - l.at
