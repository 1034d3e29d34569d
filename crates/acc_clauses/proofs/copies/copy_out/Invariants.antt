use Rattle.std.proofs.Common.{◌-◌, ◌≡◌, ◌+◌, ◌≤◌}
use Rattle.acc_clauses.specs.Contents.{beside}
use Rattle.acc_clauses.proofs.Sweeping.{swept_out}
use Rattle.acc_clauses.proofs.copies.copy_out.Given as goal

abbrev pub invariant-loop-at : goal.invariant-loop-at
invariant-loop-at l = record {
  low : l.fn.section.start ≤ l.at;
  most : l.at ≤ l.end + 8;
  swept : l.host ≡ swept_out l.fn.section l.fn.block l.fn.start l.at (beside l.fn.environment l.fn.host);
}

abbrev pub decreases-loop-at : goal.decreases-loop-at
decreases-loop-at l = l.end - l.at
