use Rattle.std.proofs.Common.{◌+◌, ◌≤◌, length}
use Rattle.acc_read.specs.Lines.{lines_of}
use Rattle.acc_follow.proofs.Alike.{IsAlike}
use Rattle.acc_follow.proofs.differences.first_difference.Given as goal

-- what both texts have in common so far, and how long they are
abbrev pub invariant-lines : goal.invariant-lines
invariant-lines l = record {
  alike : IsAlike l.same (lines_of l.expected) (lines_of l.found) (lines_of l.wanted) (lines_of l.came);
  count : l.same + length l.wanted ≤ length l.expected;
}

abbrev pub decreases-lines : goal.decreases-lines
decreases-lines l = length l.wanted
