use Rattle.std.proofs.Common.{ℕ, ◌+◌, ◌-◌}
use Rattle.acc_placement.specs.Ranges.{IsFit, IsFitBeside, all_rounded}
use Rattle.acc_placement.specs.HoleIter.{holes_from}
use Rattle.acc_placement.proofs.placement.Holes.would_take.Given as goal

abbrev pub invariant-loop-start : goal.invariant-loop-start
invariant-loop-start l = (q : ℕ) → IsFitBeside l.self.holes (all_rounded l.listed) l.size q → IsFit (holes_from l.from l.self.holes) l.size q

abbrev pub decreases-loop-start : goal.decreases-loop-start
decreases-loop-start l = l.self.base + l.self.size - l.from
