use Rattle.acc_stale.specs.Marks.{IsKept}
use Rattle.acc_stale.proofs.Kept.{between}
use Rattle.acc_stale.proofs.changes.put_back_at.Given as goal

abbrev pub invariant-loop-place : goal.invariant-loop-place
invariant-loop-place l = IsKept (between l.from l.place) l.kept l.initial.section l.section
