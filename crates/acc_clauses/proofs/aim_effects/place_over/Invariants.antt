use Rattle.std.proofs.Common.{◌≡◌, drop}
use Rattle.acc_clauses.specs.Aims.{place_over}
use Rattle.acc_clauses.proofs.aim_effects.place_over.Given as goal

-- where the tasks that are left bring the block is where all bring it
abbrev pub invariant-loop-x : goal.invariant-loop-x
invariant-loop-x l = place_over l.block l.after (drop l.x-index l.acts) ≡ place_over l.block l.fn.place l.acts
