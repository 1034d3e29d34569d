use Rattle.std.proofs.Common.{◌≡◌, drop}
use Rattle.acc_clauses.specs.Overlays.{found_over}
use Rattle.acc_clauses.proofs.effects.found_over.Given as goal

-- where the tasks that are left bring the section is where all bring it
abbrev pub invariant-loop-x : goal.invariant-loop-x
invariant-loop-x l = found_over l.section l.after (drop l.x-index l.acts) ≡ found_over l.section l.fn.found l.acts
