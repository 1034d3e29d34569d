use Rattle.std.proofs.Common.{◌≡◌, drop}
use Rattle.acc_clauses.specs.Aims.{value_over}
use Rattle.acc_clauses.proofs.aim_effects.value_over.Given as goal

-- what the tasks that are left make of the value is what all make of it
abbrev pub invariant-loop-x : goal.invariant-loop-x
invariant-loop-x l = value_over l.block l.pointer l.after (drop l.x-index l.acts) ≡ value_over l.block l.pointer l.fn.value l.acts
