use Rattle.std.proofs.Common.{◌≡◌, ◌+◌, ◌<◌, ◌^◌, drop}
use Rattle.acc_clauses.specs.Aims.{count_over}
use Rattle.acc_clauses.proofs.aim_effects.count_over.Given as goal

-- what the tasks that are left make of the count is what all make of it
abbrev pub invariant-loop-x : goal.invariant-loop-x
invariant-loop-x l = record {
  count : l.after < 2 ^ 32 + l.x-index;
  over : count_over l.block l.pointer l.after (drop l.x-index l.acts) ≡ count_over l.block l.pointer l.fn.count l.acts;
}
