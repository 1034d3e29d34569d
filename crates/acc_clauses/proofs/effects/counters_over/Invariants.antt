use Rattle.std.proofs.Common.{◌≡◌, ◌+◌, ◌<◌, ◌^◌, drop}
use Rattle.acc_clauses.specs.Overlays.{counters_over}
use Rattle.acc_clauses.proofs.effects.counters_over.Given as goal

-- what the tasks that are left make of the counters is what all make of them
abbrev pub invariant-loop-x : goal.invariant-loop-x
invariant-loop-x l = record {
  structured : l.after.structured < 2 ^ 32 + l.x-index;
  dynamic : l.after.dynamic < 2 ^ 32 + l.x-index;
  over : counters_over l.block l.after (drop l.x-index l.acts) ≡ counters_over l.block l.fn.counters l.acts;
}
