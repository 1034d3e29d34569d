use Rattle.std.proofs.Common.{◌≡◌, replicate}
use Rattle.acc_stale.specs.declared.marks.Mark.TheVariants.{New}
use Rattle.acc_stale.proofs.known.Known.new.Given as goal

abbrev pub invariant-loop : goal.invariant-loop
invariant-loop l = l.devices.items ≡ replicate l.counter (replicate l.device New)
