use Rattle.std.proofs.Common.{◌≡◌}
use Rattle.acc_stale.proofs.Parts.{outdated_to}
use Rattle.acc_stale.proofs.known.Known.wrote.Given as goal

abbrev pub invariant-loop-part : goal.invariant-loop-part
invariant-loop-part l = l.self ≡ outdated_to l.part-index l.parts l.initial.self
