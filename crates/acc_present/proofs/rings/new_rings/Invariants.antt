use Rattle.std.proofs.Common.{◌≡◌}
use Rattle.std.specs.Prelude.{replicate, []}
use Rattle.acc_present.specs.KeptRings.{queues_in}
use Rattle.acc_present.proofs.rings.new_rings.Given as goal

abbrev pub invariant-loop : goal.invariant-loop
invariant-loop l = queues_in l.rings.items ≡ replicate l.counter []
