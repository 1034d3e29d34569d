use Rattle.std.proofs.Common.{◌≡◌, take}
use Rattle.std.specs.Prelude.{map}
use Rattle.std.specs.Vec.{vec_items}
use Rattle.acc_present.specs.KeptRings.{queues_in}
use Rattle.acc_present.proofs.rings.copy_rings.Given as goal

-- the rings so far are copied
abbrev pub invariant-loop-ring : goal.invariant-loop-ring
invariant-loop-ring l = map vec_items l.copied.items ≡ queues_in (take l.ring-index l.rings)
