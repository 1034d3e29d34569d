use Rattle.std.proofs.Common.{refl, arith}
use Rattle.acc_dev.specs.Marks.{without_pin}
use Rattle.acc_dev.proofs.devices.Device.unpin.Goals as goal

pub mark-requires-clause-few : goal.mark-requires-clause-few
mark-requires-clause-few c = omega (arith, c.mark_of-pins.ensures.few)

pub returns-clause-unpinned : goal.returns-clause-unpinned
returns-clause-unpinned c = let m = c.mark_of-pins.ensures in c.mark.ensures without_pin (rw (m.pins, m.ended) refl)
