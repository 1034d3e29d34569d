use Rattle.std.proofs.Common.{refl}
use Rattle.acc_dev.specs.Marks.{with_pin}
use Rattle.acc_dev.proofs.devices.Device.pin.Goals as goal

pub returns : goal.returns
returns c = let m = c.mark_of-pins.ensures in c.mark.ensures with_pin (rw (m.pins, m.ended) refl)
