use Rattle.std.proofs.Common.{subst}
use Rattle.acc_base.specs.Holes.{IsLeft}
use Rattle.acc_dev.specs.Device.{DeviceState}
use Rattle.acc_dev.proofs.Keeping.{holes_kept}
use Rattle.acc_dev.proofs.devices.Device.free.Goals as goal

pub returns : goal.returns
returns c =
    let d = c.self.inside in
    subst (λ (x : DeviceState). IsLeft x.memory x.blocks c.free.result) c.self.view_is (d.holes.holes, holes_kept d.holes d.slab.slots d.index.entries c.self.invariant.0, c.free.ensures)
