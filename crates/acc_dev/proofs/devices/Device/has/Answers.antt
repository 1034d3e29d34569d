use Rattle.std.proofs.Common.{◌↔◌, subst}
use Rattle.std.specs.Prelude.{IsTrue}
use Rattle.acc_dev.specs.Device.{DeviceState, HasBlock}
use Rattle.acc_dev.proofs.Keeping.{found_there}
use Rattle.acc_dev.proofs.devices.Device.has.Goals as goal

pub returns : goal.returns
returns c =
    let s = c.self.inside in
    let there = found_there s.slab.slots s.index.entries c.args.block c.slot.result c.self.invariant.0.rising c.slot.ensures.found c.slot.ensures.none in
    rw c.is_some.ensures (subst (λ (d : DeviceState). IsTrue (Rattle.std.specs.Prelude.is_some c.slot.result) ↔ HasBlock d c.args.block) c.self.view_is there)
