use Rattle.std.proofs.Common.{subst}
use Rattle.acc_dev.specs.Device.{DeviceState}
use Rattle.acc_dev.specs.Kept.{IsStoredOf}
use Rattle.acc_dev.specs.Room.{room_ready}
use Rattle.acc_dev.proofs.Keeping.{block_listed, filled_slot, stored_of}
use Rattle.acc_dev.proofs.devices.Device.stored_near.Goals as goal

pub slot_near-requires : goal.slot_near-requires
slot_near-requires c = (block_listed c.self.inside c.args.self.now c.args.block c.self.view_is c.requires)

pub index-requires : goal.index-requires
index-requires c =
    let s = c.self.inside in
    let slot = c.slot_near.ensures in
    filled_slot s.holes s.slab.slots s.index.entries c.args.block c.slot_near.result c.self.invariant.0 slot

pub returns : goal.returns
returns c =
    let s = c.self.inside in
    let slot = c.slot_near.ensures in
    subst (λ (d : DeviceState). IsStoredOf d c.args.block c.index.result.now) c.self.view_is
    (stored_of s.holes s.slab.slots s.index.entries s.births c.args.block c.slot_near.result (room_ready s) c.index.result.now c.self.invariant.0 slot c.index.ensures)
