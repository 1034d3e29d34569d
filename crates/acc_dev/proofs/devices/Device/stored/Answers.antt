use Rattle.std.proofs.Common.{subst}
use Rattle.acc_dev.specs.Device.{DeviceState}
use Rattle.acc_dev.specs.Kept.{IsStoredOf}
use Rattle.acc_dev.specs.Room.{room_ready}
use Rattle.acc_dev.proofs.Keeping.{block_listed, filled_slot, stored_of}
use Rattle.acc_dev.proofs.devices.Device.stored.Goals as goal

pub slot_of_block-requires : goal.slot_of_block-requires
slot_of_block-requires c = (block_listed c.self.inside c.args.self.now c.args.block c.self.view_is c.requires)

pub index-requires : goal.index-requires
index-requires c =
    let s = c.self.inside in
    let slot = c.slot_of_block.ensures in
    filled_slot s.holes s.slab.slots s.index.entries c.args.block c.slot_of_block.result c.self.invariant.0 slot

pub returns : goal.returns
returns c =
    let s = c.self.inside in
    let slot = c.slot_of_block.ensures in
    subst (λ (d : DeviceState). IsStoredOf d c.args.block c.index.result.now) c.self.view_is
    (stored_of s.holes s.slab.slots s.index.entries s.births c.args.block c.slot_of_block.result (room_ready s) c.index.result.now c.self.invariant.0 slot c.index.ensures)
