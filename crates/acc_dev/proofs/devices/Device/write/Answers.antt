use Rattle.std.proofs.Common.{length, refl, subst}
use Rattle.acc_dev.specs.Room.{room_ready}
use Rattle.acc_dev.specs.Device.{DeviceState, IsBlockWritten}
use Rattle.acc_dev.proofs.Keeping.{device_of, block_listed, filled_slot, room_kept}
use Rattle.acc_dev.specs.Kept.{blocks_in, marks_in}
use Rattle.acc_dev.proofs.EndedPlaces.{ended_same}
use Rattle.acc_dev.proofs.Writes.{within_slot, written_kept, written_of}
use Rattle.acc_dev.proofs.devices.Device.write.Goals as goal

pub slot_of_block-slot-requires : goal.slot_of_block-slot-requires
slot_of_block-slot-requires c = (block_listed c.self.inside c.args.self.now c.args.block c.self.view_is c.requires.there)

pub write_at-requires-clause-filled : goal.write_at-requires-clause-filled
write_at-requires-clause-filled c =
    let s = c.self.inside in
    let slot = c.slot_of_block-slot.ensures in
    filled_slot s.holes s.slab.slots s.index.entries c.args.block c.slot_of_block-slot.result c.self.invariant.0 slot

pub write_at-requires-clause-in_range : goal.write_at-requires-clause-in_range
write_at-requires-clause-in_range c =
    let s = c.self.inside in
    let slot = c.slot_of_block-slot.ensures in
    within_slot s.holes s.slab.slots s.index.entries s.births c.args.block c.slot_of_block-slot.result c.args.offset (length c.args.bytes.now) (room_ready s) c.args.self.now c.self.view_is c.self.invariant.0.rising slot c.requires.in_range

pub invariant_of-self : goal.invariant_of-self
invariant_of-self c =
    let s = c.self.inside in
    let slot = c.slot_of_block-slot.ensures in
    let written = c.write_at.ensures in
    let within = within_slot s.holes s.slab.slots s.index.entries s.births c.args.block c.slot_of_block-slot.result c.args.offset (length c.args.bytes.now) (room_ready s) c.args.self.now c.self.view_is c.self.invariant.0.rising slot c.requires.in_range in
    let now = written_of s.holes s.slab c.write_at.new.slab s.index.entries s.births c.args.block c.slot_of_block-slot.result c.args.offset (room_ready s) c.args.bytes.now c.self.invariant.0 slot written.written in (
      written_kept s.holes s.slab c.write_at.new.slab s.index.entries c.args.block c.slot_of_block-slot.result c.args.offset c.args.bytes.now c.self.invariant.0 slot within written.written,
      c.self.invariant.1,
      room_kept s c.write_at.new.slab c.self.invariant.2 written.slots written.capacity,
      ended_same s.ended_blocks s.ended_blocks (blocks_in s.slab.slots s.index.entries) (blocks_in c.write_at.new.slab.slots s.index.entries) (marks_in s.slab.slots s.index.entries) (marks_in c.write_at.new.slab.slots s.index.entries) s.births c.self.invariant.3 refl refl now.blocks now.marks,
    )

pub returns : goal.returns
returns c =
    let s = c.self.inside in
    let slot = c.slot_of_block-slot.ensures in
    subst (λ (d : DeviceState). IsBlockWritten d (device_of s.holes c.write_at.new.slab.slots s.index.entries s.births (room_ready s)) c.args.block c.args.offset c.args.bytes.now) c.self.view_is
    (written_of s.holes s.slab c.write_at.new.slab s.index.entries s.births c.args.block c.slot_of_block-slot.result c.args.offset (room_ready s) c.args.bytes.now c.self.invariant.0 slot c.write_at.ensures.written)
