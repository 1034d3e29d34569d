use Rattle.std.proofs.Common.{◌≡◌, ℕ, true, false, sym, ap, subst, arith}
use Rattle.acc_base.specs.Loans.{is_lent}
use Rattle.acc_dev.specs.Room.{room_ready}
use Rattle.acc_dev.specs.Device.{DeviceState, IsEnded}
use Rattle.acc_dev.specs.Marks.{Mark, with_end, pins_at}
use Rattle.acc_dev.specs.Kept.{blocks_in, marks_in}
use Rattle.acc_dev.proofs.Keeping.{device_of, block_listed, filled_slot, room_kept}
use Rattle.acc_dev.proofs.Writes.{marked_kept, marked_of, lent_mapped}
use Rattle.acc_dev.proofs.EndedPlaces.{not_kept, counted_there, ended_now}
use Rattle.acc_dev.proofs.Ending.{mapped_stored}
use Rattle.acc_dev.proofs.devices.Device.end.Goals as goal

pub slot_near-slot-requires : goal.slot_near-slot-requires
slot_near-slot-requires c = block_listed c.self.inside c.args.self.now c.args.block c.self.view_is c.requires.there

pub set_mark-requires : goal.set_mark-requires
set_mark-requires c =
    let s = c.self.inside in
    filled_slot s.holes s.slab.slots s.index.entries c.args.block c.slot_near-slot.result c.self.invariant.0 c.slot_near-slot.ensures

pub end-requires-clause-mapped : goal.end-requires-clause-mapped
end-requires-clause-mapped c =
    let s = c.self.inside in
    let found = mapped_stored s.holes s.slab.slots s.index.entries s.births c.args.block (room_ready s) c.stored_near.result.now c.args.self.now c.self.invariant.0 c.self.invariant.1 c.self.view_is c.stored_near.ensures c.requires.mapped in
    counted_there s.ended_blocks (blocks_in s.slab.slots s.index.entries) (marks_in s.slab.slots s.index.entries) s.births c.args.block _ c.self.invariant.3 found

pub end-requires-clause-new : goal.end-requires-clause-new
end-requires-clause-new c =
    let s = c.self.inside in
    let found = mapped_stored s.holes s.slab.slots s.index.entries s.births c.args.block (room_ready s) c.stored_near.result.now c.args.self.now c.self.invariant.0 c.self.invariant.1 c.self.view_is c.stored_near.ensures c.requires.mapped in
    not_kept s.ended_blocks (blocks_in s.slab.slots s.index.entries) (marks_in s.slab.slots s.index.entries) s.births c.args.block _ c.self.invariant.3 found

pub invariant_of-self : goal.invariant_of-self
invariant_of-self c =
    let s = c.self.inside in
    let kept = c.self.invariant.0 in
    let slot = c.slot_near-slot.ensures in
    let marked = c.set_mark.ensures in
    let r = c.self.invariant.2 in
    let room = room_kept s c.set_mark.new.slab r marked.slots marked.capacity in
    let pins : c.args.pins ≡ pins_at c.args.block (marks_in s.slab.slots s.index.entries) = subst (λ (d : DeviceState). c.args.pins ≡ pins_at c.args.block d.marks) (sym c.self.view_is) c.requires.pins in
    let free : is_lent c.args.block (device_of s.holes s.slab.slots s.index.entries s.births (room_ready s)).loans ≡ false = subst (λ (d : DeviceState). is_lent c.args.block d.loans ≡ false) (sym c.self.view_is) c.requires.free in
    let found = mapped_stored s.holes s.slab.slots s.index.entries s.births c.args.block (room_ready s) c.stored_near.result.now c.args.self.now kept c.self.invariant.1 c.self.view_is c.stored_near.ensures c.requires.mapped in
    let now = marked_of s.holes s.slab c.set_mark.new.slab s.index.entries s.births c.args.block c.slot_near-slot.result c.args.pins true (room_ready s) with_end kept slot marked.marked
    (ap (λ (p : ℕ). let m : Mark = record { block = c.args.block; pins = p; ended = true } in m) (sym pins)) in (
      marked_kept s.holes s.slab c.set_mark.new.slab s.index.entries c.slot_near-slot.result c.args.pins true kept
          (filled_slot s.holes s.slab.slots s.index.entries c.args.block c.slot_near-slot.result kept slot)
          (λ n. record { few = omega (arith, c.stored_near.ensures.few, c.stored_near.ensures.pins, c.requires.pins); held = λ ended. c.requires.held })
          (lent_mapped s.slab.slots s.index.entries c.args.block c.slot_near-slot.result true kept.rising kept.backed slot (λ ended. free)) marked.marked,
      c.self.invariant.1,
      record { few = r.few; empty = r.empty; holes = r.holes; slots = room.slots; entries = r.entries; ended = omega (arith, r.ended, c.end.ensures.room) },
      rw (now.blocks, now.marks) (ended_now s.ended_blocks c.end.new.self (blocks_in s.slab.slots s.index.entries) (marks_in s.slab.slots s.index.entries) s.births c.args.block (record { number = c.args.block; place = c.stored_near.result.now.place; len = c.stored_near.result.now.len }) c.self.invariant.3 found c.end.ensures.entries c.end.ensures.mapped),
    )

pub returns : goal.returns
returns c =
    let s = c.self.inside in
    let slot = c.slot_near-slot.ensures in
    let pins : c.args.pins ≡ pins_at c.args.block (marks_in s.slab.slots s.index.entries) = subst (λ (d : DeviceState). c.args.pins ≡ pins_at c.args.block d.marks) (sym c.self.view_is) c.requires.pins in
    subst (λ (d : DeviceState). IsEnded d (device_of s.holes c.set_mark.new.slab.slots s.index.entries s.births (room_ready s)) c.args.block) c.self.view_is
    (marked_of s.holes s.slab c.set_mark.new.slab s.index.entries s.births c.args.block c.slot_near-slot.result c.args.pins true (room_ready s) with_end c.self.invariant.0 slot c.set_mark.ensures.marked
    (ap (λ (p : ℕ). let m : Mark = record { block = c.args.block; pins = p; ended = true } in m) (sym pins)))
