use Rattle.std.proofs.Common.{◌≡◌, Bool, true, false, sym, ap, subst}
use Rattle.acc_base.specs.Loans.{is_lent}
use Rattle.acc_dev.specs.Room.{room_ready}
use Rattle.acc_dev.specs.Device.{DeviceState, IsMarked}
use Rattle.acc_dev.specs.Marks.{Mark, is_ended_at}
use Rattle.acc_dev.specs.Kept.{blocks_in, marks_in}
use Rattle.acc_dev.proofs.EndedPlaces.{with_pins, ended_pinned}
use Rattle.acc_dev.proofs.Keeping.{device_of, block_listed, filled_slot, room_kept}
use Rattle.acc_dev.proofs.Writes.{marked_kept, marked_of, lent_mapped}
use Rattle.acc_dev.proofs.devices.Device.mark.Goals as goal

pub slot_near-slot-requires : goal.slot_near-slot-requires
slot_near-slot-requires c = (block_listed c.self.inside c.args.self.now c.args.block c.self.view_is c.requires.there)

pub set_mark-requires : goal.set_mark-requires
set_mark-requires c =
    let s = c.self.inside in
    let slot = c.slot_near-slot.ensures in
    filled_slot s.holes s.slab.slots s.index.entries c.args.block c.slot_near-slot.result c.self.invariant.0 slot

pub invariant_of-self : goal.invariant_of-self
invariant_of-self c =
    let s = c.self.inside in
    let kept = c.self.invariant.0 in
    let slot = c.slot_near-slot.ensures in
    let marked = c.set_mark.ensures in
    let free = subst (λ (d : DeviceState). c.args.ended ≡ true → is_lent c.args.block d.loans ≡ false) (sym c.self.view_is) c.requires.free in
    let same = subst (λ (d : DeviceState). c.args.ended ≡ is_ended_at c.args.block d.marks) (sym c.self.view_is) c.requires.is in
    let now = marked_of s.holes s.slab c.set_mark.new.slab s.index.entries s.births c.args.block c.slot_near-slot.result c.args.pins c.args.ended (room_ready s) (with_pins c.args.pins) kept slot marked.marked
    (ap (λ (b : Bool). let m : Mark = record { block = c.args.block; pins = c.args.pins; ended = b } in m) (sym same)) in (
      marked_kept s.holes s.slab c.set_mark.new.slab s.index.entries c.slot_near-slot.result c.args.pins c.args.ended kept
          (filled_slot s.holes s.slab.slots s.index.entries c.args.block c.slot_near-slot.result kept slot)
          (λ n. record { few = c.requires.few; held = c.requires.held })
          (lent_mapped s.slab.slots s.index.entries c.args.block c.slot_near-slot.result c.args.ended kept.rising kept.backed slot free) marked.marked,
      c.self.invariant.1,
      room_kept s c.set_mark.new.slab c.self.invariant.2 marked.slots marked.capacity,
      rw (now.blocks, now.marks) (ended_pinned s.ended_blocks (blocks_in s.slab.slots s.index.entries) (marks_in s.slab.slots s.index.entries) s.births c.args.block c.args.pins c.self.invariant.3),
    )

pub returns : goal.returns
returns c change is =
    let s = c.self.inside in
    let slot = c.slot_near-slot.ensures in
    subst (λ (d : DeviceState). IsMarked d (device_of s.holes c.set_mark.new.slab.slots s.index.entries s.births (room_ready s)) c.args.block change) c.self.view_is
    (marked_of s.holes s.slab c.set_mark.new.slab s.index.entries s.births c.args.block c.slot_near-slot.result c.args.pins c.args.ended (room_ready s) change c.self.invariant.0 slot c.set_mark.ensures.marked
    (rw (← c.self.view_is) at is))
