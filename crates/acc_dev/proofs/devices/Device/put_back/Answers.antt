use Rattle.std.proofs.Common.{◌≡◌, ℕ, Option, true, false, refl, sym, ap, ◌∙◌, subst}
use Rattle.std.specs.Prelude.{is_some}
use Rattle.std.proofs.lemmas.Bool.{false≢true}
use Rattle.acc_base.specs.Leases.{is_returnable}
use Rattle.acc_dev.specs.Room.{room_ready}
use Rattle.acc_dev.specs.Device.{number_at, DeviceState, IsPutBack}
use Rattle.acc_dev.specs.Kept.{blocks_in, marks_in}
use Rattle.acc_dev.proofs.EndedPlaces.{ended_same}
use Rattle.acc_dev.proofs.Keeping.{device_of, filled_slot, room_kept}
use Rattle.acc_dev.proofs.Writes.{restored_kept, put_back_of}
use Rattle.acc_dev.proofs.devices.Device.put_back.Goals as goal

pub slot_back-requires-clause-rising : goal.slot_back-requires-clause-rising
slot_back-requires-clause-rising c = c.self.invariant.0.rising

pub slot_back-requires-clause-backed : goal.slot_back-requires-clause-backed
slot_back-requires-clause-backed c = c.self.invariant.0.backed

pub returns-in_default-clause-fits : goal.returns-in_default-clause-fits
returns-in_default-clause-fits c =
    let told = rw c.number.ensures at c.slot_back.ensures.returnable in
    let not = subst (λ (d : DeviceState). is_returnable c.args.kept (number_at c.args.self.now.memory.start) c.args.lease d.blocks d.loans d.memories ≡ false) c.self.view_is (sym told ∙ ap (λ (o : Option ℕ). is_some o) c.in_default.is) in
    (λ e. absurd (false≢true e), λ e. sym not ∙ e)

pub restore_at-requires : goal.restore_at-requires
restore_at-requires c =
    let s = c.self.inside in
    let slot = c.in-Some.ensures.slot in
    filled_slot s.holes s.slab.slots s.index.entries c.args.lease.block c.in-Some.slot c.self.invariant.0 slot

pub invariant_of-self : goal.invariant_of-self
invariant_of-self c =
    let s = c.self.inside in
    let slot = c.in-Some.ensures.slot in
    let back = rw c.into_block.ensures.value at c.restore_at.ensures.restored in
    let now = put_back_of s.holes s.slab c.restore_at.new.slab s.index.entries s.births c.in-Some.slot (room_ready s) c.args.lease c.self.invariant.0 slot back in (
      restored_kept s.holes s.slab c.restore_at.new.slab s.index.entries c.args.lease.block c.in-Some.slot c.args.lease.bytes c.self.invariant.0 slot back c.in-Some.ensures.len,
      c.self.invariant.1,
      room_kept s c.restore_at.new.slab c.self.invariant.2 c.restore_at.ensures.slots c.restore_at.ensures.capacity,
      ended_same s.ended_blocks s.ended_blocks (blocks_in s.slab.slots s.index.entries) (blocks_in c.restore_at.new.slab.slots s.index.entries) (marks_in s.slab.slots s.index.entries) (marks_in c.restore_at.new.slab.slots s.index.entries) s.births c.self.invariant.3 refl refl now.blocks now.marks,
    )

pub returns-clause-fits : goal.returns-clause-fits
returns-clause-fits c =
    let told = rw c.number.ensures at c.slot_back.ensures.returnable in
    (λ e. subst (λ (d : DeviceState). is_returnable c.args.kept (number_at c.args.self.now.memory.start) c.args.lease d.blocks d.loans d.memories ≡ true) c.self.view_is (sym told ∙ ap (λ (o : Option ℕ). is_some o) c.in-Some.is), λ e. refl)

pub returns-clause-put : goal.returns-clause-put
returns-clause-put c =
    let s = c.self.inside in
    let slot = c.in-Some.ensures.slot in
    let back = rw c.into_block.ensures.value at c.restore_at.ensures.restored in
    subst (λ (d : DeviceState). IsPutBack d (device_of s.holes c.restore_at.new.slab.slots s.index.entries s.births (room_ready s)) c.args.lease) c.self.view_is
    (put_back_of s.holes s.slab c.restore_at.new.slab s.index.entries s.births c.in-Some.slot (room_ready s) c.args.lease c.self.invariant.0 slot back)
