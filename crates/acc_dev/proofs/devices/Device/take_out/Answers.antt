use Rattle.std.proofs.lemmas.Result.{err_from_is_err_and}
use Rattle.std.proofs.Common.{◌≡◌, ◌+◌, ◌≤◌, List, ℕ, true, false, None, get_or, refl, sym, ap, ◌∙◌, subst, inl, inr}
use Rattle.acc_base.specs.Bytes.{bytes_of}
use Rattle.acc_base.specs.Loans.{Leased, is_lent, len_of}
use Rattle.acc_dev.specs.Room.{room_ready}
use Rattle.acc_dev.specs.Marks.{is_ended_at}
use Rattle.acc_dev.specs.Device.{number_at, DeviceState, IsTakenOut, IsLoanRefused}
use Rattle.acc_dev.specs.Kept.{stored_bytes, blocks_in, marks_in}
use Rattle.acc_dev.proofs.EndedPlaces.{ended_same}
use Rattle.acc_dev.proofs.Keeping.{device_of, block_listed, filled_slot, bytes_at, room_kept}
use Rattle.acc_dev.proofs.Writes.{lent_kept, taken_out_of}
use Rattle.acc_dev.proofs.Lends.{lent_at, none_here, section_within, capped_at}
use Rattle.acc_dev.proofs.devices.Device.take_out.Goals as goal

pub slot_of_block-slot-requires : goal.slot_of_block-slot-requires
slot_of_block-slot-requires c = (block_listed c.self.inside c.args.self.now c.args.block c.self.view_is c.requires.there)

pub copy_at-requires : goal.copy_at-requires
copy_at-requires c =
    let s = c.self.inside in
    let slot = c.slot_of_block-slot.ensures in
    filled_slot s.holes s.slab.slots s.index.entries c.args.block c.slot_of_block-slot.result c.self.invariant.0 slot

pub returns-then-is_some-clause-refused : goal.returns-then-is_some-clause-refused
returns-then-is_some-clause-refused c =
    let s = c.self.inside in
    let slot = c.slot_of_block-slot.ensures in
    let is = lent_at s.slab.slots s.index.entries c.args.block c.slot_of_block-slot.result c.loan_at.result true c.self.invariant.0.rising c.self.invariant.0.backed slot c.loan_at.ensures (sym c.is_some.ensures ∙ c.if-is_some.true) in
    inl (subst (λ (d : DeviceState). is_lent c.args.block d.loans ≡ true) c.self.view_is is, refl)

pub lend_at-requires-clause-within : goal.lend_at-requires-clause-within
lend_at-requires-clause-within c =
    let s = c.self.inside in
    let kept = c.self.invariant.0 in
    let slot = c.slot_of_block-slot.ensures in
    let free = lent_at s.slab.slots s.index.entries c.args.block c.slot_of_block-slot.result c.loan_at.result false kept.rising kept.backed slot c.loan_at.ensures (sym c.is_some.ensures ∙ c.if-is_some.false) in
    let within = subst (λ (d : DeviceState). c.args.offset + c.args.len ≤ len_of c.args.block d.blocks) (sym c.self.view_is) c.requires.within in
    section_within s.slab.slots s.index.entries c.args.block c.slot_of_block-slot.result c.args.offset c.args.len kept.rising kept.backed slot free within

pub lend_at-requires-clause-capped : goal.lend_at-requires-clause-capped
lend_at-requires-clause-capped c =
    let s = c.self.inside in
    let kept = c.self.invariant.0 in
    let slot = c.slot_of_block-slot.ensures in
    let free = lent_at s.slab.slots s.index.entries c.args.block c.slot_of_block-slot.result c.loan_at.result false kept.rising kept.backed slot c.loan_at.ensures (sym c.is_some.ensures ∙ c.if-is_some.false) in
    capped_at s.holes s.slab.slots s.index.entries c.args.block c.slot_of_block-slot.result kept slot free

pub invariant_of-self : goal.invariant_of-self
invariant_of-self c =
    let s = c.self.inside in
    let slot = c.slot_of_block-slot.ensures in
    let lent = c.lend_at.ensures in
    let mapped = subst (λ (d : DeviceState). is_ended_at c.args.block d.marks ≡ false) (sym c.self.view_is) c.requires.mapped in
    let within = subst (λ (d : DeviceState). c.args.offset + c.args.len ≤ len_of c.args.block d.blocks) (sym c.self.view_is) c.requires.within in
    let none = sym c.loan_at.ensures ∙ none_here c.loan_at.result (sym c.is_some.ensures ∙ c.if-is_some.false) in
    let now = taken_out_of s.holes s.slab c.lend_at.new.slab s.index.entries s.births c.slot_of_block-slot.result (room_ready s) (record { serial = c.args.serial; block = c.args.block; offset = c.args.offset; len = c.args.len }) c.args.keep c.in_ok-stays.stays.items c.self.invariant.0 slot none c.in_ok-stays.ensures.copy lent.lent in (
      lent_kept s.holes s.slab c.lend_at.new.slab s.index.entries c.slot_of_block-slot.result (record { serial = c.args.serial; block = c.args.block; offset = c.args.offset; len = c.args.len }) c.in_ok-stays.stays.items c.self.invariant.0 slot lent.lent mapped within,
      c.self.invariant.1,
      room_kept s c.lend_at.new.slab c.self.invariant.2 lent.slots lent.capacity,
      ended_same s.ended_blocks s.ended_blocks (blocks_in s.slab.slots s.index.entries) (blocks_in c.lend_at.new.slab.slots s.index.entries) (marks_in s.slab.slots s.index.entries) (marks_in c.lend_at.new.slab.slots s.index.entries) s.births c.self.invariant.3 refl refl now.blocks now.marks,
    )

pub returns-clause-free : goal.returns-clause-free
returns-clause-free c =
    let s = c.self.inside in
    let slot = c.slot_of_block-slot.ensures in
    let is = lent_at s.slab.slots s.index.entries c.args.block c.slot_of_block-slot.result c.loan_at.result false c.self.invariant.0.rising c.self.invariant.0.backed slot c.loan_at.ensures (sym c.is_some.ensures ∙ c.if-is_some.false) in
    λ e. subst (λ (d : DeviceState). is_lent c.args.block d.loans ≡ false) c.self.view_is is

pub returns-clause-lease : goal.returns-clause-lease
returns-clause-lease c =
    let s = c.self.inside in
    let slot = c.slot_of_block-slot.ensures in
    let bytes = bytes_at s.slab.slots s.index.entries c.args.block c.slot_of_block-slot.result c.self.invariant.0.rising slot in
    let now = subst (λ (d : DeviceState). bytes_of c.args.block d.memories ≡ stored_bytes (get_or s.slab.slots c.slot_of_block-slot.result None)) c.self.view_is bytes in
    c.lend_at.ensures.lease
    ∙ (ap (λ (n : ℕ). let l : Leased = record { device = n; serial = c.args.serial; block = c.args.block; offset = c.args.offset; len = c.args.len; bytes = stored_bytes (get_or s.slab.slots c.slot_of_block-slot.result None) } in l) c.number-device.ensures
    ∙ ap (λ (b : List ℕ). let l : Leased = record { device = number_at c.args.self.now.memory.start; serial = c.args.serial; block = c.args.block; offset = c.args.offset; len = c.args.len; bytes = b } in l) (sym now))

pub returns-clause-out : goal.returns-clause-out
returns-clause-out c =
    let s = c.self.inside in
    let slot = c.slot_of_block-slot.ensures in
    let none = sym c.loan_at.ensures ∙ none_here c.loan_at.result (sym c.is_some.ensures ∙ c.if-is_some.false) in
    subst (λ (d : DeviceState). IsTakenOut d (device_of s.holes c.lend_at.new.slab.slots s.index.entries s.births (room_ready s)) (record { serial = c.args.serial; block = c.args.block; offset = c.args.offset; len = c.args.len }) c.args.keep) c.self.view_is
    (taken_out_of s.holes s.slab c.lend_at.new.slab s.index.entries s.births c.slot_of_block-slot.result (room_ready s) (record { serial = c.args.serial; block = c.args.block; offset = c.args.offset; len = c.args.len }) c.args.keep c.in_ok-stays.stays.items c.self.invariant.0 slot none c.in_ok-stays.ensures.copy c.lend_at.ensures.lent)

pub returns-in_err-stays-clause-refused : goal.returns-in_err-stays-clause-refused
returns-in_err-stays-clause-refused c =
    let s = c.self.inside in
    let slot = c.slot_of_block-slot.ensures in
    let is = lent_at s.slab.slots s.index.entries c.args.block c.slot_of_block-slot.result c.loan_at.result false c.self.invariant.0.rising c.self.invariant.0.backed slot c.loan_at.ensures (sym c.is_some.ensures ∙ c.if-is_some.false) in
    let refused : IsLoanRefused c.args.self.now c.args.block c.args.keep c.in_err-stays.field-0.0 = inr (subst (λ (d : DeviceState). is_lent c.args.block d.loans ≡ false) c.self.view_is is, c.in_err-stays.ensures.only.0, c.in_err-stays.ensures.only.1) in
    let p = err_from_is_err_and c.from_residual.result c.from_residual.ensures.1 in
    rw (p.1, p.2) refused
