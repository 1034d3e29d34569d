use Rattle.std.proofs.Common.{◌≡◌, ◌+◌, ◌≤◌, ℕ, [], Option, Err, ap, ◌∙◌, sym, subst, rules, arith}
use Rattle.acc_base.specs.declared.faults.Fault.TheVariants.{DeviceFull}
use Rattle.acc_base.specs.Blocks.{rounded, IsPlaceFor}
use Rattle.std.specs.Prelude.{IfSome, IfNone}
use Rattle.acc_placement.specs.Ranges.{IsFitBeside, IsLeastFitBeside}
use Rattle.acc_dev.specs.Room.{room_ready, HasRoom}
use Rattle.acc_dev.specs.Device.{DeviceState, IsBorn, birth_place}
use Rattle.acc_dev.specs.Kept.{AreSlotsKept}
use Rattle.acc_dev.specs.declared.devices.Device.TheInside.{Inside}
use Rattle.acc_dev.proofs.Keeping.{device_of, same_memory}
use Rattle.acc_dev.proofs.Births.{birth_found, birth_least, refused_full, born_of, born_counted, above_all, there_after_birth, filled_after_birth}
use Rattle.acc_dev.proofs.Ending.{ended_put}
use Rattle.acc_dev.proofs.devices.Device.born.Goals as goal

-- the place of a birth is the least, as contracts see the device
least : (d : Inside) (now : DeviceState) (len : ℕ) → device_of d.holes d.slab.slots d.index.entries d.births (room_ready d) ≡ now → AreSlotsKept d.holes d.slab.slots d.index.entries → 1 ≤ len → IsPlaceFor now.memory now.blocks (rounded len) (birth_place now len)
least d now len is k some = subst (λ (x : DeviceState). IsPlaceFor x.memory x.blocks (rounded len) (birth_place x len)) is (birth_least d.holes d.slab.slots d.index.entries d.births len (room_ready d) k some)

-- the look-up finds the place of the birth, as contracts see the device
found : (d : Inside) (now : DeviceState) (len : ℕ) (o : Option ℕ) → device_of d.holes d.slab.slots d.index.entries d.births (room_ready d) ≡ now → AreSlotsKept d.holes d.slab.slots d.index.entries → 1 ≤ len
    → IfSome o (IsLeastFitBeside d.holes.holes [] (rounded len)) → IfNone o ((q : ℕ) → IsFitBeside d.holes.holes [] (rounded len) q → ⊥) → o ≡ birth_place now len
found d now len o is k some place none = subst (λ (x : DeviceState). o ≡ birth_place x len) is (birth_found d.holes d.slab.slots d.index.entries d.births len (room_ready d) o k some place none)

pub returns-in_default-clause-least : goal.returns-in_default-clause-least
returns-in_default-clause-least c = least c.self.inside c.args.self.now c.args.len c.self.view_is c.self.invariant.0 c.requires.len.0

pub returns-in_err-bytes-clause-least : goal.returns-in_err-bytes-clause-least
returns-in_err-bytes-clause-least c = least c.self.inside c.args.self.now c.args.len c.self.view_is c.self.invariant.0 c.requires.len.0

pub returns-in_err-make_room-clause-least : goal.returns-in_err-make_room-clause-least
returns-in_err-make_room-clause-least c = least c.self.inside c.args.self.now c.args.len c.self.view_is c.self.invariant.0 c.requires.len.0

pub returns-clause-least : goal.returns-clause-least
returns-clause-least c = least c.self.inside c.args.self.now c.args.len c.self.view_is c.self.invariant.0 c.requires.len.0

pub returns-in_default-clause-full : goal.returns-in_default-clause-full
returns-in_default-clause-full c =
    let place = found c.self.inside c.args.self.now c.args.len c.would_take.result c.self.view_is c.self.invariant.0 c.requires.len.0 c.would_take.ensures.place c.would_take.ensures.none in
    (λ full. sym place ∙ c.in_default.is, λ none. ap (λ (n : ℕ). Err (DeviceFull 0 n)) c.rounded.ensures.value)

pub returns-in_err-bytes-clause-full : goal.returns-in_err-bytes-clause-full
returns-in_err-bytes-clause-full c =
    let place = found c.self.inside c.args.self.now c.args.len c.would_take.result c.self.view_is c.self.invariant.0 c.requires.len.0 c.would_take.ensures.place c.would_take.ensures.none in
    refused_full c.from_residual.result (birth_place c.args.self.now c.args.len) c.in-Some.field-0 (rounded c.args.len) (search rules) (sym place ∙ c.in-Some.is)

pub returns-in_err-make_room-clause-full : goal.returns-in_err-make_room-clause-full
returns-in_err-make_room-clause-full c =
    let place = found c.self.inside c.args.self.now c.args.len c.would_take.result c.self.view_is c.self.invariant.0 c.requires.len.0 c.would_take.ensures.place c.would_take.ensures.none in
    refused_full c.from_residual-in_err-make_room.result (birth_place c.args.self.now c.args.len) c.in-Some.field-0 (rounded c.args.len) (search rules) (sym place ∙ c.in-Some.is)

pub returns-clause-full : goal.returns-clause-full
returns-clause-full c =
    let place = found c.self.inside c.args.self.now c.args.len c.would_take.result c.self.view_is c.self.invariant.0 c.requires.len.0 c.would_take.ensures.place c.would_take.ensures.none in
    let there = sym place ∙ c.in-Some.is in
    (λ full. cc, λ none. let bad : ⊥ = cc in absurd bad)

pub put-requires-clause-above : goal.put-requires-clause-above
put-requires-clause-above c = above_all c.self.inside.index.entries c.make_room.new.index.entries c.self.inside.births c.self.invariant.1 c.in_ok-make_room.ensures.index

-- the room that was there is left
room_left : (c : goal.After-self-1) → HasRoom (record { alloc = c.self.inside.alloc; holes = c.put.new.holes; slab = c.put.new.slab; index = c.put.new.index; ended_blocks = c.put.new.ended; births = c.self.inside.births + 1; ready = c.self.inside.ready })
room_left c =
    let r = c.self.invariant.2 in
    let room = c.in_ok-make_room.ensures in
    let put = c.put.ensures in
    record { few = r.few; empty = r.empty; holes = omega (arith, room.room_taken, put.spare); slots = omega (arith, room.room_slot, put.slots, put.slab_capacity); entries = omega (arith, room.room_entry, put.room_index); ended = omega (arith, room.room_ended, put.room_rows) }

pub invariant_of-self-2 : goal.invariant_of-self-2
invariant_of-self-2 c =
    let births = rw (← c.self.view_is) at c.requires.births in
    let entry = rw c.in_ok-make_room.ensures.index at c.put.ensures.index in (
      c.put.ensures.kept,
      born_counted c.self.inside.index.entries c.put.new.index.entries c.self.inside.births entry.0 c.self.invariant.1 births entry.1,
      room_left c,
      ended_put c.self.inside.ended_blocks c.make_room.new.ended c.put.new.ended c.self.inside.slab.slots c.make_room.new.slab.slots c.put.new.slab.slots c.self.inside.index.entries c.make_room.new.index.entries c.put.new.index.entries c.self.inside.births _ _
          c.self.invariant.3 c.self.invariant.1 c.in_ok-make_room.ensures.ended c.in_ok-make_room.ensures.mapped c.in_ok-make_room.ensures.slots c.in_ok-make_room.ensures.index c.put.ensures.blocks c.put.ensures.marks c.put.ensures.ended c.put.ensures.mapped,
    )

born : (c : goal.After-self-1) → IsBorn (device_of c.self.inside.holes c.self.inside.slab.slots c.self.inside.index.entries c.self.inside.births (room_ready c.self.inside)) (device_of c.put.new.holes c.put.new.slab.slots c.put.new.index.entries (c.self.inside.births + 1) (room_ready c.self.inside)) c.args.len c.args.zero (c.self.inside.births + 1)
born c =
    let d = c.self.inside in
    let room = c.in_ok-make_room.ensures in
    let fits = rw room.holes.holes at c.put.ensures.place in
    born_of d.holes c.put.new.holes d.slab.slots c.make_room.new.slab.slots c.put.new.slab.slots d.index.entries c.make_room.new.index.entries c.put.new.index.entries d.births c.args.len c.put.result c.args.zero c.in_ok-bytes.bytes.items (room_ready d) (room_ready d)
    c.self.invariant.0 c.requires.len.0 room.slots room.index (c.put.ensures.memory ∙ same_memory c.self.inside.holes c.make_room.new.holes room.holes.base room.holes.size) c.in_ok-bytes.ensures.ok fits c.put.ensures.blocks c.put.ensures.memories c.put.ensures.marks c.put.ensures.loans

pub returns-clause-born : goal.returns-clause-born
returns-clause-born c =
    let d = c.self.inside in
    subst (λ (x : DeviceState). IsBorn x (device_of c.put.new.holes c.put.new.slab.slots c.put.new.index.entries (d.births + 1) (room_ready d)) c.args.len c.args.zero (d.births + 1)) c.self.view_is (born c)

pub returns-clause-there : goal.returns-clause-there
returns-clause-there c = there_after_birth _ _ c.args.len c.args.zero (c.self.inside.births + 1) (born c)

pub returns-clause-filled : goal.returns-clause-filled
returns-clause-filled c = filled_after_birth c.self.inside.holes c.self.inside.slab.slots c.self.inside.index.entries c.self.inside.births c.args.len c.args.zero (room_ready c.self.inside) _ c.self.invariant.1 (born c)
