use Rattle.std.proofs.Common.{List, [], ◌∷◌, ◌++◌, vec_capacity, Vec, Global, ◌≡◌, ◌+◌, ℕ, length, None, refl, sym, ap, ◌∙◌, subst}
use Rattle.std.specs.Prelude.{map}
use Rattle.std.specs.List.{AllByRecursion}
use Rattle.acc_dev.specs.Device.{DeviceState, IsBornWith, birth_place}
use Rattle.acc_dev.specs.declared.devices.Device.TheInside.{Inside}
use Rattle.acc_dev.specs.Room.{room_ready, HasRoom}
use Rattle.acc_dev.proofs.Keeping.{device_of, room_used}
use Rattle.acc_dev.proofs.Births.{born_with, born_counted, above_all, fits_there}
use Rattle.acc_dev.proofs.Ending.{ended_put}
use Rattle.acc_dev.proofs.devices.Device.born_with_reserved.Goals as goal

-- an empty vector that the given bytes were put into has these
given_is : (d : Inside) (v : Vec ℕ Global) (vs : List (Vec ℕ Global)) (given bytes : List ℕ) → HasRoom d → d.ready.items ≡ v ∷ vs → bytes ≡ v.items ++ given → bytes ≡ given
given_is d v vs given bytes r items is =
    let empty : AllByRecursion (λ (u : Vec ℕ Global). u.items ≡ []) (v ∷ vs) = subst (λ (us : List (Vec ℕ Global)). AllByRecursion (λ u. u.items ≡ []) us) items r.empty in
    is ∙ ap (λ (b : List ℕ). b ++ given) empty.0

pub put-requires-clause-above : goal.put-requires-clause-above
put-requires-clause-above c = above_all c.self.inside.index.entries c.self.inside.index.entries c.self.inside.births c.self.invariant.1 refl

pub put-requires-clause-fits : goal.put-requires-clause-fits
put-requires-clause-fits c =
    let d = c.self.inside in
    let there : birth_place (device_of d.holes d.slab.slots d.index.entries d.births (room_ready d)) (length c.args.given.now) ≡ None → ⊥ = subst (λ (x : DeviceState). birth_place x (length c.args.given.now) ≡ None → ⊥) (sym c.self.view_is) c.requires.fits in
    rw (given_is c.self.inside c.in-Some.bytes c.pop_front.new.self.items c.args.given.now c.extend_from_slice.new.self.items c.self.invariant.2 c.in-Some.ensures.items c.in-Ok.ensures.items)
    (fits_there d.holes d.slab.slots d.index.entries d.births (length c.args.given.now) (room_ready d) c.self.invariant.0 there)

pub invariant_of-self : goal.invariant_of-self
invariant_of-self c =
    let s = c.self.inside in
    let births = rw (← c.self.view_is) at c.requires.births in
    let put = c.put.ensures in
    let left : Inside = record { alloc = s.alloc; holes = c.put.new.holes; slab = c.put.new.slab; index = c.put.new.index; ended_blocks = c.put.new.ended; births = s.births + 1; ready = c.pop_front.new.self } in (
      put.kept,
      born_counted s.index.entries c.put.new.index.entries s.births put.index.0 c.self.invariant.1 births put.index.1,
      room_used s left c.in-Some.bytes c.self.invariant.2 c.in-Some.ensures.items put.spare put.slots put.slab_capacity put.room_index put.room_rows,
      ended_put s.ended_blocks s.ended_blocks c.put.new.ended s.slab.slots s.slab.slots c.put.new.slab.slots s.index.entries s.index.entries c.put.new.index.entries s.births _ _ c.self.invariant.3 c.self.invariant.1 refl refl refl refl put.blocks put.marks put.ended put.mapped,
    )

pub returns-clause-born : goal.returns-clause-born
returns-clause-born c =
    let d = c.self.inside in
    let left = map (λ v. vec_capacity v) c.pop_front.new.self.items in
    let is = given_is c.self.inside c.in-Some.bytes c.pop_front.new.self.items c.args.given.now c.extend_from_slice.new.self.items c.self.invariant.2 c.in-Some.ensures.items c.in-Ok.ensures.items in
    let born = born_with d.holes c.put.new.holes d.slab.slots d.slab.slots c.put.new.slab.slots d.index.entries d.index.entries c.put.new.index.entries d.births (length c.args.given.now) c.put.result c.extend_from_slice.new.self.items (room_ready d) left
    c.self.invariant.0 c.requires.len.0 refl refl c.put.ensures.memory (ap length is) c.put.ensures.place c.put.ensures.blocks c.put.ensures.memories c.put.ensures.marks c.put.ensures.loans in
    subst (λ (x : DeviceState). IsBornWith x (device_of c.put.new.holes c.put.new.slab.slots c.put.new.index.entries (d.births + 1) left) (length c.args.given.now) c.args.given.now (d.births + 1)) c.self.view_is
    (subst (λ (b : List ℕ). IsBornWith (device_of d.holes d.slab.slots d.index.entries d.births (room_ready d)) (device_of c.put.new.holes c.put.new.slab.slots c.put.new.index.entries (d.births + 1) left) (length c.args.given.now) b (d.births + 1)) is born)
