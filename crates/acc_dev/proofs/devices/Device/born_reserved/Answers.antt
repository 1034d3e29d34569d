use Rattle.std.proofs.Common.{vec_capacity, ◌≡◌, ◌+◌, length, None, refl, sym, ap, ◌∙◌, subst}
use Rattle.std.specs.Prelude.{map}
use Rattle.std.proofs.lemmas.List.{length-replicate}
use Rattle.acc_base.specs.Bytes.{fill_byte}
use Rattle.acc_dev.specs.Device.{DeviceState, IsBorn, birth_place}
use Rattle.acc_dev.specs.declared.devices.Device.TheInside.{Inside}
use Rattle.acc_dev.specs.Room.{room_ready}
use Rattle.acc_dev.proofs.Keeping.{device_of, room_used}
use Rattle.acc_dev.proofs.Births.{born_of, born_counted, above_all, fits_there}
use Rattle.acc_dev.proofs.Ending.{ended_put}
use Rattle.acc_dev.proofs.devices.Device.born_reserved.Goals as goal

pub put-requires-clause-above : goal.put-requires-clause-above
put-requires-clause-above c = above_all c.self.inside.index.entries c.self.inside.index.entries c.self.inside.births c.self.invariant.1 refl

pub put-requires-clause-fits : goal.put-requires-clause-fits
put-requires-clause-fits c =
    let d = c.self.inside in
    let long : length c.fill.new.bytes.items ≡ c.args.len = ap length c.fill.ensures ∙ length-replicate c.args.len (fill_byte c.args.zero) in
    let there : birth_place (device_of d.holes d.slab.slots d.index.entries d.births (room_ready d)) c.args.len ≡ None → ⊥ = subst (λ (x : DeviceState). birth_place x c.args.len ≡ None → ⊥) (sym c.self.view_is) c.requires.fits in
    rw long (fits_there d.holes d.slab.slots d.index.entries d.births c.args.len (room_ready d) c.self.invariant.0 there)

pub invariant_of-self : goal.invariant_of-self
invariant_of-self c =
    let s = c.self.inside in
    let births = rw (← c.self.view_is) at c.requires.births in
    let put = c.put.ensures in
    let left : Inside = record { alloc = s.alloc; holes = c.put.new.holes; slab = c.put.new.slab; index = c.put.new.index; ended_blocks = c.put.new.ended; births = s.births + 1; ready = c.pop_front.new.self } in (
      put.kept,
      born_counted s.index.entries c.put.new.index.entries s.births put.index.0 c.self.invariant.1 births put.index.1,
      room_used s left c.in-Some.bytes c.self.invariant.2 c.in-Some.ensures.items put.spare put.slots put.slab_capacity put.room_index put.room_rows,
      ended_put s.ended_blocks s.ended_blocks c.put.new.ended s.slab.slots s.slab.slots c.put.new.slab.slots s.index.entries s.index.entries c.put.new.index.entries s.births _ _ c.self.invariant.3 c.self.invariant.1 refl refl refl refl put.blocks put.marks put.ended put.mapped,
    )

pub returns-clause-born : goal.returns-clause-born
returns-clause-born c =
    let d = c.self.inside in
    let left = map (λ v. vec_capacity v) c.pop_front.new.self.items in
    subst (λ (x : DeviceState). IsBorn x (device_of c.put.new.holes c.put.new.slab.slots c.put.new.index.entries (d.births + 1) left) c.args.len c.args.zero (d.births + 1)) c.self.view_is
    (born_of d.holes c.put.new.holes d.slab.slots d.slab.slots c.put.new.slab.slots d.index.entries d.index.entries c.put.new.index.entries d.births c.args.len c.put.result c.args.zero c.fill.new.bytes.items (room_ready d) left
    c.self.invariant.0 c.requires.len.0 refl refl c.put.ensures.memory c.fill.ensures c.put.ensures.place c.put.ensures.blocks c.put.ensures.memories c.put.ensures.marks c.put.ensures.loans)
