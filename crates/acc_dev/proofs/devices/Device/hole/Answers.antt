use Rattle.std.proofs.Common.{None, Some, sym, ◌∙◌, subst}
use Rattle.acc_base.specs.Holes.{IsNextHole}
use Rattle.acc_dev.specs.Device.{DeviceState}
use Rattle.acc_dev.proofs.Keeping.{next_found}
use Rattle.acc_dev.proofs.devices.Device.hole.Goals as goal

pub returns-in_err-place : goal.returns-in_err-place
returns-in_err-place c =
    let d = c.self.inside in
    rw c.from_residual.ensures
    (subst (λ (x : DeviceState). IsNextHole c.args.from x.memory x.blocks None) c.self.view_is
    (next_found d.holes d.slab.slots d.index.entries c.args.from None c.self.invariant.0 (sym c.in_err-place.was ∙ c.next_hole.ensures)))

pub returns : goal.returns
returns c =
    let d = c.self.inside in
    subst (λ (x : DeviceState). IsNextHole c.args.from x.memory x.blocks (Some (record { place = c.in_ok-place.place; size = c.in_ok-place.size }))) c.self.view_is
    (next_found d.holes d.slab.slots d.index.entries c.args.from (Some (c.in_ok-place.place, c.in_ok-place.size)) c.self.invariant.0 c.in_ok-place.ensures)
