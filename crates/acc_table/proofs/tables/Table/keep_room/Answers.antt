use Rattle.std.proofs.Common.{◌≡◌, ◌∙◌, ap, sym, subst, List, []}
use Rattle.acc_base.specs.declared.events.Event.{Event}
use Rattle.acc_base.specs.Calls.{World}
use Rattle.acc_table.specs.Devices.{whole_of}
use Rattle.acc_table.specs.Tables.{IsTableSound, world_of}
use Rattle.acc_table.proofs.InUse.{opened}
use Rattle.acc_table.proofs.tables.Table.keep_room.Goals as goal

pub invariant_of-self : goal.invariant_of-self
invariant_of-self c =
    let o = opened c.deref_mut.ensures.value c.self.invariant c.self.view_is in
    let none : c.deref_mut.result.now.trace.items ≡ [] = ap (λ (w : World). w.history.trace) o.same ∙ c.requires in
    (subst (λ (events : List Event). IsTableSound (world_of c.deref_mut.result.now.config c.deref_mut.result.now.base (whole_of c.deref_mut.result.now.devices) events)) (none ∙ sym c.clear.ensures.items) o.kept, o.set)
