use Rattle.std.proofs.Common.{◌≡◌, ◌∙◌, ap, sym}
use Rattle.std.specs.Prelude.{Bool}
use Rattle.acc_base.specs.Calls.{World, base_of, event_count}
use Rattle.acc_table.specs.Devices.{whole_of}
use Rattle.acc_table.proofs.InUse.{world_in, opened}
use Rattle.acc_table.proofs.Keeping.{kept_rebased}
use Rattle.acc_table.proofs.tables.Table.fold.Goals as goal

pub invariant_of-self : goal.invariant_of-self
invariant_of-self c =
    let o = opened c.deref_mut-data.ensures.value c.self.invariant c.self.view_is in
    (o.kept, o.set)

pub invariant_of-self-2 : goal.invariant_of-self-2
invariant_of-self-2 c =
    let o = opened c.deref_mut-data.ensures.value c.self.invariant c.self.view_is in
    let w : World = world_in c.deref_mut-data.result.now.config c.deref_mut-data.result.now.base c.deref_mut-data.result.now.devices c.deref_mut-data.result.now.trace.items in
    let count : c.events-events.result ≡ event_count w.history = c.events-events.ensures ∙ ap (λ (v : World). event_count v.history) (sym o.same) in
    let new : c.in_ok-base.base ≡ base_of c.deref_mut-data.result.now.config.full (whole_of c.deref_mut-data.result.now.devices) (event_count w.history) = c.in_ok-base.ensures.ok ∙ (ap (λ (full : Bool). base_of full (whole_of c.deref_mut-data.result.now.devices) c.events-events.result) c.full-full.ensures ∙ ap (λ n. base_of c.deref_mut-data.result.now.config.full (whole_of c.deref_mut-data.result.now.devices) n) count) in
    rw (c.replace-base.ensures.after, c.replace-events.ensures.after, c.new.ensures.items) (kept_rebased c.deref_mut-data.result.now.config c.deref_mut-data.result.now.base c.in_ok-base.base c.deref_mut-data.result.now.devices c.deref_mut-data.result.now.trace.items o.kept new, o.set)
