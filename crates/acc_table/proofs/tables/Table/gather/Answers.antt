use Rattle.std.proofs.Common.{◌≡◌, ◌<◌, ◌∙◌, refl, sym, ap, arith, length, Ok}
use Rattle.acc_base.specs.declared.calls.Call.TheVariants.{Gather}
use Rattle.acc_base.specs.Limits.{Limits}
use Rattle.acc_base.specs.Judge.{gathered, gather_event}
use Rattle.acc_table.proofs.InUse.{AreDevicesOf, IsUsed, opened, there_of, device_used, of_view, gathers_in}
use Rattle.acc_table.proofs.Verdicts.{back_refused}
use Rattle.acc_table.proofs.Keeping.{IsLeft, risen_none, made_alone}
use Rattle.acc_table.proofs.tables.Table.gather.Goals.{After-deref_mut-data}
use Rattle.acc_table.proofs.tables.Table.gather.Goals as goal

held : (c : After-deref_mut-data) → AreDevicesOf c.deref_mut-data.result.now.config c.deref_mut-data.result.now.base c.deref_mut-data.result.now.devices c.deref_mut-data.result.now.trace.items c.args.self.now
held c = opened c.deref_mut-data.ensures.value c.self.invariant c.self.view_is

there : (c : After-deref_mut-data) → c.args.lease.device < length c.deref_mut-data.result.now.devices.each.items
there c = there_of (held c) c.args.lease.device c.in-Ok.ensures.there

pub index_mut-device-requires : goal.index_mut-device-requires
index_mut-device-requires c = omega (arith, c.device.ensures, there (goal.at.index_mut-device-requires c).After-deref_mut-data)

pub gather-requires-clause-full : goal.gather-requires-clause-full
gather-requires-clause-full c =
    let s = (goal.at.gather-requires-clause-full c).After-deref_mut-data in
    let u : IsUsed c.deref_mut-data.result.now.devices c.device.result c.index_mut-device.result.now = record { there = omega (arith, c.device.ensures, there s); is = c.index_mut-device.ensures.value } in
    c.full-full.ensures ∙ ap (λ (m : Limits). m.full) (sym (device_used (held s) u).limits)

pub gather-requires-clause-ready : goal.gather-requires-clause-ready
gather-requires-clause-ready c =
    let s = (goal.at.gather-requires-clause-ready c).After-deref_mut-data in
    let u : IsUsed c.deref_mut-data.result.now.devices c.device.result c.index_mut-device.result.now = record { there = omega (arith, c.device.ensures, there s); is = c.index_mut-device.ensures.value } in (
      c.deref_mut-data.result.now.devices.shared,
      (
        (device_used (held s) u).sound,
        of_view (held s) u c.args.lease.device (λ m o. gather_event m c.args.lease o ≡ Ok (gathered m.full c.args.lease)) c.device.ensures c.in-Ok.ensures.judged.0,
      ),
    )

pub invariant_of-self : goal.invariant_of-self
invariant_of-self c =
    let s = (goal.at.invariant_of-self c).After-deref_mut-data in
    let u : IsUsed c.deref_mut-data.result.now.devices c.device.result c.index_mut-device.result.now = record { there = omega (arith, c.device.ensures, there s); is = c.index_mut-device.ensures.value } in
    let left : IsLeft c.deref_mut-data.result.now.devices.shared c.deref_mut-data.result.now.devices.shared c.gather.new.device = record { sound = c.gather.ensures.sound c.deref_mut-data.result.now.devices.shared (device_used (held s) u).sound; risen = risen_none c.deref_mut-data.result.now.devices.shared } in
    (made_alone (held s) u left (Gather c.args.lease) _ c.gather.new.trace.items c.gather.result (sym c.device.ensures) (gathers_in (held s) u c.args.lease c.in-Ok.ensures.judged.1) refl (c.gather.ensures.done c.deref_mut-data.result.now.devices.shared) (c.gather.ensures.same c.deref_mut-data.result.now.devices.shared)).0

pub returns-in-Ok-clause-done : goal.returns-in-Ok-clause-done
returns-in-Ok-clause-done c =
    let s = (goal.at.returns-in-Ok-clause-done c).After-deref_mut-data in
    let u : IsUsed c.deref_mut-data.result.now.devices c.device.result c.index_mut-device.result.now = record { there = omega (arith, c.device.ensures, there s); is = c.index_mut-device.ensures.value } in
    let left : IsLeft c.deref_mut-data.result.now.devices.shared c.deref_mut-data.result.now.devices.shared c.gather.new.device = record { sound = c.gather.ensures.sound c.deref_mut-data.result.now.devices.shared (device_used (held s) u).sound; risen = risen_none c.deref_mut-data.result.now.devices.shared } in
    (made_alone (held s) u left (Gather c.args.lease) _ c.gather.new.trace.items c.gather.result (sym c.device.ensures) (gathers_in (held s) u c.args.lease c.in-Ok.ensures.judged.1) refl (c.gather.ensures.done c.deref_mut-data.result.now.devices.shared) (c.gather.ensures.same c.deref_mut-data.result.now.devices.shared)).1

pub returns-in-Ok-clause-same : goal.returns-in-Ok-clause-same
returns-in-Ok-clause-same c =
    let s = (goal.at.returns-in-Ok-clause-same c).After-deref_mut-data in
    let u : IsUsed c.deref_mut-data.result.now.devices c.device.result c.index_mut-device.result.now = record { there = omega (arith, c.device.ensures, there s); is = c.index_mut-device.ensures.value } in
    back_refused (held s) u c.gather.new.device c.deref_mut-data.result.now.devices.shared c.args.lease c.gather.new.trace.items c.gather.result c.gather.ensures.back (c.gather.ensures.same c.deref_mut-data.result.now.devices.shared)
