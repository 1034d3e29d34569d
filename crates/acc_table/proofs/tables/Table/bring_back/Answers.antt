use Rattle.std.proofs.Common.{◌≡◌, ◌<◌, arith, ◌∙◌, sym, ap, subst, rules, List, Bool, length, None}
use Rattle.std.specs.List.{position}
use Rattle.acc_base.specs.declared.faults.Fault.TheVariants.{Memory}
use Rattle.acc_base.specs.Limits.{Limits, recorded}
use Rattle.acc_base.specs.Loans.{Leased}
use Rattle.acc_base.specs.Calls.{World}
use Rattle.acc_table.specs.declared.calls.Turn.TheVariants.{Back}
use Rattle.acc_table.specs.Turns.{is_meant, asked_by}
use Rattle.acc_table.specs.Turning.{IsRefusalOf, IsTurnMade}
use Rattle.acc_table.proofs.InUse.{with_device, world_in, AreDevicesOf, IsUsed, opened, there_of, device_used}
use Rattle.acc_table.proofs.Keeping.{IsLeft, risen_none}
use Rattle.acc_table.proofs.Running.{IsBackAt, IsReturned, back_at, none_back, serial_told, wanted_of, same_back, returned, back_ready, back_made}
use Rattle.acc_table.proofs.tables.Table.bring_back.Goals.{After-laws, After-deref_mut-data, After-device}
use Rattle.acc_table.proofs.tables.Table.bring_back.Goals as goal

back : (c : After-laws) → IsBackAt c.args.serial c.args.bytes c.args.leases.now.items c.in-Some.at c.index-lease.result.now
back c = back_at c.deref.ensures.value c.place_of.ensures c.in-Some.is c.index-lease.ensures

held : (c : After-deref_mut-data) → AreDevicesOf c.deref_mut-data.result.now.config c.deref_mut-data.result.now.base c.deref_mut-data.result.now.devices c.deref_mut-data.result.now.trace.items c.args.self.now
held c = opened c.deref_mut-data.ensures.value c.self.invariant c.self.view_is

lease : (c : After-device) → IsReturned c.args.self.now c.args.serial c.args.bytes c.args.leases.now.items c.in-Some.at c.overwrite.new.self
lease c = returned (back_at c.deref.ensures.value c.place_of.ensures c.in-Some.is c.index-lease.ensures) c.remove-lease.ensures.value c.overwrite.ensures c.as_slice.ensures c.laws.ensures c.in_ok-admit_lease.ensures.judged

pub returns-in_default-clause-told : goal.returns-in_default-clause-told
returns-in_default-clause-told c =
    let place : position (is_meant c.args.serial (length c.args.bytes)) c.args.leases.now.items ≡ None = subst (λ xs. position (is_meant c.args.serial (length c.args.bytes)) xs ≡ None) c.deref.ensures.value (sym c.place_of.ensures ∙ c.in_default.is) in
    none_back c.args.self.now c.args.serial c.args.bytes c.args.leases.now.items c.refuse_back.result place c.refuse_back.ensures

pub returns-in_err-admit_lease-clause-told : goal.returns-in_err-admit_lease-clause-told
returns-in_err-admit_lease-clause-told c =
    let told : IsRefusalOf c.args.self.now (asked_by (Back c.args.serial c.args.bytes) c.args.leases.now.items) c.in_err-admit_lease.field-0.0 = serial_told c.args.self.now (back (goal.at.returns-in_err-admit_lease-clause-told c).After-laws) c.laws.ensures c.in_err-admit_lease.ensures.judged in
    search rules

pub returns-in_err-reserve-clause-told : goal.returns-in_err-reserve-clause-told
returns-in_err-reserve-clause-told c =
    let told : IsRefusalOf c.args.self.now (asked_by (Back c.args.serial c.args.bytes) c.args.leases.now.items) Memory = wanted_of c.args.self.now (back (goal.at.returns-in_err-reserve-clause-told c).After-laws) c.laws.ensures c.in_ok-admit_lease.ensures.judged.1 in
    search rules

pub overwrite-requires : goal.overwrite-requires
overwrite-requires c =
    let at = back (goal.at.overwrite-requires c).After-laws in
    ap length c.as_slice.ensures ∙ (at.len ∙ ap (λ (l : Leased). l.len) (sym (same_back at c.remove-lease.ensures.value)))

device_is : (c : After-device) → c.device.result ≡ c.index-lease.result.now.device
device_is c =
    let at = back_at c.deref.ensures.value c.place_of.ensures c.in-Some.is c.index-lease.ensures in
    c.device.ensures ∙ (ap (λ (l : Leased). l.device) c.overwrite.ensures ∙ ap (λ (l : Leased). l.device) (same_back at c.remove-lease.ensures.value))

there : (c : After-device) → c.device.result < length c.deref_mut-data.result.now.devices.each.items
there c =
    let o = opened c.deref_mut-data.ensures.value c.self.invariant c.self.view_is in
    there_of o c.device.result (omega (arith, device_is c, c.in_ok-admit_lease.ensures.there))

pub index_mut-device-requires : goal.index_mut-device-requires
index_mut-device-requires c = omega (arith, there c)

pub take_back-requires-clause-ready : goal.take_back-requires-clause-ready
take_back-requires-clause-ready c =
    let t = held (goal.at.take_back-requires-clause-ready c).After-deref_mut-data in
    let r = lease (goal.at.take_back-requires-clause-ready c).After-device in
    let at = there (goal.at.take_back-requires-clause-ready c).After-device in
    let u : IsUsed c.deref_mut-data.result.now.devices c.device.result c.index_mut-device.result.now = record { there = at; is = c.index_mut-device.ensures.value } in
    (c.deref_mut-data.result.now.devices.shared, ((device_used t u).sound, back_ready t u r (sym c.device.ensures)))

pub take_back-requires-clause-stored : goal.take_back-requires-clause-stored
take_back-requires-clause-stored c =
    let t = held (goal.at.take_back-requires-clause-stored c).After-deref_mut-data in
    let r = lease (goal.at.take_back-requires-clause-stored c).After-device in
    let at = there (goal.at.take_back-requires-clause-stored c).After-device in
    let u : IsUsed c.deref_mut-data.result.now.devices c.device.result c.index_mut-device.result.now = record { there = at; is = c.index_mut-device.ensures.value } in
    let full : c.full.result ≡ c.index_mut-device.result.now.limits.full = c.full.ensures ∙ ap (λ (m : Limits). m.full) (sym (device_used t u).limits) in
    c.recorded-bytes.ensures ∙ (ap (λ (b : Bool). recorded b c.args.bytes) full ∙ ap (recorded c.index_mut-device.result.now.limits.full) r.stored)

pub invariant_of-self : goal.invariant_of-self
invariant_of-self c =
    let o = opened c.deref_mut-data.ensures.value c.self.invariant c.self.view_is in
    rw c.reserve.ensures.items (o.kept, o.set)

pub invariant_of-self-2 : goal.invariant_of-self-2
invariant_of-self-2 c =
    let t = held (goal.at.invariant_of-self-2 c).After-deref_mut-data in
    let r = lease (goal.at.invariant_of-self-2 c).After-device in
    let at = there (goal.at.invariant_of-self-2 c).After-device in
    let u : IsUsed c.deref_mut-data.result.now.devices c.device.result c.index_mut-device.result.now = record { there = at; is = c.index_mut-device.ensures.value } in
    let left : IsLeft c.deref_mut-data.result.now.devices.shared c.deref_mut-data.result.now.devices.shared c.take_back.new.device = record { sound = c.take_back.ensures.sound c.deref_mut-data.result.now.devices.shared (device_used t u).sound; risen = risen_none c.deref_mut-data.result.now.devices.shared } in
    let made = back_made t u r (sym c.device.ensures) left c.take_back.result _ c.take_back.new.trace.items c.reserve.ensures.items (c.take_back.ensures.made c.deref_mut-data.result.now.devices.shared) in
    made.0

pub returns-clause-done : goal.returns-clause-done
returns-clause-done c =
    let t = held (goal.at.returns-clause-done c).After-deref_mut-data in
    let r = lease (goal.at.returns-clause-done c).After-device in
    let at = there (goal.at.returns-clause-done c).After-device in
    let u : IsUsed c.deref_mut-data.result.now.devices c.device.result c.index_mut-device.result.now = record { there = at; is = c.index_mut-device.ensures.value } in
    let left : IsLeft c.deref_mut-data.result.now.devices.shared c.deref_mut-data.result.now.devices.shared c.take_back.new.device = record { sound = c.take_back.ensures.sound c.deref_mut-data.result.now.devices.shared (device_used t u).sound; risen = risen_none c.deref_mut-data.result.now.devices.shared } in
    let made = back_made t u r (sym c.device.ensures) left c.take_back.result _ c.take_back.new.trace.items c.reserve.ensures.items (c.take_back.ensures.made c.deref_mut-data.result.now.devices.shared) in
    let after_it : World = world_in c.deref_mut-data.result.now.config c.deref_mut-data.result.now.base (with_device c.deref_mut-data.result.now.devices c.device.result c.take_back.new.device c.deref_mut-data.result.now.devices.shared) c.take_back.new.trace.items in
    subst (λ (rest : List Leased). IsTurnMade c.args.self.now c.args.leases.now.items (Back c.args.serial c.args.bytes) c.take_back.result after_it rest) (sym c.remove-lease.ensures.items) made.1
