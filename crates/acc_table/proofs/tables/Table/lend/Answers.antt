use Rattle.std.proofs.Common.{◌≡◌, ◌<◌, ◌∙◌, refl, sym, subst, arith, length, Ok}
use Rattle.acc_base.specs.declared.calls.Call.TheVariants.{Lend}
use Rattle.acc_base.specs.declared.events.Event.{Event}
use Rattle.acc_base.specs.declared.events.Event.TheVariants.{Lent}
use Rattle.acc_base.specs.Calls.{judge}
use Rattle.acc_base.specs.Judge.{Makes}
use Rattle.acc_clauses.specs.Lending.{IsLoanPlanned}
use Rattle.acc_table.proofs.InUse.{AreDevicesOf, IsUsed, opened, there_of, device_used, number_used, of_view, serial_fits}
use Rattle.acc_table.proofs.Verdicts.{same_refused}
use Rattle.acc_table.proofs.Keeping.{IsLeft, made_alone}
use Rattle.acc_table.proofs.tables.Table.lend.Goals.{After-deref_mut-data}
use Rattle.acc_table.proofs.tables.Table.lend.Goals as goal

held : (c : After-deref_mut-data) → AreDevicesOf c.deref_mut-data.result.now.config c.deref_mut-data.result.now.base c.deref_mut-data.result.now.devices c.deref_mut-data.result.now.trace.items c.args.self.now
held c = opened c.deref_mut-data.ensures.value c.self.invariant c.self.view_is

there : (c : After-deref_mut-data) → c.device_of_region-device.result < length c.deref_mut-data.result.now.devices.each.items
there c = there_of (held c) c.device_of_region-device.result c.device_of_region-device.ensures.there

pub index_mut-requires : goal.index_mut-requires
index_mut-requires c = omega (arith, there (goal.at.index_mut-requires c).After-deref_mut-data)

pub lend-requires-clause-sound : goal.lend-requires-clause-sound
lend-requires-clause-sound c =
    let s = (goal.at.lend-requires-clause-sound c).After-deref_mut-data in
    let u : IsUsed c.deref_mut-data.result.now.devices c.device_of_region-device.result c.index_mut.result.now = record { there = there s; is = c.index_mut.ensures.value } in
    (device_used (held s) u).sound

pub lend-requires-clause-planned : goal.lend-requires-clause-planned
lend-requires-clause-planned c =
    let s = (goal.at.lend-requires-clause-planned c).After-deref_mut-data in
    let u : IsUsed c.deref_mut-data.result.now.devices c.device_of_region-device.result c.index_mut.result.now = record { there = there s; is = c.index_mut.ensures.value } in
    of_view (held s) u _ (λ m o. IsLoanPlanned m c.args.region c.args.section o c.in_ok-loan.loan) c.device_of_region-device.ensures.value c.in_ok-loan.ensures.0

pub lend-requires-clause-serial : goal.lend-requires-clause-serial
lend-requires-clause-serial c =
    let s = (goal.at.lend-requires-clause-serial c).After-deref_mut-data in
    let u : IsUsed c.deref_mut-data.result.now.devices c.device_of_region-device.result c.index_mut.result.now = record { there = there s; is = c.index_mut.ensures.value } in
    serial_fits (held s)

pub invariant_of-self : goal.invariant_of-self
invariant_of-self c =
    let s = (goal.at.invariant_of-self c).After-deref_mut-data in
    let u : IsUsed c.deref_mut-data.result.now.devices c.device_of_region-device.result c.index_mut.result.now = record { there = there s; is = c.index_mut.ensures.value } in
    let left : IsLeft c.deref_mut-data.result.now.devices.shared c.lend.new.shared c.lend.new.device = record { sound = c.lend.ensures.sound; risen = c.lend.ensures.risen } in
    let event : Event = Lent c.index_mut.result.now.limits.number c.args.region c.args.section c.in_ok-loan.loan.block c.in_ok-loan.loan.serial in
    let judged : judge c.args.self.now (Lend c.args.region c.args.section) ≡ Ok (Makes event) = subst (λ n. judge c.args.self.now (Lend c.args.region c.args.section) ≡ Ok (Makes (Lent n c.args.region c.args.section c.in_ok-loan.loan.block c.in_ok-loan.loan.serial)))
    (sym (number_used (held s) u ∙ c.device_of_region-device.ensures.value)) c.in_ok-loan.ensures.1 in
    (made_alone (held s) u left (Lend c.args.region c.args.section) event c.lend.new.trace.items c.lend.result (number_used (held s) u) judged refl c.lend.ensures.done c.lend.ensures.same).0

pub returns-clause-done : goal.returns-clause-done
returns-clause-done c =
    let s = (goal.at.returns-clause-done c).After-deref_mut-data in
    let u : IsUsed c.deref_mut-data.result.now.devices c.device_of_region-device.result c.index_mut.result.now = record { there = there s; is = c.index_mut.ensures.value } in
    let left : IsLeft c.deref_mut-data.result.now.devices.shared c.lend.new.shared c.lend.new.device = record { sound = c.lend.ensures.sound; risen = c.lend.ensures.risen } in
    let event : Event = Lent c.index_mut.result.now.limits.number c.args.region c.args.section c.in_ok-loan.loan.block c.in_ok-loan.loan.serial in
    let judged : judge c.args.self.now (Lend c.args.region c.args.section) ≡ Ok (Makes event) = subst (λ n. judge c.args.self.now (Lend c.args.region c.args.section) ≡ Ok (Makes (Lent n c.args.region c.args.section c.in_ok-loan.loan.block c.in_ok-loan.loan.serial)))
    (sym (number_used (held s) u ∙ c.device_of_region-device.ensures.value)) c.in_ok-loan.ensures.1 in
    (made_alone (held s) u left (Lend c.args.region c.args.section) event c.lend.new.trace.items c.lend.result (number_used (held s) u) judged refl c.lend.ensures.done c.lend.ensures.same).1

pub returns-clause-same : goal.returns-clause-same
returns-clause-same c =
    let s = (goal.at.returns-clause-same c).After-deref_mut-data in
    let u : IsUsed c.deref_mut-data.result.now.devices c.device_of_region-device.result c.index_mut.result.now = record { there = there s; is = c.index_mut.ensures.value } in
    same_refused (held s) u c.lend.new.device c.lend.new.shared c.lend.new.trace.items c.lend.result c.lend.ensures.same
