use Rattle.std.proofs.Common.{◌<◌, arith, length, ◌≡◌, ◌∙◌, sym, subst, Ok}
use Rattle.acc_base.specs.Judge.{device_named, own_device}
use Rattle.acc_base.specs.Calls.{device_for}
use Rattle.acc_table.proofs.InUse.{AreDevicesOf, IsUsed, opened, there_of, device_used, number_used, births_fit}
use Rattle.acc_table.proofs.Verdicts.{is_admitted, own_named}
use Rattle.acc_table.proofs.Foretold.{directive_judged, tested_so}
use Rattle.acc_table.proofs.tables.Table.judge.Goals.{After-deref_mut-data}
use Rattle.acc_table.proofs.tables.Table.judge.Goals as goal

held : (c : After-deref_mut-data) → AreDevicesOf c.deref_mut-data.result.now.config c.deref_mut-data.result.now.base c.deref_mut-data.result.now.devices c.deref_mut-data.result.now.trace.items c.args.self.now
held c = opened c.deref_mut-data.ensures.value c.self.invariant c.self.view_is

there : (c : After-deref_mut-data) → c.in_ok-device.device < length c.deref_mut-data.result.now.devices.each.items
there c = there_of (held c) c.in_ok-device.device (omega (arith, (is_admitted c.args.self.now c.args.directive.now c.in_ok-device.ensures.1).there, c.in_ok-device.ensures.0))

pub index-requires : goal.index-requires
index-requires c = omega (arith, there (goal.at.index-requires c).After-deref_mut-data)

pub plan-requires-clause-sound : goal.plan-requires-clause-sound
plan-requires-clause-sound c =
    let s = (goal.at.plan-requires-clause-sound c).After-deref_mut-data in
    let u : IsUsed c.deref_mut-data.result.now.devices c.in_ok-device.device c.index.result.now = record { there = there s; is = c.index.ensures } in
    (device_used (held s) u).sound

pub plan-requires-clause-births : goal.plan-requires-clause-births
plan-requires-clause-births c =
    let s = (goal.at.plan-requires-clause-births c).After-deref_mut-data in
    let u : IsUsed c.deref_mut-data.result.now.devices c.in_ok-device.device c.index.result.now = record { there = there s; is = c.index.ensures } in
    let fit = births_fit (held s) u in omega (arith, fit)

pub returns-clause-judged : goal.returns-clause-judged
returns-clause-judged c =
    let s = (goal.at.returns-clause-judged c).After-deref_mut-data in
    let u : IsUsed c.deref_mut-data.result.now.devices c.in_ok-device.device c.index.result.now = record { there = there s; is = c.index.ensures } in
    tested_so _ _ c.plan.result (directive_judged (held s) u c.args.directive.now c.plan.new.plan.dids c.plan.result c.in_ok-device.ensures.0 c.in_ok-device.ensures.1 c.plan.ensures.judged)

pub plan-requires-clause-items : goal.plan-requires-clause-items
plan-requires-clause-items c = (is_admitted c.args.self.now c.args.directive.now c.in_ok-device.ensures.1).few

pub plan-requires-clause-own : goal.plan-requires-clause-own
plan-requires-clause-own c =
    let s = (goal.at.plan-requires-clause-own c).After-deref_mut-data in
    let u : IsUsed c.deref_mut-data.result.now.devices c.in_ok-device.device c.index.result.now = record { there = there s; is = c.index.ensures } in
    let number : c.index.result.now.limits.number ≡ device_for c.args.directive.now c.args.self.now.state = number_used (held s) u ∙ c.in_ok-device.ensures.0 in
    subst (λ n. own_device n (device_named c.args.directive.now) ≡ Ok tt) (sym number) (own_named c.args.self.now c.args.directive.now)
