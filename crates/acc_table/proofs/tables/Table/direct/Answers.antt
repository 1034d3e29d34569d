use Rattle.std.proofs.Common.{◌<◌, arith, length, ◌≡◌, ◌∙◌, sym, subst, Ok}
use Rattle.acc_base.specs.Judge.{device_named, own_device}
use Rattle.acc_base.specs.Calls.{device_for}
use Rattle.acc_table.proofs.InUse.{AreDevicesOf, IsUsed, opened, there_of, device_used, number_used, births_fit, region_fits}
use Rattle.acc_table.proofs.Verdicts.{is_admitted, own_named, directive_refused, back_refused}
use Rattle.acc_table.proofs.Keeping.{IsLeft, carried}
use Rattle.acc_table.proofs.tables.Table.direct.Goals.{After-deref_mut-data}
use Rattle.acc_table.proofs.tables.Table.direct.Goals as goal

held : (c : After-deref_mut-data) → AreDevicesOf c.deref_mut-data.result.now.config c.deref_mut-data.result.now.base c.deref_mut-data.result.now.devices c.deref_mut-data.result.now.trace.items c.args.self.now
held c = opened c.deref_mut-data.ensures.value c.self.invariant c.self.view_is

there : (c : After-deref_mut-data) → c.in-Ok.device < length c.deref_mut-data.result.now.devices.each.items
there c = there_of (held c) c.in-Ok.device (omega (arith, (is_admitted c.args.self.now c.args.directive c.in-Ok.ensures.1).there, c.in-Ok.ensures.0))

pub index_mut-requires : goal.index_mut-requires
index_mut-requires c = omega (arith, there (goal.at.index_mut-requires c).After-deref_mut-data)

pub carry_out-requires-clause-sound : goal.carry_out-requires-clause-sound
carry_out-requires-clause-sound c =
    let s = (goal.at.carry_out-requires-clause-sound c).After-deref_mut-data in
    let u : IsUsed c.deref_mut-data.result.now.devices c.in-Ok.device c.index_mut.result.now = record { there = there s; is = c.index_mut.ensures.value } in
    (device_used (held s) u).sound

pub carry_out-requires-clause-births : goal.carry_out-requires-clause-births
carry_out-requires-clause-births c =
    let s = (goal.at.carry_out-requires-clause-births c).After-deref_mut-data in
    let u : IsUsed c.deref_mut-data.result.now.devices c.in-Ok.device c.index_mut.result.now = record { there = there s; is = c.index_mut.ensures.value } in
    births_fit (held s) u

pub carry_out-requires-clause-regions : goal.carry_out-requires-clause-regions
carry_out-requires-clause-regions c =
    let s = (goal.at.carry_out-requires-clause-regions c).After-deref_mut-data in
    let u : IsUsed c.deref_mut-data.result.now.devices c.in-Ok.device c.index_mut.result.now = record { there = there s; is = c.index_mut.ensures.value } in
    region_fits (held s)

pub invariant_of-self : goal.invariant_of-self
invariant_of-self c =
    let s = (goal.at.invariant_of-self c).After-deref_mut-data in
    let u : IsUsed c.deref_mut-data.result.now.devices c.in-Ok.device c.index_mut.result.now = record { there = there s; is = c.index_mut.ensures.value } in
    let left : IsLeft c.deref_mut-data.result.now.devices.shared c.carry_out.new.shared c.carry_out.new.device = record { sound = c.carry_out.ensures.sound; risen = c.carry_out.ensures.risen } in
    (carried (held s) u left c.args.directive c.carry_out.new.plan c.carry_out.new.trace.items c.carry_out.result c.in-Ok.ensures.0 c.in-Ok.ensures.1
    c.carry_out.ensures.judged c.carry_out.ensures.planned c.carry_out.ensures.done c.carry_out.ensures.same).0

pub returns-clause-done : goal.returns-clause-done
returns-clause-done c =
    let s = (goal.at.returns-clause-done c).After-deref_mut-data in
    let u : IsUsed c.deref_mut-data.result.now.devices c.in-Ok.device c.index_mut.result.now = record { there = there s; is = c.index_mut.ensures.value } in
    let left : IsLeft c.deref_mut-data.result.now.devices.shared c.carry_out.new.shared c.carry_out.new.device = record { sound = c.carry_out.ensures.sound; risen = c.carry_out.ensures.risen } in
    (carried (held s) u left c.args.directive c.carry_out.new.plan c.carry_out.new.trace.items c.carry_out.result c.in-Ok.ensures.0 c.in-Ok.ensures.1
    c.carry_out.ensures.judged c.carry_out.ensures.planned c.carry_out.ensures.done c.carry_out.ensures.same).1

pub returns-clause-refused : goal.returns-clause-refused
returns-clause-refused c =
    let s = (goal.at.returns-clause-refused c).After-deref_mut-data in
    let u : IsUsed c.deref_mut-data.result.now.devices c.in-Ok.device c.index_mut.result.now = record { there = there s; is = c.index_mut.ensures.value } in
    directive_refused (held s) u c.args.directive c.carry_out.result c.in-Ok.ensures.0 c.in-Ok.ensures.1 c.carry_out.ensures.refused

pub returns-clause-same : goal.returns-clause-same
returns-clause-same c =
    let s = (goal.at.returns-clause-same c).After-deref_mut-data in
    let u : IsUsed c.deref_mut-data.result.now.devices c.in-Ok.device c.index_mut.result.now = record { there = there s; is = c.index_mut.ensures.value } in
    back_refused (held s) u c.carry_out.new.device c.carry_out.new.shared c.args.directive c.carry_out.new.trace.items c.carry_out.result c.carry_out.ensures.back c.carry_out.ensures.same

pub carry_out-requires-clause-items : goal.carry_out-requires-clause-items
carry_out-requires-clause-items c = (is_admitted c.args.self.now c.args.directive c.in-Ok.ensures.1).few

pub carry_out-requires-clause-own : goal.carry_out-requires-clause-own
carry_out-requires-clause-own c =
    let s = (goal.at.carry_out-requires-clause-own c).After-deref_mut-data in
    let u : IsUsed c.deref_mut-data.result.now.devices c.in-Ok.device c.index_mut.result.now = record { there = there s; is = c.index_mut.ensures.value } in
    let number : c.index_mut.result.now.limits.number ≡ device_for c.args.directive c.args.self.now.state = number_used (held s) u ∙ c.in-Ok.ensures.0 in
    subst (λ n. own_device n (device_named c.args.directive) ≡ Ok tt) (sym number) (own_named c.args.self.now c.args.directive)
