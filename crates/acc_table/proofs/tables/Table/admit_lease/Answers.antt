use Rattle.std.proofs.Common.{◌≡◌, ◌≤◌, ◌∙◌, sym, ap, subst, arith, List, length, Err}
use Rattle.std.proofs.lemmas.Bool.Decides.{nat_tests}
use Rattle.acc_base.specs.declared.faults.Fault.TheVariants.{NoLease}
use Rattle.acc_base.specs.Calls.{World}
use Rattle.acc_clauses.specs.Devices.{DeviceContents}
use Rattle.acc_table.proofs.InUse.{opened}
use Rattle.acc_table.proofs.Judging.{lease_beyond}
use Rattle.acc_table.proofs.tables.Table.admit_lease.Goals as goal

pub returns-in-None-clause-judged : goal.returns-in-None-clause-judged
returns-in-None-clause-judged c =
    let o = opened c.deref.ensures c.self.invariant c.self.view_is in
    let many : length c.args.self.now.state.devices ≡ c.args.self.now.limits.devices = subst (λ (w : World). length w.state.devices ≡ w.limits.devices) o.same o.kept.accounted.as_many in
    let past : length c.deref-2.result.now ≤ c.device.result = grind (arith, nat_tests, c.in-None.ensures.lookup.0) in
    let places : length c.deref.result.now.devices.each.items ≤ c.device.result = subst (λ (xs : List DeviceContents). length xs ≤ c.device.result) c.deref-2.ensures.value past in
    let beyond : length c.args.self.now.state.devices ≤ c.args.lease.now.device = omega (arith, many, o.set.count, ap (λ (w : World). w.limits.devices) o.same, places, c.device.ensures) in
    lease_beyond c.args.self.now c.args.lease.now beyond (sym c.in_ok-admit_ticket.ensures) (sym c.in_ok-admit_event.ensures) ∙ ap (λ n. Err (NoLease n)) (sym c.serial.ensures)
