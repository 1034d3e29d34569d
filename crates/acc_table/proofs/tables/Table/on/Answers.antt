use Rattle.std.proofs.Common.{◌≡◌, subst}
use Rattle.std.specs.Prelude.{IfSome, IfNone, ◌<◌}
use Rattle.acc_base.specs.Limits.{limits_on}
use Rattle.acc_base.specs.Devices.{device_at, view, new_device}
use Rattle.acc_base.specs.Calls.{World}
use Rattle.acc_table.proofs.InUse.{opened}
use Rattle.acc_table.proofs.AllDevices.{seen_some, seen_known, seen_none}
use Rattle.acc_table.proofs.tables.Table.on.Goals as goal

pub returns-clause-there : goal.returns-clause-there
returns-clause-there c =
    let o = opened c.deref.ensures c.self.invariant c.self.view_is in
    subst (λ (w : World). IfSome c.view.result (λ v. v ≡ record { limits = limits_on c.args.device w.limits; state = view c.args.device w.state })) o.same (seen_some _ _ c.args.device c.view.result o.set c.view.ensures.there)

pub returns-clause-known : goal.returns-clause-known
returns-clause-known c =
    let o = opened c.deref.ensures c.self.invariant c.self.view_is in
    subst (λ (w : World). IfSome c.view.result (λ _. c.args.device < w.limits.devices)) o.same (seen_known _ _ c.args.device c.view.result o.set c.view.ensures.known)

pub returns-clause-new : goal.returns-clause-new
returns-clause-new c =
    let o = opened c.deref.ensures c.self.invariant c.self.view_is in
    subst (λ (w : World). IfNone c.view.result (device_at c.args.device w.state.devices ≡ new_device)) o.same (seen_none _ _ c.args.device c.view.result o.set c.view.ensures.none)
