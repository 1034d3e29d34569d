use Rattle.std.proofs.Common.{◌≡◌, ◌+◌, sym, subst, arith, List}
use Rattle.acc_clauses.specs.Devices.{DeviceContents}
use Rattle.acc_table.specs.Devices.{AreNewUpTo}
use Rattle.acc_table.proofs.NewDevices.{new_none, new_more}
use Rattle.acc_table.proofs.devices.new_each.Goals as goal

pub loop-device-init : goal.loop-device-init
loop-device-init c = subst (λ (xs : List DeviceContents). AreNewUpTo c.args.config.now 0 xs) (sym c.new-each.ensures.items) (new_none c.args.config.now)

pub loop-device-preserved : goal.loop-device-preserved
loop-device-preserved c = subst (λ (xs : List DeviceContents). AreNewUpTo c.args.config.now (c.loop-device.device + 1) xs) (sym c.in_ok-push.ensures.items) (new_more c.args.config.now c.loop-device.device c.in_ok-new.field-0 c.loop-device.each.items c.in_ok-new.ensures.limits c.in_ok-new.ensures.device c.in_ok-new.ensures.sound c.loop-device.invariant)

pub returns-clause-ok : goal.returns-clause-ok
returns-clause-ok c =
    let all : c.loop-device.device ≡ c.args.config.now.devices = omega (arith, c.loop-device-test.false, c.loop-device.auto.device-end, c.devices-device-end.ensures.value, c.devices-device-end.ensures.bounds.0) in
    subst (λ n. AreNewUpTo c.args.config.now n c.loop-device.each.items) all c.loop-device.invariant
