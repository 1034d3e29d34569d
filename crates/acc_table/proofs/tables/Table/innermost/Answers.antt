use Rattle.std.proofs.Common.{◌≡◌, ◌<◌, ◌≤◌, refl, sym, ◌∙◌, subst, length, arith}
use Rattle.acc_table.specs.Queries.{newest_of, IsLastEntered}
use Rattle.acc_table.proofs.Apart.{last_entered}
use Rattle.acc_table.proofs.AllDevices.{newest_turn, newest_found}
use Rattle.acc_table.proofs.tables.Table.innermost.Goals as goal

pub loop-device-init : goal.loop-device-init
loop-device-init c = refl

pub loop-device-preserved : goal.loop-device-preserved
loop-device-preserved c =
    let devices = c.args.self.now.state.devices in
    let count = rw c.config.ensures at c.devices-device-end.ensures.value in
    let there : c.loop-device.device < length devices = omega (arith, c.loop-device-test.true, count, c.laws.ensures.accounted.as_many) in
    rw (c.later-newest.ensures, c.newest_region.ensures) (sym (newest_turn c.loop-device.newest c.loop-device.device devices there) ∙ c.loop-device.invariant)

pub returns-clause-value : goal.returns-clause-value
returns-clause-value c =
    let devices = c.args.self.now.state.devices in
    let count = rw c.config.ensures at c.devices-device-end.ensures.value in
    let all : length devices ≤ c.loop-device.device = omega (arith, c.loop-device-test.false, count, c.laws.ensures.accounted.as_many) in
    sym (newest_found c.loop-device.newest c.loop-device.device devices all) ∙ c.loop-device.invariant

pub returns-clause-last : goal.returns-clause-last
returns-clause-last c =
    let devices = c.args.self.now.state.devices in
    let count = rw c.config.ensures at c.devices-device-end.ensures.value in
    let all : length devices ≤ c.loop-device.device = omega (arith, c.loop-device-test.false, count, c.laws.ensures.accounted.as_many) in
    let value : c.loop-device.newest ≡ newest_of devices = sym (newest_found c.loop-device.newest c.loop-device.device devices all) ∙ c.loop-device.invariant in
    subst (IsLastEntered c.args.self.now.state) (sym value) (last_entered c.args.self.now c.laws.ensures.accounted)
