use Rattle.std.proofs.Common.{◌≤◌, arith, below_more, subst}
use Rattle.acc_base.specs.Section.{device_memory}
use Rattle.acc_base.specs.Holes.{IsDevice}
use Rattle.acc_clauses.specs.Devices.{Seen}
use Rattle.acc_table.proofs.Lawful.{lawful}
use Rattle.acc_table.proofs.laws.hold.Goals as goal

pub loop-device-preserved : goal.loop-device-preserved
loop-device-preserved c = below_more _ _ c.loop-device.invariant (subst (λ (v : Seen). IsDevice (device_memory v.limits) v.state.records.blocks) c.in-Some.ensures.there c.laws-in-loop-device.ensures.holes)

pub returns : goal.returns
returns c =
    let count = rw c.config.ensures at c.devices-device-end.ensures.value in
    let all : c.args.table.now.limits.devices ≤ c.loop-device.device = omega (arith, c.loop-device-test.false, count) in
    lawful c.args.table.now c.laws.ensures.accounted c.laws.ensures.bounds (λ d there. c.loop-device.invariant d (omega (arith, there, all)))
