use Rattle.std.proofs.Common.{◌≡◌, ◌<◌, ◌≤◌, ◌∙◌, sym, rules, arith, length, below_more}
use Rattle.acc_base.specs.Devices.{Whole}
use Rattle.acc_table.specs.Devices.{whole_of}
use Rattle.acc_table.proofs.AllDevices.{devices_count, region_found, region_nowhere}
use Rattle.acc_table.proofs.devices.Devices.device_of_region.Goals as goal

pub loop-device-preserved : goal.loop-device-preserved
loop-device-preserved c = below_more _ _ c.loop-device.invariant (sym c.has_region.ensures ∙ c.if-has_region.false)

pub returns-then-has_region : goal.returns-then-has_region
returns-then-has_region c =
    let w : Whole = whole_of c.args.self.now in
    let end : c.len-device-end.result ≡ length c.args.self.now.each.items = search rules in
    let there : c.loop-device.device < length w.devices = omega (arith, c.loop-device-test.true, end, devices_count c.args.self.now) in
    region_found c.args.number c.loop-device.device w there c.loop-device.invariant (sym c.has_region.ensures ∙ c.if-has_region.true)

pub returns : goal.returns
returns c =
    let w : Whole = whole_of c.args.self.now in
    let end : c.len-device-end.result ≡ length c.args.self.now.each.items = search rules in
    let all : length w.devices ≤ c.loop-device.device = omega (arith, c.loop-device-test.false, end, devices_count c.args.self.now) in
    region_nowhere c.args.number c.loop-device.device w all c.loop-device.invariant
