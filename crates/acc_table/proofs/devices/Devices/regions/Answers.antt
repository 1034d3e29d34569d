use Rattle.std.proofs.Common.{◌≡◌, ◌<◌, ◌≤◌, ◌+◌, ◌^◌, sym, subst, rules, arith, length, drop}
use Rattle.std.specs.Prelude.{sum_by}
use Rattle.acc_base.specs.Devices.{OneDevice, Whole, device_at, open_regions}
use Rattle.acc_table.specs.Devices.{whole_of}
use Rattle.acc_table.proofs.AllDevices.{devices_count, open_more, open_all}
use Rattle.acc_table.proofs.devices.Devices.regions.Goals as goal

pub overflow_add-open : goal.overflow_add-open
overflow_add-open c =
    let w : Whole = whole_of c.args.self.now in
    let end : c.len-device-end.result ≡ length c.args.self.now.each.items = search rules in
    let there : c.loop-device.device < length w.devices = omega (arith, c.loop-device-test.true, end, devices_count c.args.self.now) in
    let more : (c.loop-device.open + length (device_at c.loop-device.device w.devices).regions) + sum_by (λ (x : OneDevice). length x.regions) (drop (c.loop-device.device + 1) w.devices) ≡ open_regions w = open_more c.loop-device.device w c.loop-device.open there c.loop-device.invariant in
    let few : open_regions w < 2 ^ 64 = c.requires.few in
    omega (arith, more, few, c.regions_on-open.ensures)

pub loop-device-preserved : goal.loop-device-preserved
loop-device-preserved c =
    let w : Whole = whole_of c.args.self.now in
    let end : c.len-device-end.result ≡ length c.args.self.now.each.items = search rules in
    let there : c.loop-device.device < length w.devices = omega (arith, c.loop-device-test.true, end, devices_count c.args.self.now) in
    subst (λ n. (c.loop-device.open + n) + sum_by (λ (x : OneDevice). length x.regions) (drop (c.loop-device.device + 1) w.devices) ≡ open_regions w) (sym c.regions_on-open.ensures) (open_more c.loop-device.device w c.loop-device.open there c.loop-device.invariant)

pub returns : goal.returns
returns c =
    let w : Whole = whole_of c.args.self.now in
    let end : c.len-device-end.result ≡ length c.args.self.now.each.items = search rules in
    let all : length w.devices ≤ c.loop-device.device = omega (arith, c.loop-device-test.false, end, devices_count c.args.self.now) in
    open_all c.loop-device.device w c.loop-device.open all c.loop-device.invariant
