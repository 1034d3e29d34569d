use Rattle.std.proofs.Common.{◌+◌, ◌<◌, ◌≤◌, length, drop, arith}
use Rattle.acc_base.specs.Devices.{device_at}
use Rattle.acc_script.specs.Texts.{one_text, each_text}
use Rattle.acc_script.proofs.LeftToWrite.{leaves_all, leaves_less, leaves_lost, leaves_none}
use Rattle.acc_script.proofs.NumberedDevices.{devices_turn, no_device_left}
use Rattle.acc_script.proofs.print.reports.write_each.Goals as goal

pub loop-device-init : goal.loop-device-init
loop-device-init g c = leaves_all (g.W.Sink.told c.args.writer.now) (each_text 0 c.args.table.now.state.devices)

pub write_one-requires : goal.write_one-requires
write_one-requires g c =
    let count = rw c.config.ensures at c.devices-count.ensures.value in
    omega (arith, c.loop-device-test.true, count)

pub returns-then-not-write_one : goal.returns-then-not-write_one
returns-then-not-write_one g c =
    let told = g.W.Sink.told in
    let devices = c.args.table.now.state.devices in
    let d = c.loop-device.device in
    let count = rw c.config.ensures at c.devices-count.ensures.value in
    let there : d < length devices = omega (arith, c.loop-device-test.true, count, c.laws.ensures.accounted.as_many) in
    leaves_lost (told c.args.writer.now) (told c.loop-device.writer) (told c.write_one.new.writer) (each_text 0 devices) (each_text d (drop d devices)) (one_text d (device_at d devices)) (each_text (d + 1) (drop (d + 1) devices)) (devices_turn d devices there) c.loop-device.invariant c.if-not-write_one.ensures

pub loop-device-preserved : goal.loop-device-preserved
loop-device-preserved g c =
    let told = g.W.Sink.told in
    let devices = c.args.table.now.state.devices in
    let d = c.loop-device.device in
    let count = rw c.config.ensures at c.devices-count.ensures.value in
    let there : d < length devices = omega (arith, c.loop-device-test.true, count, c.laws.ensures.accounted.as_many) in
    leaves_less (told c.args.writer.now) (told c.loop-device.writer) (told c.write_one.new.writer) (each_text 0 devices) (each_text d (drop d devices)) (one_text d (device_at d devices)) (each_text (d + 1) (drop (d + 1) devices)) (devices_turn d devices there) c.loop-device.invariant c.if-not-write_one.ensures

pub returns : goal.returns
returns g c =
    let told = g.W.Sink.told in
    let devices = c.args.table.now.state.devices in
    let d = c.loop-device.device in
    let count = rw c.config.ensures at c.devices-count.ensures.value in
    let all : length devices ≤ d = omega (arith, c.loop-device-test.false, count, c.laws.ensures.accounted.as_many) in
    leaves_none (told c.args.writer.now) (told c.loop-device.writer) (each_text 0 devices) (each_text d (drop d devices)) (no_device_left d devices all) c.loop-device.invariant
