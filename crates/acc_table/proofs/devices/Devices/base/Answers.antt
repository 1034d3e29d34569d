use Rattle.std.proofs.Common.{◌≡◌, ◌<◌, ◌≤◌, ◌+◌, ◌∙◌, ◌++◌, ◌∷◌, [], sym, ap, subst, arith, List, length, drop, Vec, Global}
use Rattle.std.specs.Prelude.{map}
use Rattle.acc_base.specs.Limits.{Limits, recorded}
use Rattle.acc_base.specs.Devices.{OneDevice, Whole, device_at, recorded_device}
use Rattle.acc_clauses.specs.Devices.{Seen, device_in_view}
use Rattle.acc_table.specs.Devices.{whole_of}
use Rattle.acc_table.proofs.AllDevices.{devices_count, saved_more, saved_all, base_saved}
use Rattle.acc_table.proofs.devices.Devices.base.Goals.{in-Some+in_ok-saved+in_ok-push, in_default}
use Rattle.acc_table.proofs.devices.Devices.base.Goals as goal

pub loop-device-preserved : goal.loop-device-preserved
loop-device-preserved c =
    let l : Limits = c.args.config.now in
    let w : Whole = whole_of c.args.self.now in
    let d = c.loop-device.device in
    let there : d < length w.devices = omega (arith, c.loop-device-test.true, c.devices-device-end.ensures.value, c.requires.count, devices_count c.args.self.now) in
    elim c.match-view.branch [
      | in-Some+in_ok-saved+in_ok-push x ↦
          let now : x.in_ok-saved.field-0 ≡ recorded_device c.args.full (device_at d w.devices) = x.in_ok-saved.ensures.ok ∙ ap (λ (v : Seen). recorded_device c.args.full (device_in_view v.state)) (x.in-Some.ensures.there l c.requires) in
          let items : c.match-view.saved.items ≡ c.loop-device.saved.items ++ x.in_ok-saved.field-0 ∷ [] = ap (λ (v : Vec OneDevice Global). v.items) x.saved-is ∙ x.in_ok-push.ensures.items in
          subst (λ (ds : List OneDevice). ds ++ map (recorded_device c.args.full) (drop (d + 1) w.devices) ≡ map (recorded_device c.args.full) w.devices) (sym items) (saved_more c.args.full d w.devices c.loop-device.saved.items x.in_ok-saved.field-0 there c.loop-device.invariant now)
      | in_default x ↦ absurd (let none : length c.args.self.now.each.items ≤ d = x.in_default.ensures.none in omega (arith, there, none, devices_count c.args.self.now))
    ]

pub returns-clause-ok : goal.returns-clause-ok
returns-clause-ok c =
    let l : Limits = c.args.config.now in
    let w : Whole = whole_of c.args.self.now in
    let all : length w.devices ≤ c.loop-device.device = omega (arith, c.loop-device-test.false, c.devices-device-end.ensures.value, c.requires.count, devices_count c.args.self.now) in
    let devices = saved_all c.args.full c.loop-device.device w.devices c.loop-device.saved.items all c.loop-device.invariant in
    let host : c.in_ok-host.host.items ≡ recorded c.args.full w.host = c.in_ok-host.ensures.ok in
    c.of.ensures ∙ base_saved c.args.full w c.args.events c.next_region.result c.next_serial.result c.loop-device.saved.items c.in_ok-host.host.items devices c.next_region.ensures c.next_serial.ensures host
