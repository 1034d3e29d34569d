use Rattle.std.proofs.Common.{◌≡◌, ◌<◌, ◌^◌, ◌∙◌, ap, sym, arith}
use Rattle.acc_base.specs.declared.mappings.Found.TheVariants.{Inside}
use Rattle.acc_base.specs.Limits.{Limits, IsWithinBounds, limits_on}
use Rattle.acc_base.specs.Section.{only}
use Rattle.acc_base.specs.Ranges.{where_is}
use Rattle.acc_base.specs.Blocks.{place_of}
use Rattle.acc_base.specs.Records.{State}
use Rattle.acc_base.specs.Devices.{view}
use Rattle.acc_base.specs.Calls.{World}
use Rattle.acc_base.proofs.OnDevices.{bounds_on}
use Rattle.acc_base.proofs.Accounted.{sound_on}
use Rattle.acc_clauses.specs.Devices.{Seen}
use Rattle.acc_table.proofs.Answering.{offset_low, place_low}
use Rattle.acc_table.proofs.tables.Table.device_address.Goals as goal

pub overflow_add-result : goal.overflow_add-result
overflow_add-result c =
    let w : World = c.args.self.now in
    let d = c.args.device in
    let s : State = view d w.state in
    let l : Limits = limits_on d w.limits in
    let bounds : IsWithinBounds l = bounds_on d w.limits c.in_ok-view.ensures.known c.laws.ensures.bounds in
    let found : where_is (only c.args.address) s.records.ranges ≡ Inside c.in-Inside.block c.in-Inside.offset = ap (λ (v : Seen). where_is (only c.args.address) v.state.records.ranges) (sym c.in_ok-view.ensures.there) ∙ sym c.in-Inside.ensures in
    let offset : c.in-Inside.offset < 2 ^ 40 = offset_low l s (only c.args.address) c.in-Inside.block c.in-Inside.offset bounds (sound_on w c.laws.ensures.accounted d) (omega arith) found in
    let low : place_of c.in-Inside.block s.records.blocks < 2 ^ 41 = place_low l s c.in-Inside.block bounds (sound_on w c.laws.ensures.accounted d) in
    let place : c.place.result ≡ place_of c.in-Inside.block s.records.blocks = c.place.ensures ∙ ap (λ (v : Seen). place_of c.in-Inside.block v.state.records.blocks) c.in_ok-view.ensures.there in
    omega (arith, place, offset, low)
