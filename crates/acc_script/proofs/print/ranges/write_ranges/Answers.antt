use Rattle.std.proofs.Common.{◌+◌, arith}
use Rattle.acc_base.specs.Limits.{limits_on}
use Rattle.acc_base.specs.Devices.{view}
use Rattle.acc_script.specs.Texts.{range_text, ranges_text}
use Rattle.acc_script.proofs.LeftToWrite.{leaves_all, leaves_less, leaves_lost, leaves_none}
use Rattle.acc_script.proofs.RisingRanges.{ranges_texts, ranges_all, found_start, ranges_turn, ranges_none}
use Rattle.acc_script.proofs.print.ranges.write_ranges.Goals as goal

pub each-init : goal.each-init
each-init g c = let w = (view c.args.device c.args.table.now.state).records in rw (← ranges_all w) (leaves_all (g.W.Sink.told c.args.writer.now) (ranges_text w))

pub returns-then-not-write_range : goal.returns-then-not-write_range
returns-then-not-write_range g c =
    let told = g.W.Sink.told in
    let w = (view c.args.device c.args.table.now.state).records in
    let m = c.in-Some.mapped in
    let turn = ranges_turn (limits_on c.args.device c.args.table.now.limits) c.each.from w (c.laws.ensures.accounted.devices c.args.device c.requires.there).sound.layout.records.ranges_apart m c.in-Some.ensures in
    leaves_lost (told c.args.writer.now) (told c.each.writer) (told c.write_range.new.writer) (ranges_text w) (ranges_texts c.each.from w) (range_text w m) (ranges_texts (m.start + 1) w) turn c.each.invariant c.if-not-write_range.ensures

pub write_range-requires-clause-low : goal.write_range-requires-clause-low
write_range-requires-clause-low g c = (found_start (limits_on c.args.device c.args.table.now.limits) c.each.from (view c.args.device c.args.table.now.state).records (c.laws.ensures.accounted.devices c.args.device c.requires.there).sound.layout.records.ranges_apart c.in-Some.mapped c.in-Some.ensures c.laws.ensures.bounds.host).1

pub overflow_add-from : goal.overflow_add-from
overflow_add-from g c =
    let start = found_start (limits_on c.args.device c.args.table.now.limits) c.each.from (view c.args.device c.args.table.now.state).records (c.laws.ensures.accounted.devices c.args.device c.requires.there).sound.layout.records.ranges_apart c.in-Some.mapped c.in-Some.ensures c.laws.ensures.bounds.host in
    omega (arith, start.1)

pub each-smaller : goal.each-smaller
each-smaller g c =
    let start = found_start (limits_on c.args.device c.args.table.now.limits) c.each.from (view c.args.device c.args.table.now.state).records (c.laws.ensures.accounted.devices c.args.device c.requires.there).sound.layout.records.ranges_apart c.in-Some.mapped c.in-Some.ensures c.laws.ensures.bounds.host in
    omega (arith, start.0, start.1)

pub each-preserved : goal.each-preserved
each-preserved g c =
    let told = g.W.Sink.told in
    let w = (view c.args.device c.args.table.now.state).records in
    let m = c.in-Some.mapped in
    let turn = ranges_turn (limits_on c.args.device c.args.table.now.limits) c.each.from w (c.laws.ensures.accounted.devices c.args.device c.requires.there).sound.layout.records.ranges_apart m c.in-Some.ensures in
    leaves_less (told c.args.writer.now) (told c.each.writer) (told c.write_range.new.writer) (ranges_text w) (ranges_texts c.each.from w) (range_text w m) (ranges_texts (m.start + 1) w) turn c.each.invariant c.if-not-write_range.ensures

pub returns : goal.returns
returns g c =
    let told = g.W.Sink.told in
    let w = (view c.args.device c.args.table.now.state).records in
    leaves_none (told c.args.writer.now) (told c.each.writer) (ranges_text w) (ranges_texts c.each.from w) (ranges_none c.each.from w c.in_default.ensures) c.each.invariant
