use Rattle.std.proofs.Common.{◌+◌, ◌<◌, ◌^◌, arith}
use Rattle.acc_base.specs.Section.{end_of, device_memory}
use Rattle.acc_base.specs.Limits.{limits_on}
use Rattle.acc_base.specs.Devices.{view}
use Rattle.acc_script.specs.Texts.{ended_text, ended_texts}
use Rattle.acc_script.proofs.LeftToWrite.{leaves_all, leaves_less, leaves_lost, leaves_none}
use Rattle.acc_script.proofs.RisingBlocks.{ended_place, ended_turn, ended_none}
use Rattle.acc_script.proofs.print.blocks.write_ended.Goals as goal

pub each-init : goal.each-init
each-init g c = leaves_all (g.W.Sink.told c.args.writer.now) (ended_texts 0 (view c.args.device c.args.table.now.state).records)

pub returns-then-not-write_block : goal.returns-then-not-write_block
returns-then-not-write_block g c =
    let told = g.W.Sink.told in
    let w = (view c.args.device c.args.table.now.state).records in
    let e = c.in-Some.ended in
    let turn = ended_turn (device_memory (limits_on c.args.device c.args.table.now.limits)) w.births c.each.from w (c.laws.ensures.accounted.devices c.args.device c.requires.there).sound.layout.records.blocks_apart e c.in-Some.ensures in
    leaves_lost (told c.args.writer.now) (told c.each.writer) (told c.write_block.new.writer) (ended_texts 0 w) (ended_texts c.each.from w) (ended_text e) (ended_texts (e.place + 1) w) turn c.each.invariant c.if-not-write_block.ensures

pub overflow_add-from : goal.overflow_add-from
overflow_add-from g c =
    let w = (view c.args.device c.args.table.now.state).records in
    let bound : end_of (device_memory (limits_on c.args.device c.args.table.now.limits)) < 2 ^ 35 = omega (arith, c.requires.there, c.laws.ensures.bounds.devices.1, c.laws.ensures.bounds.device.1) in
    let place = ended_place (device_memory (limits_on c.args.device c.args.table.now.limits)) w.births c.each.from w (c.laws.ensures.accounted.devices c.args.device c.requires.there).sound.layout.records.blocks_apart c.in-Some.ended c.in-Some.ensures bound in
    omega (arith, place.1)

pub each-smaller : goal.each-smaller
each-smaller g c =
    let w = (view c.args.device c.args.table.now.state).records in
    let bound : end_of (device_memory (limits_on c.args.device c.args.table.now.limits)) < 2 ^ 35 = omega (arith, c.requires.there, c.laws.ensures.bounds.devices.1, c.laws.ensures.bounds.device.1) in
    let place = ended_place (device_memory (limits_on c.args.device c.args.table.now.limits)) w.births c.each.from w (c.laws.ensures.accounted.devices c.args.device c.requires.there).sound.layout.records.blocks_apart c.in-Some.ended c.in-Some.ensures bound in
    omega (arith, place.0, place.1)

pub each-preserved : goal.each-preserved
each-preserved g c =
    let told = g.W.Sink.told in
    let w = (view c.args.device c.args.table.now.state).records in
    let e = c.in-Some.ended in
    let turn = ended_turn (device_memory (limits_on c.args.device c.args.table.now.limits)) w.births c.each.from w (c.laws.ensures.accounted.devices c.args.device c.requires.there).sound.layout.records.blocks_apart e c.in-Some.ensures in
    leaves_less (told c.args.writer.now) (told c.each.writer) (told c.write_block.new.writer) (ended_texts 0 w) (ended_texts c.each.from w) (ended_text e) (ended_texts (e.place + 1) w) turn c.each.invariant c.if-not-write_block.ensures

pub returns : goal.returns
returns g c =
    let told = g.W.Sink.told in
    let w = (view c.args.device c.args.table.now.state).records in
    leaves_none (told c.args.writer.now) (told c.each.writer) (ended_texts 0 w) (ended_texts c.each.from w) (ended_none (device_memory (limits_on c.args.device c.args.table.now.limits)) w.births c.each.from w (c.laws.ensures.accounted.devices c.args.device c.requires.there).sound.layout.records.blocks_apart c.in_default.ensures) c.each.invariant
