use Rattle.std.proofs.Common.{◌+◌, ◌-◌, refl, subst, arith}
use Rattle.acc_base.specs.Devices.{view}
use Rattle.acc_script.specs.Texts.{pointer_text, pointers_text}
use Rattle.acc_script.proofs.LeftToWrite.{Leaves, leaves_all, leaves_less, leaves_lost, leaves_none}
use Rattle.acc_script.proofs.AttachedPointers.{behind, first_covered, pointers_none, pointers_turn}
use Rattle.acc_script.proofs.print.pointers.write_pointers.Goals as goal

pub each-init : goal.each-init
each-init g c = record { ends = refl; low = c.requires.low; left = leaves_all (g.W.Sink.told c.args.writer.now) (pointers_text c.args.section (view c.args.device c.args.table.now.state).records) }

pub returns-then-not-write_pointer : goal.returns-then-not-write_pointer
returns-then-not-write_pointer g c =
    let told = g.W.Sink.told in
    let w = (view c.args.device c.args.table.now.state).records in
    let a = c.in-Some.attached in
    let sound = (c.laws.ensures.accounted.devices c.args.device c.requires.there).sound.layout.records in
    let turn = pointers_turn c.each.rest w a sound.ranges_apart.rising sound.attached.rising c.in-Some.ensures in
    leaves_lost (told c.args.writer.now) (told c.each.writer) (told c.write_pointer.new.writer) (pointers_text c.args.section w) (pointers_text c.each.rest w) (pointer_text a) (pointers_text (behind c.each.rest a) w) turn c.each.invariant.left c.if-not-write_pointer.ensures

pub overflow_add-start : goal.overflow_add-start
overflow_add-start g c =
    let covered = first_covered c.each.rest (view c.args.device c.args.table.now.state).records c.in-Some.attached c.in-Some.ensures in
    omega (arith, covered.1, c.each.invariant.ends, c.each.invariant.low)

pub overflow_sub-rest : goal.overflow_sub-rest
overflow_sub-rest g c =
    let covered = first_covered c.each.rest (view c.args.device c.args.table.now.state).records c.in-Some.attached c.in-Some.ensures in
    omega (arith, covered.1, c.each.invariant.ends)

pub each-smaller : goal.each-smaller
each-smaller g c =
    let covered = first_covered c.each.rest (view c.args.device c.args.table.now.state).records c.in-Some.attached c.in-Some.ensures in
    omega (arith, covered.0, covered.1, c.each.invariant.ends)

pub each-preserved : goal.each-preserved
each-preserved g c =
    let told = g.W.Sink.told in
    let w = (view c.args.device c.args.table.now.state).records in
    let a = c.in-Some.attached in
    let sound = (c.laws.ensures.accounted.devices c.args.device c.requires.there).sound.layout.records in
    let covered = first_covered c.each.rest w a c.in-Some.ensures in
    let turn = pointers_turn c.each.rest w a sound.ranges_apart.rising sound.attached.rising c.in-Some.ensures in
    record {
      ends = omega (arith, covered.1, c.each.invariant.ends);
      low = c.each.invariant.low;
      left = subst (λ n. Leaves (told c.args.writer.now) (told c.write_pointer.new.writer) (pointers_text c.args.section w) (pointers_text (record { start = a.pointer + 1; len = n - (a.pointer + 1) }) w)) c.each.invariant.ends (leaves_less (told c.args.writer.now) (told c.each.writer) (told c.write_pointer.new.writer) (pointers_text c.args.section w) (pointers_text c.each.rest w) (pointer_text a) (pointers_text (behind c.each.rest a) w) turn c.each.invariant.left c.if-not-write_pointer.ensures);
    }

pub returns : goal.returns
returns g c =
    let told = g.W.Sink.told in
    let w = (view c.args.device c.args.table.now.state).records in
    leaves_none (told c.args.writer.now) (told c.each.writer) (pointers_text c.args.section w) (pointers_text c.each.rest w) (pointers_none c.each.rest w c.in_default.ensures) c.each.invariant.left
