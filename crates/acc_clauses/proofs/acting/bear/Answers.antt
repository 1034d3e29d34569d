use Rattle.std.proofs.Common.{ℕ, ◌≡◌, Option, sym, ap, subst, ◌∙◌, arith}
use Rattle.acc_clauses.specs.Words.{Section, Item, RegionClause, Counter, Range, Task}
use Rattle.acc_base.specs.declared.tasks.Task.TheVariants.{Enter}
use Rattle.acc_base.specs.declared.events.Step.TheVariants.{Born}
use Rattle.acc_base.specs.Ranges.{range_of, bare_range}
use Rattle.acc_base.specs.Tasks.{section_of, recounted}
use Rattle.acc_base.proofs.Memories.{recounted-block}
use Rattle.acc_clauses.specs.Contents.{beside}
use Rattle.acc_clauses.specs.Acts.{IsActedBy}
use Rattle.acc_clauses.proofs.Steps.{new_absent}
use Rattle.acc_clauses.proofs.Bearing.{born_range, born_changes, born_can_put, born_acts}
use Rattle.acc_clauses.proofs.acting.bear.Goals as goal

-- the range is the one that a birth adds
range_is : (task : Task) (counter : Counter) (item : Item RegionClause) (queue : Option ℕ) (k : ℕ) (s : Section) (r : Range) → task ≡ Enter counter item queue → s ≡ section_of task → r ≡ recounted task (bare_range s k) → r ≡ born_range counter item queue k
range_is task counter item queue k s r e named is = is ∙ ap (λ x. recounted task (bare_range x k)) named ∙ ap (λ t. recounted t (bare_range (section_of t) k)) e

pub add_reserved-requires-clause-new : goal.add_reserved-requires-clause-new
add_reserved-requires-clause-new c =
    let range = range_is c.args.task.now c.in-Enter.counter c.in-Enter.item c.in-Enter.queue c.args.block c.section-section.result c.recounted-range.result c.in-Enter.is c.section-section.ensures (c.recounted-range.ensures (omega arith) (omega arith)) in
    ap (λ (r : Range). range_of r.block c.args.environment.now.present.table.ranges) range
    ∙ ap (λ n. range_of n c.args.environment.now.present.table.ranges) (recounted-block (Enter c.in-Enter.counter c.in-Enter.item c.in-Enter.queue) (bare_range (section_of (Enter c.in-Enter.counter c.in-Enter.item c.in-Enter.queue)) c.args.block))
    ∙ new_absent c.args.block c.args.environment.now.present.table.ranges c.requires.can.no_range

pub fill_later-requires-clause-can : goal.fill_later-requires-clause-can
fill_later-requires-clause-can c q queued copies =
    let x = beside c.args.environment.now c.args.host.now in
    let made = rw (c.section-section.ensures ∙ ap section_of c.in-Enter.is) at c.make_block.ensures in
    let queue = rw c.in-Enter.is at c.requires.queue in
    let puts = rw c.in-Enter.is at c.requires.puts in
    born_can_put c.in-Enter.counter c.in-Enter.item c.in-Enter.queue c.is_copied_now-copied.result c.args.block c.args.place q x c.add_reserved.new.self c.make_block.new.device queue puts c.requires.can.number made c.laws.ensures.blocks_apart.born queued copies

pub fill_later-requires-clause-marked : goal.fill_later-requires-clause-marked
fill_later-requires-clause-marked c =
    let x = beside c.args.environment.now c.args.host.now in
    let can = rw c.in-Enter.is at c.requires.can in
    let made = rw (c.section-section.ensures ∙ ap section_of c.in-Enter.is) at c.make_block.ensures in
    let range = range_is c.args.task.now c.in-Enter.counter c.in-Enter.item c.in-Enter.queue c.args.block c.section-section.result c.recounted-range.result c.in-Enter.is c.section-section.ensures (c.recounted-range.ensures (omega arith) (omega arith)) in
    let put = rw range at c.add_reserved.ensures.table in
    let born = born_changes c.in-Enter.counter c.in-Enter.item c.in-Enter.queue c.is_copied_now-copied.result c.args.block c.args.place x c.add_reserved.new.self c.make_block.new.device can made put
    c.add_reserved.ensures.room_ranges c.add_reserved.ensures.room_regions c.add_reserved.ensures.room_holdings c.laws.ensures.marks c.laws.ensures.blocks_apart.born c.requires.marked in
    born.marked

pub returns : goal.returns
returns c =
    let x = beside c.args.environment.now c.args.host.now in
    let z = beside c.fill_later.new.environment c.fill_later.new.host in
    let can = rw c.in-Enter.is at c.requires.can in
    let made = rw (c.section-section.ensures ∙ ap section_of c.in-Enter.is) at c.make_block.ensures in
    let range = range_is c.args.task.now c.in-Enter.counter c.in-Enter.item c.in-Enter.queue c.args.block c.section-section.result c.recounted-range.result c.in-Enter.is c.section-section.ensures (c.recounted-range.ensures (omega arith) (omega arith)) in
    let put = rw range at c.add_reserved.ensures.table in
    let born = born_changes c.in-Enter.counter c.in-Enter.item c.in-Enter.queue c.is_copied_now-copied.result c.args.block c.args.place x c.add_reserved.new.self c.make_block.new.device can made put
    c.add_reserved.ensures.room_ranges c.add_reserved.ensures.room_regions c.add_reserved.ensures.room_holdings c.laws.ensures.marks c.laws.ensures.blocks_apart.born c.requires.marked in
    record { acted = subst (λ (t : Task). IsActedBy t (Born c.args.block c.args.place) x z) (sym c.in-Enter.is) (born_acts c.in-Enter.counter c.in-Enter.item c.in-Enter.queue c.is_copied_now-copied.result c.args.block c.args.place x _ z can c.is_copied_now-copied.ensures born c.fill_later.ensures.filled) }
