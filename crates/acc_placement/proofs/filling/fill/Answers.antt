use Rattle.std.proofs.Common.{◌^◌, length, arith, ap, ◌∙◌}
use Rattle.acc_placement.specs.Listing.{with_hole_moved}
use Rattle.acc_placement.proofs.Touching.{merged, filled, put_alone, length_alone, grown_behind, grown_before, grown_both, length_both, there_behind}
use Rattle.acc_placement.proofs.filling.fill.Goals as goal

pub overflow_add-size-2 : goal.overflow_add-size-2
overflow_add-size-2 c =
    let hs = c.args.holes.now.holes in
    let a = c.touched-front.ensures 0 (2 ^ 41) c.requires.rising (omega arith) c.requires.limit in
    omega (arith, a.below, a.fits)

pub insert-requires-clause-room : goal.insert-requires-clause-room
insert-requires-clause-room c =
    let hs = c.args.holes.now.holes in
    let a = c.touched-front.ensures 0 (2 ^ 41) c.requires.rising (omega arith) c.requires.limit in
    omega (arith, c.requires.room (merged 0 hs (2 ^ 41) c.args.place c.args.size c.touched-front.result.0 c.touched-front.result.1 a) (filled 0 hs (2 ^ 41) c.args.place c.args.size c.touched-front.result.0 c.touched-front.result.1 a c.requires.not_empty), length_alone 0 hs (2 ^ 41) c.args.place c.args.size c.touched-front.result.0 c.touched-front.result.1 a c.if-front-eq0.true c.if-back-eq0.true)

pub insert-requires-clause-rising : goal.insert-requires-clause-rising
insert-requires-clause-rising c =
    let hs = c.args.holes.now.holes in
    let a = c.touched-front.ensures 0 (2 ^ 41) c.requires.rising (omega arith) c.requires.limit in
    rw (put_alone 0 hs (2 ^ 41) c.args.place c.args.size c.touched-front.result.0 c.touched-front.result.1 a c.if-front-eq0.true c.if-back-eq0.true) (filled 0 hs (2 ^ 41) c.args.place c.args.size c.touched-front.result.0 c.touched-front.result.1 a c.requires.not_empty).rising

pub grow-requires : goal.grow-requires
grow-requires c =
    let hs = c.args.holes.now.holes in
    let a = c.touched-front.ensures 0 (2 ^ 41) c.requires.rising (omega arith) c.requires.limit in
    (grown_behind 0 hs (2 ^ 41) c.args.place c.args.size c.touched-front.result.0 c.touched-front.result.1 a c.requires.rising c.if-front-eq0.true (omega arith)).may (filled 0 hs (2 ^ 41) c.args.place c.args.size c.touched-front.result.0 c.touched-front.result.1 a c.requires.not_empty).rising

pub grow-requires-then-back-eq0-2 : goal.grow-requires-then-back-eq0-2
grow-requires-then-back-eq0-2 c =
    let hs = c.args.holes.now.holes in
    let a = c.touched-front.ensures 0 (2 ^ 41) c.requires.rising (omega arith) c.requires.limit in
    (grown_before 0 hs (2 ^ 41) c.args.place c.args.size c.touched-front.result.0 c.touched-front.result.1 a c.requires.rising (omega arith) c.if-back-eq0-2.true).may (filled 0 hs (2 ^ 41) c.args.place c.args.size c.touched-front.result.0 c.touched-front.result.1 a c.requires.not_empty).rising

pub grow-requires-else-back-eq0-2 : goal.grow-requires-else-back-eq0-2
grow-requires-else-back-eq0-2 c =
    let hs = c.args.holes.now.holes in
    let a = c.touched-front.ensures 0 (2 ^ 41) c.requires.rising (omega arith) c.requires.limit in
    rw c.remove.ensures.holes ((grown_both 0 hs (2 ^ 41) c.args.place c.args.size c.touched-front.result.0 c.touched-front.result.1 a c.requires.rising (omega arith) (omega arith)).may (filled 0 hs (2 ^ 41) c.args.place c.args.size c.touched-front.result.0 c.touched-front.result.1 a c.requires.not_empty).rising)

pub remove-requires : goal.remove-requires
remove-requires c =
    let hs = c.args.holes.now.holes in
    let a = c.touched-front.ensures 0 (2 ^ 41) c.requires.rising (omega arith) c.requires.limit in
    record { there = there_behind 0 hs (2 ^ 41) c.args.place c.args.size c.touched-front.result.0 c.touched-front.result.1 a c.requires.rising (omega arith) (omega arith) }

pub returns-then-back-eq0-clause-filled : goal.returns-then-back-eq0-clause-filled
returns-then-back-eq0-clause-filled c =
    let hs = c.args.holes.now.holes in
    λ low high s le limit.
    let a = c.touched-front.ensures low high s le limit in
    rw (c.insert.ensures.holes ∙ put_alone low hs high c.args.place c.args.size c.touched-front.result.0 c.touched-front.result.1 a c.if-front-eq0.true c.if-back-eq0.true) (filled low hs high c.args.place c.args.size c.touched-front.result.0 c.touched-front.result.1 a c.requires.not_empty)

pub returns-else-back-eq0-clause-filled : goal.returns-else-back-eq0-clause-filled
returns-else-back-eq0-clause-filled c =
    let hs = c.args.holes.now.holes in
    λ low high s le limit.
    let a = c.touched-front.ensures low high s le limit in
    rw (c.grow.ensures.holes ∙ (grown_behind low hs high c.args.place c.args.size c.touched-front.result.0 c.touched-front.result.1 a s c.if-front-eq0.true (omega arith)).is) (filled low hs high c.args.place c.args.size c.touched-front.result.0 c.touched-front.result.1 a c.requires.not_empty)

pub returns-then-back-eq0-2-clause-filled : goal.returns-then-back-eq0-2-clause-filled
returns-then-back-eq0-2-clause-filled c =
    let hs = c.args.holes.now.holes in
    λ low high s le limit.
    let a = c.touched-front.ensures low high s le limit in
    rw (c.grow-then-back-eq0-2.ensures.holes ∙ (grown_before low hs high c.args.place c.args.size c.touched-front.result.0 c.touched-front.result.1 a s (omega arith) c.if-back-eq0-2.true).is) (filled low hs high c.args.place c.args.size c.touched-front.result.0 c.touched-front.result.1 a c.requires.not_empty)

pub returns-else-back-eq0-2-clause-filled : goal.returns-else-back-eq0-2-clause-filled
returns-else-back-eq0-2-clause-filled c =
    let hs = c.args.holes.now.holes in
    λ low high s le limit.
    let a = c.touched-front.ensures low high s le limit in
    rw (c.grow-else-back-eq0-2.ensures.holes ∙ ap (with_hole_moved _ _ _) c.remove.ensures.holes ∙ (grown_both low hs high c.args.place c.args.size c.touched-front.result.0 c.touched-front.result.1 a s (omega arith) (omega arith)).is) (filled low hs high c.args.place c.args.size c.touched-front.result.0 c.touched-front.result.1 a c.requires.not_empty)

pub returns-then-back-eq0-clause-nodes : goal.returns-then-back-eq0-clause-nodes
returns-then-back-eq0-clause-nodes c =
    let hs = c.args.holes.now.holes in
    let a = c.touched-front.ensures 0 (2 ^ 41) c.requires.rising (omega arith) c.requires.limit in
    omega (arith, ap length (c.insert.ensures.holes ∙ put_alone 0 hs (2 ^ 41) c.args.place c.args.size c.touched-front.result.0 c.touched-front.result.1 a c.if-front-eq0.true c.if-back-eq0.true), length_alone 0 hs (2 ^ 41) c.args.place c.args.size c.touched-front.result.0 c.touched-front.result.1 a c.if-front-eq0.true c.if-back-eq0.true, c.insert.ensures.room)

pub returns-else-back-eq0-2-clause-nodes : goal.returns-else-back-eq0-2-clause-nodes
returns-else-back-eq0-2-clause-nodes c =
    let hs = c.args.holes.now.holes in
    let a = c.touched-front.ensures 0 (2 ^ 41) c.requires.rising (omega arith) c.requires.limit in
    omega (arith, ap length (c.grow-else-back-eq0-2.ensures.holes ∙ ap (with_hole_moved _ _ _) c.remove.ensures.holes ∙ (grown_both 0 hs (2 ^ 41) c.args.place c.args.size c.touched-front.result.0 c.touched-front.result.1 a c.requires.rising (omega arith) (omega arith)).is), length_both 0 hs (2 ^ 41) c.args.place c.args.size c.touched-front.result.0 c.touched-front.result.1 a (omega arith) (omega arith), c.remove.ensures.room, c.grow-else-back-eq0-2.ensures.room)
