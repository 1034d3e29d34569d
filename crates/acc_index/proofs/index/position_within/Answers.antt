use Rattle.std.proofs.Common.{◌≡◌, arith}
use Rattle.acc_index.proofs.Indexing.{held_up, held_down, held_one}
use Rattle.acc_index.proofs.index.position_within.Goals as goal
use Rattle.acc_index.proofs.index.position_within.Goals.{then-items-from, else-items-from}

pub halving-preserved : goal.halving-preserved
halving-preserved g c =
    let i = c.halving.invariant in
    elim c.if-items-from.branch [
      | then-items-from w ↦ rw w.from-is (record { some = omega arith; within = omega (arith, i.within); held = held_up c.args.items.now c.args.number c.halving.from c.halving.count _ c.index-items-from.result c.requires.rising i.held i.within (omega arith) w.if-items-from.true })
      | else-items-from w ↦ rw w.from-is (record { some = omega arith; within = omega (arith, i.within); held = held_down c.args.items.now c.args.number c.halving.from c.halving.count _ c.index-items-from.result c.requires.rising i.held i.within (omega arith) w.if-items-from.false (omega arith) })
    ]

pub returns-else-items-from-2-clause-none : goal.returns-else-items-from-2-clause-none
returns-else-items-from-2-clause-none g c =
    let i = c.halving.invariant in
    let one : c.halving.count ≡ 1 = omega arith in
    held_one c.args.items.now c.args.number c.halving.from c.index-items-from-2.result (rw one at i.held) c.if-items-from-2.false
