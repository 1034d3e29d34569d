use Rattle.std.proofs.Common.{arith, sym}
use Rattle.acc_index.proofs.Indexing.{none_below, none_above, window_some, window_holds}
use Rattle.acc_index.proofs.index.window.Goals as goal
use Rattle.acc_index.proofs.index.window.Goals.{then-number-first-via-then-number-first, then-number-first-via-else-number-first+then-last-number}

pub returns-then-number-first-clause-none : goal.returns-then-number-first-clause-none
returns-then-number-first-clause-none g c = elim c.then-number-first.branch [
  | then-number-first-via-then-number-first w ↦ none_below c.args.items.now c.in_ok-first.field-0.now c.args.number c.requires (sym c.in_ok-first.ensures.value) w.if-number-first.true
  | then-number-first-via-else-number-first+then-last-number w ↦ none_above c.args.items.now c.in_ok-last.field-0.now c.args.number c.requires (sym c.in_ok-last.ensures.value) w.if-last-number.true
]

pub returns-clause-some : goal.returns-clause-some
returns-clause-some g c =
    let some = window_some c.args.items.now c.in_ok-first.field-0.now c.in_ok-last.field-0.now c.args.number c.requires (sym c.in_ok-first.ensures.value) (sym c.in_ok-last.ensures.value) c.if-number-first.false c.if-last-number.false in
    (grind (arith, some.0, some.1), grind (arith, some.1))

pub returns-clause-within : goal.returns-clause-within
returns-clause-within g c at found =
    let holds = window_holds c.args.items.now c.in_ok-first.field-0.now c.in_ok-last.field-0.now c.args.number at c.requires (sym c.in_ok-first.ensures.value) (sym c.in_ok-last.ensures.value) found in
    (omega (arith, holds.0), grind (arith, holds.1, found.in_bounds))
