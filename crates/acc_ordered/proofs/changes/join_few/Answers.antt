use Rattle.std.proofs.Common.{ℕ, ◌≡◌, ◌-◌, subst, arith}
use Rattle.acc_ordered.specs.Spots.{AreApart}
use Rattle.acc_ordered.proofs.Joining.{side_joined}
use Rattle.acc_ordered.proofs.HalfFull.{joined_next, joined_before, not_joined}
use Rattle.acc_ordered.proofs.changes.join_few.Goals as goal
use Rattle.acc_ordered.proofs.changes.join_few.Goals.{else-row-gt0-via-then-row-gt0+else-are_few-2, else-row-gt0-via-else-row-gt0}

pub returns-then-are_few-clause-entries : goal.returns-then-are_few-clause-entries
returns-then-are_few-clause-entries g c = side_joined c.args.rows.now.items c.join.new.rows.items c.args.row c.join.ensures.joined

pub returns-then-are_few-2-clause-entries : goal.returns-then-are_few-2-clause-entries
returns-then-are_few-2-clause-entries g c = side_joined c.args.rows.now.items c.join-then-are_few-2.new.rows.items (c.args.row - 1) c.join-then-are_few-2.ensures.joined

pub returns-then-are_few-clause-half_full : goal.returns-then-are_few-clause-half_full
returns-then-are_few-clause-half_full g c = joined_next c.args.rows.now.items c.join.new.rows.items c.args.row c.join.ensures.joined c.requires.one_short c.requires.rows.in_rows.each

pub returns-then-are_few-2-clause-half_full : goal.returns-then-are_few-2-clause-half_full
returns-then-are_few-2-clause-half_full g c = joined_before c.args.rows.now.items c.join-then-are_few-2.new.rows.items (c.args.row - 1) c.args.row (omega (arith, c.if-row-gt0.true)) c.join-then-are_few-2.ensures.joined c.requires.one_short c.requires.rows.in_rows.each

pub returns-else-row-gt0-clause-half_full : goal.returns-else-row-gt0-clause-half_full
returns-else-row-gt0-clause-half_full g c = not_joined c.args.rows.now.items c.args.row (omega (arith, c.requires.within)) c.requires.one_short (c.if-are_few.ensures) (elim c.else-row-gt0.branch [
  | else-row-gt0-via-then-row-gt0+else-are_few-2 w ↦ λ last is. let same : c.args.row - 1 ≡ last = omega (arith, is) in subst (λ (n : ℕ). AreApart c.args.rows.now.items n) same (w.if-are_few-2.ensures)
  | else-row-gt0-via-else-row-gt0 w ↦ λ last is. absurd (omega (arith, w.if-row-gt0.false, is))
])
