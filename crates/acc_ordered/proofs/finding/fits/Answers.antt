use Rattle.std.proofs.Common.{◌++◌, length, length-append, ap, inl, inr, arith}
use Rattle.std.proofs.lemmas.Bool.{OnTrue_at, OnTrue_from}
use Rattle.acc_ordered.specs.Laid.{side_by_side}
use Rattle.acc_ordered.specs.Spots.{index_of, IsPlaceOf}
use Rattle.acc_ordered.proofs.Laying.{row_at, row_number_at, sides_of_row}
use Rattle.acc_ordered.proofs.Searched.{split_between}
use Rattle.acc_ordered.proofs.finding.fits.Goals as goal

pub is_behind_lower-requires : goal.is_behind_lower-requires
is_behind_lower-requires g c = record { bound = omega (arith, c.if-place-len-2.false, c.len-2.ensures.value) }

pub is_before_others-requires-clause-at : goal.is_before_others-requires-clause-at
is_before_others-requires-clause-at g c = row_at c.args.rows.now.items c.args.place.row c.index-row.result.now (omega arith) c.index-row.ensures

pub is_before_others-requires-clause-bound : goal.is_before_others-requires-clause-bound
is_before_others-requires-clause-bound g c = omega (arith, c.if-place-len-2.false, c.len-2.ensures.value)

pub returns-then-is_behind_lower : goal.returns-then-is_behind_lower
returns-then-is_behind_lower g c =
    let at = row_at c.args.rows.now.items c.args.place.row c.index-row.result.now (omega arith) c.index-row.ensures in
    OnTrue_from c.is_before_others.result (IsPlaceOf (g.K.Key.number c.args.key) c.args.rows.now.items c.args.place) (λ last. record {
      split = split_between (g.K.Key.number c.args.key) (side_by_side c.args.rows.now.items) (index_of c.args.rows.now.items c.args.place) c.requires.rising (omega (arith, c.if-place-len-2.false, c.len-2.ensures.value, row_number_at c.args.rows.now.items c.args.place c.index-row.result.now at, ap length (sides_of_row c.args.rows.now.items c.args.place.row c.index-row.result.now at), length-append (side_by_side at.before) (c.index-row.result.now ++ side_by_side at.behind), length-append c.index-row.result.now (side_by_side at.behind))) (OnTrue_at c.if-is_behind_lower.true c.is_behind_lower.ensures c.args.rows.now.items at (λ none. elim c.if-place-gt0.either [ inl w ↦ omega (arith, w.1) | inr w ↦ absurd (w none) ])) (OnTrue_at last c.is_before_others.ensures);
      within = λ some. record { row = c.index-row.result.now; row_is = at; bound = omega (arith, c.if-place-len-2.false, c.len-2.ensures.value) };
      first = λ none. elim c.if-place-gt0.either [ inl w ↦ omega (arith, w.1) | inr w ↦ absurd (w none) ];
    })
