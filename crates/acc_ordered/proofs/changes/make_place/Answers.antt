use Rattle.std.proofs.Common.{◌≡◌, ◌+◌, ◌⊎◌, inl, inr, length, arith}
use Rattle.acc_base.proofs.Results.{equal}
use Rattle.acc_ordered.proofs.Placing.{row_is_row}
use Rattle.acc_ordered.proofs.Reading.{read_at, read_bound}
use Rattle.acc_ordered.proofs.Changing.{lower_at, upper_at, lower_long, upper_long, cut_same, cut_next}
use Rattle.acc_ordered.proofs.HalfFull.{half_cut}
use Rattle.acc_ordered.proofs.changes.make_place.Goals as goal

pub returns-then-len-lt-WIDTH-clause-place : goal.returns-then-len-lt-WIDTH-clause-place
returns-then-len-lt-WIDTH-clause-place g c = record {
  row = c.index.result.now;
  row_is = read_at c.args.rows.now.items c.args.place.row c.requires.within.row c.index.result.now c.requires.within.row_is c.index.ensures;
  bound = read_bound c.args.rows.now.items c.args.place c.index.result.now c.requires.within c.index.ensures;
  free = omega (arith, c.len.ensures.value);
}

pub split-requires-clause-full : goal.split-requires-clause-full
split-requires-clause-full g c =
    let at = read_at c.args.rows.now.items c.args.place.row c.requires.within.row c.index.result.now c.requires.within.row_is c.index.ensures in
    record {
      row = c.index.result.now;
      row_is = at;
      count_is = omega (arith, c.len.ensures.value, (row_is_row c.args.rows.now.items c.args.place.row c.index.result.now c.requires.rows.in_rows.each at).most);
    }

pub returns-then-place-cut-clause-number : goal.returns-then-place-cut-clause-number
returns-then-place-cut-clause-number g c = cut_same c.args.rows.now.items c.split.new.rows.items c.args.place c.cut_for-cut.result c.split.ensures.cut

pub returns-then-place-cut-clause-place : goal.returns-then-place-cut-clause-place
returns-then-place-cut-clause-place g c =
    let long = lower_long c.args.rows.now.items c.split.new.rows.items c.args.place.row c.cut_for-cut.result c.split.ensures.cut (omega arith) in
    record {
      row = c.split.ensures.cut.lower;
      row_is = lower_at c.args.rows.now.items c.split.new.rows.items c.args.place.row c.cut_for-cut.result c.split.ensures.cut;
      bound = omega (arith, long);
      free = omega (arith, long);
    }

pub returns-else-place-cut-clause-number : goal.returns-else-place-cut-clause-number
returns-else-place-cut-clause-number g c = cut_next c.args.rows.now.items c.split.new.rows.items c.args.place c.cut_for-cut.result c.split.ensures.cut (omega arith) (omega arith)

pub returns-else-place-cut-clause-place : goal.returns-else-place-cut-clause-place
returns-else-place-cut-clause-place g c =
    let long = upper_long c.args.rows.now.items c.split.new.rows.items c.args.place.row c.cut_for-cut.result c.split.ensures.cut in
    let at = read_at c.args.rows.now.items c.args.place.row c.requires.within.row c.index.result.now c.requires.within.row_is c.index.ensures in
    let most = (row_is_row c.args.rows.now.items c.args.place.row c.index.result.now c.requires.rows.in_rows.each at).most in
    let bound = read_bound c.args.rows.now.items c.args.place c.index.result.now c.requires.within c.index.ensures in
    record {
      row = c.split.ensures.cut.upper;
      row_is = upper_at c.args.rows.now.items c.split.new.rows.items c.args.place.row c.cut_for-cut.result c.split.ensures.cut;
      bound = omega (arith, long, most, bound);
      free = omega (arith, long);
    }

pub returns-then-place-cut-clause-half_full : goal.returns-then-place-cut-clause-half_full
returns-then-place-cut-clause-half_full g c =
    let last : (c.cut_for-cut.result ≡ 32) ⊎ (c.args.place.row + 1 ≡ length c.args.rows.now.items) = elim c.cut_for-cut.ensures.middle [ inl half ↦ inl half | inr is ↦ inr (omega (arith, equal (c.args.place.row + 1) c.len-2.result is.1)) ] in
    half_cut c.args.rows.now.items c.split.new.rows.items c.args.place.row c.cut_for-cut.result c.split.ensures.cut c.cut_for-cut.ensures.half c.cut_for-cut.ensures.not_all last c.requires.rows.in_rows.each c.requires.half_full

pub returns-else-place-cut-clause-half_full : goal.returns-else-place-cut-clause-half_full
returns-else-place-cut-clause-half_full g c =
    let last : (c.cut_for-cut.result ≡ 32) ⊎ (c.args.place.row + 1 ≡ length c.args.rows.now.items) = elim c.cut_for-cut.ensures.middle [ inl half ↦ inl half | inr is ↦ inr (omega (arith, equal (c.args.place.row + 1) c.len-2.result is.1)) ] in
    half_cut c.args.rows.now.items c.split.new.rows.items c.args.place.row c.cut_for-cut.result c.split.ensures.cut c.cut_for-cut.ensures.half c.cut_for-cut.ensures.not_all last c.requires.rows.in_rows.each c.requires.half_full
