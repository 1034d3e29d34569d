-- What is read at a place of rows.
use Rattle.std.proofs.Common.{ℕ, suc, ◌≡◌, ◌+◌, ◌-◌, ◌<◌, ◌≤◌, refl, sym, ap, ◌∙◌, List, [], ◌∷◌, IsSome, length, get_or, Option, Some, None, inl, inr, rules, arith}
use Rattle.std.specs.Prelude.{slice_get, IfSome}
use Rattle.std.specs.List.{AllByRecursion}
use Rattle.std.proofs.lemmas.Bool.{cases_lt}
use Rattle.std.proofs.lemmas.List.{get_or_default}
use Rattle.acc_ordered.specs.declared.entries.KeyValueRef.{KeyValueRef}
use Rattle.acc_ordered.specs.Listing.{KeyValue, KeysRise, at_key, entry_in, seen}
use Rattle.acc_ordered.specs.declared.places.Place.{Place}
use Rattle.acc_ordered.specs.Laid.{side_by_side, IsRow}
use Rattle.acc_ordered.specs.Spots.{index_of, get_before, IsRowAt, IsTaken, IsInRow, IsOfKeyAt}
use Rattle.acc_ordered.proofs.Laying.{row_at, same_row, row_bound, got, entry_in_row, number_next, number_last, get_none}
use Rattle.acc_ordered.proofs.Placing.{row_is_row}
use Rattle.acc_ordered.proofs.Searched.{at_got}

module _ {T : Type 0} where
  -- the row that is read is the one of its number
  pub read_row : (rows : List (List (KeyValue T))) (i : ℕ) (known row : List (KeyValue T)) → IsRowAt rows i known → row ≡ get_or rows i row → known ≡ row
  read_row rows i known row at is = sym (is ∙ same_row rows i known row at)

  pub read_at : (rows : List (List (KeyValue T))) (i : ℕ) (known row : List (KeyValue T)) → IsRowAt rows i known → row ≡ get_or rows i row → IsRowAt rows i row
  read_at rows i known row at is = row_at rows i row (row_bound rows i known at) is

  pub read_bound : (rows : List (List (KeyValue T))) (place : Place) (row : List (KeyValue T)) → (w : IsInRow rows place) → row ≡ get_or rows place.row row → place.at ≤ length row
  read_bound rows place row w is = let same = ap (λ (r : List (KeyValue T)). length r) (read_row rows place.row w.row row w.row_is is) in omega (arith, w.bound, same)

  -- before a place that is not the first of its row stands an entry of that row
  pub before_row : (rows : List (List (KeyValue T))) (place : Place) (row : List (KeyValue T)) (e : KeyValue T) → IsRowAt rows place.row row → (place.at ≡ 0 → ⊥) → slice_get row (place.at - 1) ≡ Some e → get_before (side_by_side rows) (index_of rows place) ≡ Some e
  before_row rows place row e at some is =
      let lt = (got row (place.at - 1) e is).bound in
      let next : index_of rows place ≡ suc (index_of rows (record { row = place.row; at = place.at - 1 })) = grind (arith, some) in
      ap (get_before (side_by_side rows)) next ∙ entry_in_row rows (record { row = place.row; at = place.at - 1 }) row e at lt is

  -- before the first of all stands none
  pub before_none : (rows : List (List (KeyValue T))) (place : Place) → place.at ≡ 0 → place.row ≡ 0 → None ≡ get_before (side_by_side rows) (index_of rows place)
  before_none rows place at row = let none : index_of rows place ≡ 0 = rw (at, row) refl in ap (get_before (side_by_side rows)) (sym none)

  -- nothing is behind the last row
  pub read_past : (rows : List (List (KeyValue T))) (place : Place) (row : List (KeyValue T)) → IsRowAt rows place.row row → place.at ≡ length row → place.row + 1 ≡ length rows → slice_get (side_by_side rows) (index_of rows place) ≡ None
  read_past rows place row at end last = get_none (side_by_side rows) (index_of rows place) (omega (arith, number_next rows place row at end, number_last rows (place.row + 1) (omega arith)))

  -- behind the others of a row stands the first of the next
  pub read_next : (rows : List (List (KeyValue T))) (place : Place) (row next : List (KeyValue T)) (e : KeyValue T) → AllByRecursion IsRow rows → IsRowAt rows place.row row → place.at ≡ length row → place.row + 1 < length rows → next ≡ get_or rows (place.row + 1) next → slice_get next 0 ≡ Some e → slice_get (side_by_side rows) (index_of rows place) ≡ Some e
  read_next rows place row next e each at end lt is eis =
      let there = row_at rows (place.row + 1) next lt is in
      ap (slice_get (side_by_side rows)) (sym (number_next rows place row at end)) ∙ entry_in_row rows (record { row = place.row + 1; at = 0 }) next e there (row_is_row rows (place.row + 1) next each there).some eis

  pub taken_next : (rows : List (List (KeyValue T))) (place : Place) (row : List (KeyValue T)) → AllByRecursion IsRow rows → IsRowAt rows place.row row → place.at ≡ length row → index_of rows place < length (side_by_side rows) → IsTaken rows (record { row = place.row + 1; at = 0 })
  taken_next rows place row each at end some = elim (cases_lt (place.row + 1) (length rows)) [
    | inl less ↦
        let there = row_at rows (place.row + 1) (get_or rows (place.row + 1) row) less (get_or_default rows (place.row + 1) row (get_or rows (place.row + 1) row) less) in
        record { row = get_or rows (place.row + 1) row; row_is = there; bound = (row_is_row rows (place.row + 1) (get_or rows (place.row + 1) row) each there).some }
    | inr le ↦ absurd (omega (arith, number_next rows place row at end, number_last rows (place.row + 1) le))
  ]

  -- the entry of the key that stands at a place is the one that is looked for
  pub near_found : (key : ℕ) (rows : List (List (KeyValue T))) (near : Place) → KeysRise (side_by_side rows) → (h : IsOfKeyAt key rows near) → slice_get (side_by_side rows) (index_of rows near) ≡ at_key key (side_by_side rows)
  near_found key rows near r h = h.entry_is ∙ sym (at_got key (side_by_side rows) (index_of rows near) h.entry r h.entry_is h.key_is)

  -- what stands at a place is the entry of its key
  pub entry_found : {K : Type 0} → (number : K → ℕ) (rows : List (List (KeyValue T))) (place : Place) (o : Option (KeyValueRef K T)) → KeysRise (side_by_side rows) → IfSome o (λ _. IsTaken rows place) → IfSome o (λ _. slice_get (side_by_side rows) (index_of rows place) ≡ seen number o) → IfSome o (λ found. at_key (number found.key) (side_by_side rows) ≡ seen number o)
  entry_found number rows place None r taken is = tt
  entry_found number rows place (Some e) r taken is = sym (near_found (number e.key) rows place r (record { taken = taken; entry = entry_in number e; entry_is = is; key_is = refl })) ∙ is

  pub some_rows : (key : ℕ) (rows : List (List (KeyValue T))) → IsSome (at_key key (side_by_side rows)) → 0 < length rows
  some_rows key [] there = absurd (search (rules, there))
  some_rows key (row ∷ rows) there = omega arith
