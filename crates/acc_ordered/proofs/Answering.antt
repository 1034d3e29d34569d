-- What the calls on rows return, and how a value is written.
use Rattle.std.proofs.Common.{ℕ, zero, suc, ◌≡◌, ◌+◌, ◌<◌, refl, sym, ap, ◌∙◌, Bool, true, false, cond, List, [], ◌∷◌, ◌++◌, length, get_or, set, Option, Some, None, IsSome, arith, rules}
use Rattle.std.specs.Prelude.{◌==◌, map, slice_get}
use Rattle.std.proofs.lemmas.List.{set_at, map-append, set-append_left, length-set}
use Rattle.acc_base.proofs.Results.{equal}
use Rattle.acc_ordered.specs.Listing.{KeyValue, KeysRise, at_key}
use Rattle.acc_ordered.specs.declared.places.Place.{Place}
use Rattle.acc_ordered.specs.Laid.{side_by_side, least_key, IsRow, AreInRows}
use Rattle.acc_ordered.specs.Spots.{index_of, IsRowAt}
use Rattle.acc_ordered.proofs.Laying.{row_number_at, sides_of_row, get_some, entry_in_row}
use Rattle.acc_ordered.proofs.Changing.{all_set, replaced}

set_between : {X : Type 0} (f r b : List X) (j n : ℕ) (x : X) → n ≡ length f + j → j < length r → set (f ++ (r ++ b)) n x ≡ f ++ (set r j x ++ b)
set_between [] r b j n x e lt = let same : n ≡ j = omega arith in ap (λ k. set (r ++ b) k x) same ∙ set-append_left r b j x lt
set_between (y ∷ f) r b j zero x e lt = absurd (omega arith)
set_between (y ∷ f) r b j (suc n) x e lt = ap (λ zs. y ∷ zs) (set_between f r b j n x (omega arith) lt)

module _ {T : Type 0} where
  pub got_rows : (rows : List (List (KeyValue T))) (n : ℕ) (e : KeyValue T) → slice_get (side_by_side rows) n ≡ Some e → 0 < length rows
  got_rows [] n e is = cc
  got_rows (row ∷ rows) n e is = omega arith

  pub key_of_found : (key : ℕ) (es : List (KeyValue T)) (e : KeyValue T) → at_key key es ≡ Some e → e.key ≡ key
  key_of_found key [] e is = cc
  key_of_found key (f ∷ es) e is = go (key_of_found key es e) (f.key == key) refl is
    where
      go : (at_key key es ≡ Some e → e.key ≡ key) → (b : Bool) → (f.key == key) ≡ b → cond b (Some f) (at_key key es) ≡ Some e → e.key ≡ key
      go rest true t h = let same : f ≡ e = cc in ap (λ (x : KeyValue T). x.key) (sym same) ∙ equal _ _ t
      go rest false t h = rest h

  pub some_is : (o : Option (KeyValue T)) → IsSome o → (e : KeyValue T) × (o ≡ Some e)
  some_is None there = absurd (search (rules, there))
  some_is (Some e) there = (e, refl)

  -- ---- a value that is written

  pub write_row : (rows : List (List (KeyValue T))) (place : Place) (row new : List (KeyValue T)) (e : KeyValue T) → IsRowAt rows place.row row → place.at < length row → new ≡ set row place.at e → side_by_side (set rows place.row new) ≡ set (side_by_side rows) (index_of rows place) e
  write_row rows place row new e at lt is =
      replaced rows place.row row new at
      ∙ ap (λ es. side_by_side at.before ++ (es ++ side_by_side at.behind)) is
      ∙ sym (set_between (side_by_side at.before) row (side_by_side at.behind) place.at (index_of rows place) e (row_number_at rows place row at) lt)
      ∙ sym (ap (λ es. set es (index_of rows place) e) (sides_of_row rows place.row row at))

  -- the entry of a row at a place is the one that stands there among all
  pub got_in_row : (rows : List (List (KeyValue T))) (place : Place) (row : List (KeyValue T)) (e : KeyValue T) → IsRowAt rows place.row row → place.at < length row → slice_get (side_by_side rows) (index_of rows place) ≡ Some e → slice_get row place.at ≡ Some e
  got_in_row rows place row e at lt is =
      let here = get_some row place.at e lt in
      here ∙ sym (entry_in_row rows place row (get_or row place.at e) at lt here) ∙ is

  least_set : (es : List (KeyValue T)) (i : ℕ) (value : T) (d : KeyValue T) → i < length es → least_key (set es i (record (get_or es i d) { value = value })) ≡ least_key es
  least_set [] i value d lt = refl
  least_set (f ∷ es) zero value d lt = refl
  least_set (f ∷ es) (suc i) value d lt = refl

  -- a row in which a value is written stays a row with its least key
  pub row_long : (row new : List (KeyValue T)) (i : ℕ) (value : T) → i < length row → ((e : KeyValue T) → slice_get row i ≡ Some e → new ≡ set row i (record e { value = value })) → length new ≡ length row
  row_long [] new i value lt h = absurd (omega arith)
  row_long (e ∷ row) new i value lt h = ap length (h (get_or (e ∷ row) i e) (get_some (e ∷ row) i e lt)) ∙ length-set (e ∷ row) i (record (get_or (e ∷ row) i e) { value = value })

  pub row_written : (row new : List (KeyValue T)) (i : ℕ) (value : T) → i < length row → IsRow row → ((e : KeyValue T) → slice_get row i ≡ Some e → new ≡ set row i (record e { value = value })) → IsRow new × (least_key new ≡ least_key row)
  row_written row new i value lt whole written =
      let d : KeyValue T = record { key = 0; value = value } in
      let is = written (get_or row i d) (get_some row i d lt) in
      let long = row_long row new i value lt written in
      (record { some = omega (arith, long, whole.some); most = omega (arith, long, whole.most) }, ap least_key is ∙ least_set row i value d lt)

  pub in_rows_kept : (firsts : List ℕ) (rows : List (List (KeyValue T))) (i : ℕ) (row new : List (KeyValue T)) → AreInRows firsts rows → IsRowAt rows i row → IsRow new → least_key new ≡ least_key row → KeysRise (side_by_side (set rows i new)) → AreInRows firsts (set rows i new)
  in_rows_kept firsts rows i row new h at whole least rising = record {
    rising = rising;
    firsts_are =
        h.firsts_are
        ∙ ap (λ rs. map least_key rs) at.is
        ∙ map-append least_key at.before (row ∷ at.behind)
        ∙ ap (λ l. map least_key at.before ++ l ∷ map least_key at.behind) (sym least)
        ∙ sym (map-append least_key at.before (new ∷ at.behind))
        ∙ sym (ap (λ rs. map least_key rs) (set_at at.before row at.behind new i at.number_is))
        ∙ sym (ap (λ rs. map least_key (set rs i new)) at.is);
    each = all_set IsRow rows i new h.each whole;
  }
