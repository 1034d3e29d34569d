-- Rows in which one row changes.
use Rattle.std.proofs.Common.{ℕ, zero, suc, ◌≡◌, ◌+◌, ◌-◌, ◌<◌, ◌≤◌, refl, sym, ap, subst, ◌∙◌, List, [], ◌∷◌, ◌++◌, length, get_or, set, take, drop, insert, length-append, append_assoc, Some, arith}
use Rattle.std.specs.Prelude.{map, slice_get}
use Rattle.std.specs.List.{AllByRecursion, remove}
use Rattle.acc_ordered.specs.Laid.{itself}
use Rattle.std.proofs.lemmas.Grind.{flat_map-append}
use Rattle.std.proofs.lemmas.List.{set_at, map-set, map-append, length-map, take-append-drop, length-take-le, length-drop}
use Rattle.std.proofs.lemmas.List.Edits.{insert-append_left, remove-append_left, length-insert, length-remove}
use Rattle.acc_base.proofs.Elements.{AllByRecursion-append, all_behind, all_in_front}
use Rattle.acc_base.proofs.Keyed.{apart-remove}
use Rattle.acc_ordered.specs.Listing.{KeyValue, KeysRise}
use Rattle.acc_ordered.specs.declared.places.Place.{Place}
use Rattle.acc_ordered.specs.Laid.{side_by_side, least_key, IsRow, AreInRows}
use Rattle.acc_ordered.specs.Spots.{index_of, IsRowAt, HasPlace, IsCutInTwo, IsAmongOthers}
use Rattle.acc_ordered.proofs.Laying.{row_number_at, sides_of_row}
use Rattle.acc_ordered.proofs.Placing.{Below, row_is_row}
use Rattle.acc_ordered.proofs.Reading.{read_row, read_at}

-- ---- lists

pub all_set : {X : Type 0} (P : X → Type 0) (xs : List X) (i : ℕ) (y : X) → AllByRecursion P xs → P y → AllByRecursion P (set xs i y)
all_set P [] i y h p = tt
all_set P (x ∷ xs) zero y h p = (p, h.1)
all_set P (x ∷ xs) (suc i) y h p = (h.0, all_set P xs i y h.1 p)

insert_between : {X : Type 0} (f r b : List X) (j n : ℕ) (x : X) → n ≡ length f + j → j ≤ length r → insert (f ++ (r ++ b)) n x ≡ f ++ (insert r j x ++ b)
insert_between [] r b j n x e le = let same : n ≡ j = omega arith in ap (λ k. insert (r ++ b) k x) same ∙ insert-append_left r b j x le
insert_between (y ∷ f) r b j zero x e le = absurd (omega arith)
insert_between (y ∷ f) r b j (suc n) x e le = ap (λ zs. y ∷ zs) (insert_between f r b j n x (omega arith) le)

remove_between : {X : Type 0} (f r b : List X) (j n : ℕ) → n ≡ length f + j → j < length r → remove (f ++ (r ++ b)) n ≡ f ++ (remove r j ++ b)
remove_between [] r b j n e lt = let same : n ≡ j = omega arith in ap (λ k. remove (r ++ b) k) same ∙ remove-append_left r b j lt
remove_between (y ∷ f) r b j zero e lt = absurd (omega arith)
remove_between (y ∷ f) r b j (suc n) e lt = ap (λ zs. y ∷ zs) (remove_between f r b j n (omega arith) lt)

pub insert_next : {X : Type 0} (f : List X) (x : X) (b : List X) (n : ℕ) (y : X) → n ≡ length f + 1 → insert (f ++ x ∷ b) n y ≡ f ++ x ∷ y ∷ b
insert_next [] x b n y e = let one : n ≡ 1 = omega arith in ap (λ k. insert (x ∷ b) k y) one
insert_next (z ∷ f) x b zero y e = absurd (omega arith)
insert_next (z ∷ f) x b (suc n) y e = ap (λ zs. z ∷ zs) (insert_next f x b n y (omega arith))

remove_one : {X : Type 0} (f : List X) (x : X) (b : List X) (n : ℕ) → length f ≡ n → remove (f ++ x ∷ b) n ≡ f ++ b
remove_one [] x b n e = let none : n ≡ 0 = omega arith in ap (λ k. remove (x ∷ b) k) none
remove_one (z ∷ f) x b zero e = absurd (omega arith)
remove_one (z ∷ f) x b (suc n) e = ap (λ zs. z ∷ zs) (remove_one f x b n (omega arith))

module _ {T : Type 0} where
  pub least_got : (es : List (KeyValue T)) (e : KeyValue T) → slice_get es 0 ≡ Some e → e.key ≡ least_key es
  least_got [] e is = cc
  least_got (f ∷ es) e is = let same : f ≡ e = cc in ap (λ (h : KeyValue T). h.key) (sym same)

  -- ---- a row for another

  pub replaced : (rows : List (List (KeyValue T))) (i : ℕ) (row new : List (KeyValue T)) → (at : IsRowAt rows i row) → side_by_side (set rows i new) ≡ side_by_side at.before ++ (new ++ side_by_side at.behind)
  replaced rows i row new at = ap (λ rs. side_by_side (set rs i new)) at.is ∙ ap side_by_side (set_at at.before row at.behind new i at.number_is) ∙ flat_map-append itself at.before (new ∷ at.behind)

  pub in_rows_set : (firsts : List ℕ) (rows : List (List (KeyValue T))) (i k : ℕ) (new : List (KeyValue T)) → AreInRows firsts rows → IsRow new → k ≡ least_key new → KeysRise (side_by_side (set rows i new)) → AreInRows (set firsts i k) (set rows i new)
  in_rows_set firsts rows i k new h whole least rising = record {
    rising = rising;
    firsts_are = ap (λ fs. set fs i k) h.firsts_are ∙ ap (λ l. set (map least_key rows) i l) least ∙ sym (map-set least_key rows i new);
    each = all_set IsRow rows i new h.each whole;
  }

  -- ---- one entry more in a row

  pub put_row : (rows : List (List (KeyValue T))) (place : Place) (row new : List (KeyValue T)) (entry : KeyValue T) → IsRowAt rows place.row row → place.at ≤ length row → new ≡ insert row place.at entry → side_by_side (set rows place.row new) ≡ insert (side_by_side rows) (index_of rows place) entry
  put_row rows place row new entry at le is =
      replaced rows place.row row new at
      ∙ ap (λ es. side_by_side at.before ++ (es ++ side_by_side at.behind)) is
      ∙ sym (insert_between (side_by_side at.before) row (side_by_side at.behind) place.at (index_of rows place) entry (row_number_at rows place row at) le)
      ∙ sym (ap (λ es. insert es (index_of rows place) entry) (sides_of_row rows place.row row at))

  -- what is known of a row that takes one more
  pub record IsRoomy (rows : List (List (KeyValue T))) (place : Place) (row : List (KeyValue T)) : Type 0 where
    pub at : IsRowAt rows place.row row
    pub bound : place.at ≤ length row
    pub free : length row < 64

  pub roomy : (rows : List (List (KeyValue T))) (place : Place) (row : List (KeyValue T)) → AllByRecursion IsRow rows → (p : HasPlace rows place) → row ≡ get_or rows place.row row → IsRoomy rows place row
  roomy rows place row each p is =
      let same = ap (λ (r : List (KeyValue T)). length r) (read_row rows place.row p.row row p.row_is is) in
      let at = read_at rows place.row p.row row p.row_is is in
      record { at = at; bound = omega (arith, p.bound, same); free = omega (arith, p.free, same) }

  pub row_more : (row new : List (KeyValue T)) (i : ℕ) (entry : KeyValue T) → i ≤ length row → length row < 64 → new ≡ insert row i entry → IsRow new
  row_more row new i entry le free is =
      let long = ap length is ∙ length-insert row i entry le in
      record { some = omega (arith, long); most = omega (arith, long) }

  -- ---- one less

  pub take_from_row : (rows : List (List (KeyValue T))) (place : Place) (row new : List (KeyValue T)) → IsRowAt rows place.row row → place.at < length row → new ≡ remove row place.at → side_by_side (set rows place.row new) ≡ remove (side_by_side rows) (index_of rows place)
  take_from_row rows place row new at lt is =
      replaced rows place.row row new at
      ∙ ap (λ es. side_by_side at.before ++ (es ++ side_by_side at.behind)) is
      ∙ sym (remove_between (side_by_side at.before) row (side_by_side at.behind) place.at (index_of rows place) (row_number_at rows place row at) lt)
      ∙ sym (ap (λ es. remove es (index_of rows place)) (sides_of_row rows place.row row at))

  pub record IsOneOf (rows : List (List (KeyValue T))) (place : Place) (row : List (KeyValue T)) : Type 0 where
    pub at : IsRowAt rows place.row row
    pub bound : place.at < length row
    pub others : 1 < length row
    pub whole : IsRow row

  pub one_of : (rows : List (List (KeyValue T))) (place : Place) (row : List (KeyValue T)) → AllByRecursion IsRow rows → (p : IsAmongOthers rows place) → row ≡ get_or rows place.row row → IsOneOf rows place row
  one_of rows place row each p is =
      let same = ap (λ (r : List (KeyValue T)). length r) (read_row rows place.row p.row row p.row_is is) in
      let at = read_at rows place.row p.row row p.row_is is in
      record { at = at; bound = omega (arith, p.bound, same); others = omega (arith, p.others, same); whole = row_is_row rows place.row row each at }

  pub row_less : (row new : List (KeyValue T)) (i : ℕ) → IsRow row → 1 < length row → i < length row → new ≡ remove row i → IsRow new
  row_less row new i whole others lt is =
      let long = ap length is in
      let less = length-remove row i lt in
      record { some = omega (arith, long, less); most = omega (arith, long, less, whole.most) }

  pub rises_without : (es : List (KeyValue T)) (n : ℕ) → KeysRise es → KeysRise (remove es n)
  rises_without es n r = apart-remove Below es n r

  -- ---- a row that goes

  pub without_row : (rows : List (List (KeyValue T))) (i : ℕ) (row : List (KeyValue T)) → (at : IsRowAt rows i row) → remove rows i ≡ at.before ++ at.behind
  without_row rows i row at = ap (λ rs. remove rs i) at.is ∙ remove_one at.before row at.behind i at.number_is

  remove_only : (es : List (KeyValue T)) → length es ≡ 1 → remove es 0 ≡ []
  remove_only [] is = absurd (omega arith)
  remove_only (e ∷ []) is = refl
  remove_only (e ∷ f ∷ es) is = absurd (omega arith)

  pub side_without : (rows : List (List (KeyValue T))) (i : ℕ) (row : List (KeyValue T)) → IsRowAt rows i row → length row ≡ 1 → side_by_side (remove rows i) ≡ remove (side_by_side rows) (index_of rows (record { row = i; at = 0 }))
  side_without rows i row at one =
      ap side_by_side (without_row rows i row at)
      ∙ flat_map-append itself at.before at.behind
      ∙ ap (λ es. side_by_side at.before ++ (es ++ side_by_side at.behind)) (sym (remove_only row one))
      ∙ sym (remove_between (side_by_side at.before) row (side_by_side at.behind) 0 (index_of rows (record { row = i; at = 0 })) (row_number_at rows (record { row = i; at = 0 }) row at) (omega arith))
      ∙ sym (ap (λ es. remove es (index_of rows (record { row = i; at = 0 }))) (sides_of_row rows i row at))

  pub in_rows_without : (firsts : List ℕ) (rows : List (List (KeyValue T))) (i : ℕ) (row : List (KeyValue T)) → AreInRows firsts rows → IsRowAt rows i row → length row ≡ 1 → AreInRows (remove firsts i) (remove rows i)
  in_rows_without firsts rows i row h at one =
      let gone = without_row rows i row at in
      let each = subst (λ (rs : List (List (KeyValue T))). AllByRecursion IsRow rs) at.is h.each in
      record {
        rising = subst (λ (es : List (KeyValue T)). KeysRise es) (sym (side_without rows i row at one)) (rises_without (side_by_side rows) (index_of rows (record { row = i; at = 0 })) h.rising);
        firsts_are =
            ap (λ fs. remove fs i) (h.firsts_are ∙ ap (λ rs. map least_key rs) at.is ∙ map-append least_key at.before (row ∷ at.behind))
            ∙ remove_one (map least_key at.before) (least_key row) (map least_key at.behind) i (length-map at.before least_key ∙ at.number_is)
            ∙ sym (map-append least_key at.before at.behind)
            ∙ sym (ap (λ rs. map least_key rs) gone);
        each = rw gone (AllByRecursion-append IsRow at.before at.behind (all_in_front IsRow at.before (row ∷ at.behind) each) (all_behind IsRow at.before (row ∷ at.behind) each).1);
      }

  -- ---- a row cut in two

  least_front : (es : List (KeyValue T)) (n : ℕ) → 0 < n → least_key (take n es) ≡ least_key es
  least_front [] zero some = refl
  least_front [] (suc n) some = refl
  least_front (e ∷ es) zero some = absurd (omega arith)
  least_front (e ∷ es) (suc n) some = refl

  pub side_cut : (old rows : List (List (KeyValue T))) (number cut : ℕ) → IsCutInTwo old rows number cut → side_by_side rows ≡ side_by_side old
  side_cut old rows number cut c =
      ap side_by_side c.new_is
      ∙ flat_map-append itself c.before (c.lower ∷ c.upper ∷ c.behind)
      ∙ ap (λ es. side_by_side c.before ++ es) (
      ap (λ es. es ++ (c.upper ++ side_by_side c.behind)) c.lower_is
      ∙ ap (λ es. take cut c.row ++ (es ++ side_by_side c.behind)) c.upper_is
      ∙ sym (append_assoc (take cut c.row) (drop cut c.row) (side_by_side c.behind))
      ∙ ap (λ es. es ++ side_by_side c.behind) (take-append-drop cut c.row))
      ∙ sym (flat_map-append itself c.before (c.row ∷ c.behind))
      ∙ sym (ap side_by_side c.old_is)

  pub in_rows_cut : (firsts : List ℕ) (old rows : List (List (KeyValue T))) (number cut n k : ℕ) → AreInRows firsts old → (c : IsCutInTwo old rows number cut) → 0 < cut → IsRow c.lower → IsRow c.upper → n ≡ number + 1 → k ≡ least_key c.upper → AreInRows (insert firsts n k) rows
  in_rows_cut firsts old rows number cut n k h c some lower upper next least =
      let each = subst (λ (rs : List (List (KeyValue T))). AllByRecursion IsRow rs) c.old_is h.each in
      let same : least_key c.row ≡ least_key c.lower = sym (ap least_key c.lower_is ∙ least_front c.row cut some) in
      record {
        rising = subst (λ (es : List (KeyValue T)). KeysRise es) (sym (side_cut old rows number cut c)) h.rising;
        firsts_are =
            ap (λ fs. insert fs n k) (h.firsts_are ∙ ap (λ rs. map least_key rs) c.old_is ∙ map-append least_key c.before (c.row ∷ c.behind))
            ∙ insert_next (map least_key c.before) (least_key c.row) (map least_key c.behind) n k (omega (arith, length-map c.before least_key, c.number_is))
            ∙ ap (λ l. map least_key c.before ++ l ∷ k ∷ map least_key c.behind) same
            ∙ ap (λ l. map least_key c.before ++ least_key c.lower ∷ l ∷ map least_key c.behind) least
            ∙ sym (map-append least_key c.before (c.lower ∷ c.upper ∷ c.behind))
            ∙ sym (ap (λ rs. map least_key rs) c.new_is);
        each = rw c.new_is (AllByRecursion-append IsRow c.before (c.lower ∷ c.upper ∷ c.behind) (all_in_front IsRow c.before (c.row ∷ c.behind) each) (lower, (upper, (all_behind IsRow c.before (c.row ∷ c.behind) each).1)));
      }

  pub old_at : (old rows : List (List (KeyValue T))) (number cut : ℕ) → (c : IsCutInTwo old rows number cut) → IsRowAt old number c.row
  old_at old rows number cut c = record { before = c.before; behind = c.behind; is = c.old_is; number_is = c.number_is }

  pub lower_at : (old rows : List (List (KeyValue T))) (number cut : ℕ) → (c : IsCutInTwo old rows number cut) → IsRowAt rows number c.lower
  lower_at old rows number cut c = record { before = c.before; behind = c.upper ∷ c.behind; is = c.new_is; number_is = c.number_is }

  pub upper_at : (old rows : List (List (KeyValue T))) (number cut : ℕ) → (c : IsCutInTwo old rows number cut) → IsRowAt rows (number + 1) c.upper
  upper_at old rows number cut c = record {
    before = c.before ++ c.lower ∷ [];
    behind = c.behind;
    is = c.new_is ∙ sym (append_assoc c.before (c.lower ∷ []) (c.upper ∷ c.behind));
    number_is = omega (arith, length-append c.before (c.lower ∷ []), c.number_is);
  }

  pub lower_long : (old rows : List (List (KeyValue T))) (number cut : ℕ) → (c : IsCutInTwo old rows number cut) → cut ≤ 64 → length c.lower ≡ cut
  lower_long old rows number cut c le = ap length c.lower_is ∙ length-take-le cut c.row (omega (arith, c.full))

  pub upper_long : (old rows : List (List (KeyValue T))) (number cut : ℕ) → (c : IsCutInTwo old rows number cut) → length c.upper ≡ 64 - cut
  upper_long old rows number cut c = omega (arith, ap length c.upper_is, length-drop cut c.row, c.full)

  pub cut_same : (old rows : List (List (KeyValue T))) (place : Place) (cut : ℕ) → (c : IsCutInTwo old rows place.row cut) → index_of rows place ≡ index_of old place
  unfolding lower_at old_at
  cut_same old rows place cut c = row_number_at rows place c.lower (lower_at old rows place.row cut c) ∙ sym (row_number_at old place c.row (old_at old rows place.row cut c))

  pub cut_next : (old rows : List (List (KeyValue T))) (place : Place) (cut : ℕ) → (c : IsCutInTwo old rows place.row cut) → cut ≤ place.at → cut ≤ 64 → index_of rows (record { row = place.row + 1; at = place.at - cut }) ≡ index_of old place
  unfolding upper_at old_at
  cut_next old rows place cut c le few =
      let new = row_number_at rows (record { row = place.row + 1; at = place.at - cut }) c.upper (upper_at old rows place.row cut c) in
      let before = row_number_at old place c.row (old_at old rows place.row cut c) in
      let flat = ap length (flat_map-append itself c.before (c.lower ∷ [])) in
      let sum = length-append (side_by_side c.before) (c.lower ++ []) in
      let more = length-append c.lower [] in
      omega (arith, new, before, flat, sum, more, lower_long old rows place.row cut c few)
