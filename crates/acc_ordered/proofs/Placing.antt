-- A search among the least keys and then in one row finds the place of a key among all entries.
use Rattle.std.proofs.Common.{ℕ, zero, suc, ◌≡◌, ◌+◌, ◌<◌, ◌≤◌, refl, sym, ap, subst, true, false, List, [], ◌∷◌, ◌++◌, length, take, drop, length-append, ◌-◌, arith}
use Rattle.std.specs.Prelude.{map, nat_lt}
use Rattle.std.specs.List.{AllByRecursion}
use Rattle.std.proofs.lemmas.Bool.Decides.{nat_tests}
use Rattle.std.proofs.lemmas.List.{length-map, take-append-le, drop-append-le}
use Rattle.acc_base.specs.Accounts.{EachPair}
use Rattle.acc_base.specs.Splits.{IsSplitBy}
use Rattle.acc_base.proofs.Elements.{AllByRecursion-weaker, AllByRecursion-append, all_behind, all_in_front}
use Rattle.acc_ordered.specs.Listing.{KeyValue, KeysRise}
use Rattle.acc_ordered.specs.Laid.{side_by_side, least_key, IsRow, AreInRows}
use Rattle.acc_ordered.specs.Spots.{index_of, IsRowAt, IsInRow, IsPlaceOf}
use Rattle.acc_ordered.proofs.Laying.{row_number_at, sides_of_row}
use Rattle.acc_ordered.proofs.Searched.{IsSplitAt}

-- ---- pairs in a list of two parts

pub pairs_front : {X : Type 0} (R : X → X → Type 0) (xs ys : List X) → EachPair R (xs ++ ys) → EachPair R xs
pairs_front R [] ys h = tt
pairs_front R (x ∷ xs) ys h = (all_in_front (R x) xs ys h.0, pairs_front R xs ys h.1)

pub pairs_behind : {X : Type 0} (R : X → X → Type 0) (xs ys : List X) → EachPair R (xs ++ ys) → EachPair R ys
pairs_behind R [] ys h = h
pairs_behind R (x ∷ xs) ys h = pairs_behind R xs ys h.1

pub pairs_across : {X : Type 0} (R : X → X → Type 0) (xs ys : List X) → EachPair R (xs ++ ys) → AllByRecursion (λ x. AllByRecursion (R x) ys) xs
pairs_across R [] ys h = tt
pairs_across R (x ∷ xs) ys h = (all_behind (R x) xs ys h.0, pairs_across R xs ys h.1)

module _ {T : Type 0} where
  abbrev pub Below : KeyValue T → KeyValue T → Type 0
  Below e f = e.key < f.key

  above_least : (es : List (KeyValue T)) → KeysRise es → AllByRecursion (λ e. least_key es ≤ e.key) es
  above_least [] r = tt
  above_least (e ∷ es) r = (omega arith, AllByRecursion-weaker (λ f. e.key < f.key) (λ f. e.key ≤ f.key) es (λ f less. omega arith) r.0)

  least_across : (es more : List (KeyValue T)) → 0 < length es → KeysRise (es ++ more) → AllByRecursion (λ e. least_key es < e.key) more
  least_across [] more some r = absurd (omega arith)
  least_across (e ∷ es) more some r = all_behind (λ f. e.key < f.key) es more r.0

  least_above : (k : ℕ) (es more : List (KeyValue T)) → 0 < length es → AllByRecursion (λ e. k < e.key) (es ++ more) → k < least_key es
  least_above k [] more some h = absurd (omega arith)
  least_above k (e ∷ es) more some h = h.0

  leasts_above : (k : ℕ) (rows : List (List (KeyValue T))) → AllByRecursion (λ e. k < e.key) (side_by_side rows) → AllByRecursion IsRow rows → AllByRecursion (λ y. k < y) (map least_key rows)
  leasts_above k [] h each = tt
  leasts_above k (row ∷ rows) h each = (least_above k row (side_by_side rows) each.0.some h, leasts_above k rows (all_behind (λ e. k < e.key) row (side_by_side rows) h) each.1)

  -- the least keys rise
  pub firsts_rise : (rows : List (List (KeyValue T))) → KeysRise (side_by_side rows) → AllByRecursion IsRow rows → EachPair (λ (x : ℕ) (y : ℕ). x < y) (map least_key rows)
  firsts_rise [] r each = tt
  firsts_rise (row ∷ rows) r each = (leasts_above (least_key row) rows (least_across row (side_by_side rows) each.0.some r) each.1, firsts_rise rows (pairs_behind Below row (side_by_side rows) r) each.1)

  -- where the least keys are not below a key, no key is
  pub none_in_front : (key : ℕ) (rows : List (List (KeyValue T))) → KeysRise (side_by_side rows) → AllByRecursion (λ k. nat_lt k key ≡ false) (map least_key rows) → AllByRecursion (λ e. nat_lt e.key key ≡ false) (side_by_side rows)
  none_in_front key [] r h = tt
  none_in_front key (row ∷ rows) r h =
      let f = h.0 in
      AllByRecursion-append (λ e. nat_lt e.key key ≡ false) row (side_by_side rows) (AllByRecursion-weaker (λ e. least_key row ≤ e.key) (λ e. nat_lt e.key key ≡ false) row (λ e le. grind (arith, nat_tests)) (above_least row (pairs_front Below row (side_by_side rows) r))) (none_in_front key rows (pairs_behind Below row (side_by_side rows) r) h.1)

  split_behind : (key : ℕ) (es more : List (KeyValue T)) (n m : ℕ) → n ≡ length es + m → AllByRecursion (λ e. nat_lt e.key key ≡ true) es → IsSplitAt key more m → IsSplitAt key (es ++ more) n
  split_behind key [] more n m e h s = let same : n ≡ m = omega arith in rw same s
  split_behind key (f ∷ es) more zero m e h s = absurd (omega arith)
  split_behind key (f ∷ es) more (suc n) m e h s = let r = split_behind key es more n m (omega arith) h.1 s in record { bound = omega (arith, r.bound); passed = (h.0, r.passed); failed = r.failed }

  -- the entries before a row whose least key is below a key are below it too
  all_below : (key : ℕ) (es next more : List (KeyValue T)) → 0 < length next → KeysRise (es ++ (next ++ more)) → nat_lt (least_key next) key ≡ true → AllByRecursion (λ e. nat_lt e.key key ≡ true) es
  all_below key es [] more some r t = absurd (omega arith)
  all_below key es (f ∷ next) more some r t = AllByRecursion-weaker (λ e. AllByRecursion (Below e) (f ∷ (next ++ more))) (λ e. nat_lt e.key key ≡ true) es (λ e h. let less : e.key < f.key = h.0 in grind (arith, nat_tests)) (pairs_across Below es (f ∷ (next ++ more)) r)

  abbrev IsSplitFirst : ℕ → List (List (KeyValue T)) → ℕ → Type 0
  IsSplitFirst key rows n = IsSplitBy (λ k. nat_lt k key) (map least_key rows) n

  next_firsts : (key : ℕ) (row : List (KeyValue T)) (rows : List (List (KeyValue T))) (n : ℕ) → IsSplitFirst key (row ∷ rows) (suc n) → IsSplitFirst key rows n
  next_firsts key row rows n s = record { bound = omega (arith, s.bound); passed = s.passed.1; failed = s.failed }

  place_in : (key : ℕ) (before : List (List (KeyValue T))) (row : List (KeyValue T)) (behind : List (List (KeyValue T))) (n j : ℕ) → n ≡ length (side_by_side before) + j → KeysRise (side_by_side (before ++ row ∷ behind)) → AllByRecursion IsRow (before ++ row ∷ behind) → IsSplitFirst key (before ++ row ∷ behind) (suc (length before)) → IsSplitAt key row j → IsSplitAt key (side_by_side (before ++ row ∷ behind)) n
  place_in key [] row behind n j e r each s t =
      let same : n ≡ j = omega arith in
      rw same (record {
        bound = omega (arith, t.bound, length-append row (side_by_side behind));
        passed = rw (take-append-le j row (side_by_side behind) t.bound) t.passed;
        failed = rw (drop-append-le j row (side_by_side behind) t.bound) (AllByRecursion-append (λ e. nat_lt e.key key ≡ false) (drop j row) (side_by_side behind) t.failed (none_in_front key behind (pairs_behind Below row (side_by_side behind) r) s.failed));
      })
  place_in key (b ∷ []) row behind n j e r each s t =
      split_behind key b (side_by_side (row ∷ behind)) n j (omega (arith, length-append b [])) (all_below key b row (side_by_side behind) each.1.0.some r s.passed.1.0) (place_in key [] row behind j j (omega arith) (pairs_behind Below b (side_by_side (row ∷ behind)) r) each.1 (next_firsts key b (row ∷ behind) 1 s) t)
  place_in key (b ∷ c ∷ bs) row behind n j e r each s t =
      split_behind key b (side_by_side (c ∷ (bs ++ row ∷ behind))) n (length (side_by_side (c ∷ bs)) + j) (omega (arith, length-append b (side_by_side (c ∷ bs)))) (all_below key b c (side_by_side (bs ++ row ∷ behind)) each.1.0.some r s.passed.1.0) (place_in key (c ∷ bs) row behind (length (side_by_side (c ∷ bs)) + j) j refl (pairs_behind Below b (side_by_side (c ∷ (bs ++ row ∷ behind))) r) each.1 (next_firsts key b (c ∷ (bs ++ row ∷ behind)) (suc (length (c ∷ bs))) s) t)

  last_passed : (key : ℕ) (before : List (List (KeyValue T))) (row : List (KeyValue T)) (behind : List (List (KeyValue T))) → AllByRecursion (λ k. nat_lt k key ≡ true) (take (suc (length before)) (map least_key (before ++ row ∷ behind))) → nat_lt (least_key row) key ≡ true
  last_passed key [] row behind h = h.0
  last_passed key (b ∷ bs) row behind h = last_passed key bs row behind h.1

  not_least : (key : ℕ) (es : List (KeyValue T)) → 0 < length es → nat_lt (least_key es) key ≡ true → IsSplitAt key es 0 → ⊥
  not_least key [] some t s = absurd (omega arith)
  not_least key (e ∷ es) some t s = let f = s.failed.0 in absurd (grind (arith, nat_tests))

  all_middle : (P : List (KeyValue T) → Type 0) (before : List (List (KeyValue T))) (row : List (KeyValue T)) (behind : List (List (KeyValue T))) → AllByRecursion P (before ++ row ∷ behind) → P row
  all_middle P before row behind h = (all_behind P before (row ∷ behind) h).0

  pub row_is_row : (rows : List (List (KeyValue T))) (i : ℕ) (row : List (KeyValue T)) → AllByRecursion IsRow rows → IsRowAt rows i row → IsRow row
  row_is_row rows i row each at = all_middle IsRow at.before row at.behind (rw at.is at each)

  pub row_rises : (rows : List (List (KeyValue T))) (i : ℕ) (row : List (KeyValue T)) → KeysRise (side_by_side rows) → IsRowAt rows i row → KeysRise row
  row_rises rows i row r at = pairs_front Below row (side_by_side at.behind) (pairs_behind Below (side_by_side at.before) (row ++ side_by_side at.behind) (rw (sides_of_row rows i row at) at r))

  -- ---- the place of a key

  pub place_found : (key : ℕ) (firsts : List ℕ) (rows : List (List (KeyValue T))) (i j : ℕ) (row : List (KeyValue T)) → AreInRows firsts rows → IsRowAt rows i row → IsSplitBy (λ k. nat_lt k key) firsts (suc i) → IsSplitAt key row j → IsPlaceOf key rows (record { row = i; at = j })
  place_found key firsts rows i j row h at s t =
      let some = (row_is_row rows i row h.each at).some in
      let r = rw at.is at h.rising in
      let each = rw at.is at h.each in
      let s2 : IsSplitFirst key rows (suc i) = rw h.firsts_are at s in
      let s3 : IsSplitFirst key rows (suc (length at.before)) = rw at.number_is s2 in
      let s4 : IsSplitFirst key (at.before ++ row ∷ at.behind) (suc (length at.before)) = subst (λ (rs : List (List (KeyValue T))). IsSplitFirst key rs (suc (length at.before))) at.is s3 in
      record {
        split = subst (λ (rs : List (List (KeyValue T))). IsSplitAt key (side_by_side rs) (index_of rows (record { row = i; at = j }))) (sym at.is) (place_in key at.before row at.behind (index_of rows (record { row = i; at = j })) j (row_number_at rows (record { row = i; at = j }) row at) r each s4 t);
        within = λ any. record { row = row; row_is = at; bound = t.bound };
        first = λ zero_is. absurd (not_least key row some (last_passed key at.before row at.behind s4.passed) (rw zero_is at t));
      }

  pub place_first : (key : ℕ) (firsts : List ℕ) (rows : List (List (KeyValue T))) → AreInRows firsts rows → IsSplitBy (λ k. nat_lt k key) firsts 0 → IsPlaceOf key rows (record { row = 0; at = 0 })
  place_first key firsts rows h s = record {
    split = record { bound = omega arith; passed = tt; failed = none_in_front key rows h.rising (rw h.firsts_are at s.failed) };
    within = in_first rows;
    first = λ is. refl;
  }
    where
      in_first : (rs : List (List (KeyValue T))) → 0 < length rs → IsInRow rs (record { row = 0; at = 0 })
      in_first [] some = absurd (omega arith)
      in_first (row ∷ rs) some = record { row = row; row_is = record { before = []; behind = rs; is = refl; number_is = refl }; bound = omega arith }

  -- ---- how many there are

  pub firsts_bound : (firsts : List ℕ) (rows : List (List (KeyValue T))) (n : ℕ) → AreInRows firsts rows → n ≤ length firsts → (n ≡ 0 → ⊥) → n - 1 < length rows
  firsts_bound firsts rows zero h le other = absurd (other refl)
  firsts_bound firsts rows (suc n) h le other = omega (arith, le, ap length h.firsts_are, length-map rows least_key)
