-- How values are kept: places that are gone stand among them and say nothing.
use Rattle.std.proofs.Math.Seq.{take-append_seam}
use Rattle.std.proofs.Common.{ℕ, zero, suc, ◌≡◌, ◌+◌, ◌-◌, ◌<◌, ◌≤◌, refl, sym, ap, ◌∙◌, Bool, true, false, cond, List, [], ◌∷◌, ◌++◌, length, get_or, set, take, drop, insert, subst, Option, Some, None, IsSome, Bor, arith, rules, inl, inr}
use Rattle.std.specs.Prelude.{◌==◌, nat_lt, filter, not, is_some, slice_get, option_map, option_to_list, MatchOption}
use Rattle.std.specs.Option.{option_copied}
use Rattle.std.specs.List.{AllByRecursion}
use Rattle.std.proofs.lemmas.Bool.{cases_lt, cases_eq}
use Rattle.std.proofs.lemmas.Bool.Decides.{nat_tests}
use Rattle.std.proofs.lemmas.List.{append-nil, get_or_default, take_more}
use Rattle.std.proofs.lemmas.Option.{same_Some}
use Rattle.acc_base.proofs.Keyed as keyed
use Rattle.acc_base.proofs.Keyed.{all_from}
use Rattle.acc_base.proofs.Elements.{AllByRecursion-weaker, AllByRecursion-passed, EachPair-filter, EachPair-push, find-none}
use Rattle.acc_base.proofs.Lookups.{at}
use Rattle.acc_base.proofs.Options.{some_mapped, none_mapped}
use Rattle.acc_base.proofs.Splitting.{all_at}
use Rattle.acc_index.specs.declared.index.IndexEntry.{IndexEntry}
use Rattle.acc_index.specs.Indexed.{IsIndexRising, value_at, last_number, with_value, without_number, with_other, live_before, live_entries, AreEntriesRising, ends_gone, blank_entry, IsNumberAt}

module _ {T : Type 0} where
  -- the number of a place, and of a value
  abbrev pub place_key : IndexEntry T → ℕ
  place_key e = e.number

  abbrev pub value_key : ℕ × T → ℕ
  value_key e = e.0

  -- a place is not gone
  abbrev pub is_here : IndexEntry T → Bool
  is_here e = is_some e.value

  pub entries-append : (xs ys : List (IndexEntry T)) → live_entries (xs ++ ys) ≡ live_entries xs ++ live_entries ys
  entries-append [] ys = refl
  entries-append (x ∷ xs) ys = ap (live_before x.number x.value) (entries-append xs ys) ∙ go x.value
    where
      go : (o : Option T) → live_before x.number o (live_entries xs ++ live_entries ys) ≡ live_before x.number o (live_entries xs) ++ live_entries ys
      go None = refl
      go (Some v) = refl

  -- what the numbers of all places have, those of the values have
  pub numbers_here : (P : ℕ → Type 0) (xs : List (IndexEntry T)) → AllByRecursion (λ (e : IndexEntry T). P e.number) xs → AllByRecursion (λ (d : ℕ × T). P d.0) (live_entries xs)
  numbers_here P [] h = tt
  numbers_here P (x ∷ xs) h = go x.value (numbers_here P xs h.1)
    where
      go : (o : Option T) → AllByRecursion (λ (d : ℕ × T). P d.0) (live_entries xs) → AllByRecursion (λ (d : ℕ × T). P d.0) (live_before x.number o (live_entries xs))
      go None rest = rest
      go (Some v) rest = (h.0, rest)

  -- their numbers rise
  pub entries_rise : (xs : List (IndexEntry T)) → AreEntriesRising xs → IsIndexRising (live_entries xs)
  entries_rise [] h = tt
  entries_rise (x ∷ xs) h = go x.value (entries_rise xs h.1)
    where
      go : (o : Option T) → IsIndexRising (live_entries xs) → IsIndexRising (live_before x.number o (live_entries xs))
      go None rest = rest
      go (Some v) rest = (numbers_here (λ m. x.number < m) xs h.0, rest)

  -- they are no more than the places
  pub entries_few : (xs : List (IndexEntry T)) → length (live_entries xs) ≤ length xs
  entries_few [] = omega arith
  entries_few (x ∷ xs) = go x.value (entries_few xs)
    where
      go : (o : Option T) → length (live_entries xs) ≤ length xs → length (live_before x.number o (live_entries xs)) ≤ suc (length xs)
      go None rest = omega arith
      go (Some v) rest = omega arith

  -- ---- a search by number

  -- of two entries the later one has the greater number
  rise_at : (xs : List (IndexEntry T)) (i j : ℕ) → AreEntriesRising xs → i < j → j < length xs → (get_or xs i blank_entry).number < (get_or xs j blank_entry).number
  rise_at [] i j r lt within = absurd (omega arith)
  rise_at (x ∷ xs) i zero r lt within = absurd (omega arith)
  rise_at (x ∷ xs) zero (suc j) r lt within = all_at (λ (e : IndexEntry T). x.number < e.number) xs j blank_entry (omega arith) r.0
  rise_at (x ∷ xs) (suc i) (suc j) r lt within = rise_at xs i j r.1 (omega arith) (omega arith)

  -- of two entries, which may be one, the later one has no lesser number
  rise_to : (xs : List (IndexEntry T)) (i j : ℕ) → AreEntriesRising xs → i ≤ j → j < length xs → (get_or xs i blank_entry).number ≤ (get_or xs j blank_entry).number
  rise_to xs i j r le within = elim (cases_eq i j) [
    | inl same ↦ omega (arith, ap (λ (k : ℕ). (get_or xs k blank_entry).number) same)
    | inr differs ↦ omega (arith, rise_at xs i j r (omega arith) within)
  ]

  -- the numbers rise by one at least from place to place
  rise_far : (xs : List (IndexEntry T)) (i j : ℕ) → AreEntriesRising xs → i ≤ j → j < length xs → (get_or xs i blank_entry).number + (j - i) ≤ (get_or xs j blank_entry).number
  rise_far xs i zero r le within = let same : i ≡ 0 = omega arith in rw same (omega arith)
  rise_far xs i (suc k) r le within = elim (cases_lt k i) [
    | inl last ↦ let same : i ≡ suc k = omega arith in rw same (omega arith)
    | inr before ↦
        let far : (get_or xs i blank_entry).number + (k - i) ≤ (get_or xs k blank_entry).number = rise_far xs i k r before (omega arith) in
        let more : (get_or xs k blank_entry).number < (get_or xs (suc k) blank_entry).number = rise_at xs k (suc k) r (omega arith) within in
        omega arith
  ]

  first_at : (xs : List (IndexEntry T)) (x : IndexEntry T) → slice_get xs 0 ≡ Some x → (get_or xs 0 blank_entry ≡ x) × (0 < length xs)
  first_at [] x e = cc
  first_at (y ∷ ys) x e = (same_Some y x e, omega arith)

  last_at : (xs : List (IndexEntry T)) (x : IndexEntry T) → slice_get xs (length xs - 1) ≡ Some x → (get_or xs (length xs - 1) blank_entry ≡ x) × (0 < length xs)
  last_at [] x e = cc
  last_at (y ∷ []) x e = (same_Some y x e, omega arith)
  last_at (y ∷ z ∷ ys) x e =
      let place : length (y ∷ z ∷ ys) - 1 ≡ suc (length (z ∷ ys) - 1) = omega arith in
      let rest = last_at (z ∷ ys) x (ap (slice_get (y ∷ z ∷ ys)) (sym place) ∙ e) in
      (ap (λ (i : ℕ). get_or (y ∷ z ∷ ys) i blank_entry) place ∙ rest.0, omega arith)

  -- no number below the first stands in the list, and none above the last
  pub none_below : (xs : List (IndexEntry T)) (x : IndexEntry T) (n : ℕ) → AreEntriesRising xs → slice_get xs 0 ≡ Some x → n < x.number → AllByRecursion (λ (e : IndexEntry T). e.number ≡ n → ⊥) xs
  none_below xs x n rise first below = all_from (λ (e : IndexEntry T). e.number ≡ n → ⊥) xs blank_entry (λ k within same.
      let up : (get_or xs 0 blank_entry).number ≤ (get_or xs k blank_entry).number = rise_to xs 0 k rise (omega arith) within in
      let is : (get_or xs 0 blank_entry).number ≡ x.number = ap (λ (e : IndexEntry T). e.number) (first_at xs x first).0 in
      omega arith)

  pub none_above : (xs : List (IndexEntry T)) (x : IndexEntry T) (n : ℕ) → AreEntriesRising xs → slice_get xs (length xs - 1) ≡ Some x → x.number < n → AllByRecursion (λ (e : IndexEntry T). e.number ≡ n → ⊥) xs
  none_above xs x n rise last above = all_from (λ (e : IndexEntry T). e.number ≡ n → ⊥) xs blank_entry (λ k within same.
      let up : (get_or xs k blank_entry).number ≤ (get_or xs (length xs - 1) blank_entry).number = rise_to xs k (length xs - 1) rise (omega arith) (omega arith) in
      let is : (get_or xs (length xs - 1) blank_entry).number ≡ x.number = ap (λ (e : IndexEntry T). e.number) (last_at xs x last).0 in
      omega arith)

  -- the window of a number between the first and the last is not empty, and holds its place
  pub window_some : (xs : List (IndexEntry T)) (x y : IndexEntry T) (n : ℕ) → AreEntriesRising xs → slice_get xs 0 ≡ Some x → slice_get xs (length xs - 1) ≡ Some y → x.number ≤ n → n ≤ y.number → ((length xs - 1) - (y.number - n) ≤ n - x.number) × (0 < length xs)
  window_some xs x y n rise first last low high =
      let some : 0 < length xs = (first_at xs x first).1 in
      let far : (get_or xs 0 blank_entry).number + (length xs - 1 - 0) ≤ (get_or xs (length xs - 1) blank_entry).number = rise_far xs 0 (length xs - 1) rise (omega arith) (omega arith) in
      let is_x : (get_or xs 0 blank_entry).number ≡ x.number = ap (λ (e : IndexEntry T). e.number) (first_at xs x first).0 in
      let is_y : (get_or xs (length xs - 1) blank_entry).number ≡ y.number = ap (λ (e : IndexEntry T). e.number) (last_at xs y last).0 in
      (omega arith, some)

  pub window_holds : (xs : List (IndexEntry T)) (x y : IndexEntry T) (n at : ℕ) → AreEntriesRising xs → slice_get xs 0 ≡ Some x → slice_get xs (length xs - 1) ≡ Some y → IsNumberAt xs n at → ((length xs - 1) - (y.number - n) ≤ at) × (at ≤ n - x.number)
  window_holds xs x y n at rise first last found =
      let within : at < length xs = found.in_bounds in
      let is : (get_or xs at blank_entry).number ≡ n = found.is in
      let before : (get_or xs 0 blank_entry).number + (at - 0) ≤ (get_or xs at blank_entry).number = rise_far xs 0 at rise (omega arith) within in
      let behind : (get_or xs at blank_entry).number + (length xs - 1 - at) ≤ (get_or xs (length xs - 1) blank_entry).number = rise_far xs at (length xs - 1) rise (omega arith) (omega arith) in
      let is_x : (get_or xs 0 blank_entry).number ≡ x.number = ap (λ (e : IndexEntry T). e.number) (first_at xs x first).0 in
      let is_y : (get_or xs (length xs - 1) blank_entry).number ≡ y.number = ap (λ (e : IndexEntry T). e.number) (last_at xs y last).0 in
      (omega arith, omega arith)

  -- ---- a window is halved

  -- the number at a place, whatever stands outside
  pub read_number : (xs : List (IndexEntry T)) (i : ℕ) (d : IndexEntry T) → i < length xs → (get_or xs i blank_entry).number ≡ (get_or xs i d).number
  read_number xs i d lt = ap (λ (e : IndexEntry T). e.number) (get_or_default xs i blank_entry d lt)

  -- and its value
  pub read_value : (xs : List (IndexEntry T)) (i : ℕ) (d : IndexEntry T) → i < length xs → (get_or xs i blank_entry).value ≡ (get_or xs i d).value
  read_value xs i d lt = ap (λ (e : IndexEntry T). e.value) (get_or_default xs i blank_entry d lt)

  -- each place of the number is one of so many from a place on
  abbrev pub IsHeld : List (IndexEntry T) → ℕ → ℕ → ℕ → Type 0
  IsHeld xs n from count = (at : ℕ) → IsNumberAt xs n at → (from ≤ at) × (at < from + count)

  pub held_up : (xs : List (IndexEntry T)) (n from count half : ℕ) (d : IndexEntry T) → AreEntriesRising xs → IsHeld xs n from count → from + count ≤ length xs → half < count → (get_or xs (from + half) d).number ≤ n → IsHeld xs n (from + half) (count - half)
  held_up xs n from count half d rise held within less up at found = elim (cases_lt at (from + half)) [
    | inl before ↦
        let order : (get_or xs at blank_entry).number < (get_or xs (from + half) blank_entry).number = rise_at xs at (from + half) rise before (omega arith) in
        absurd (omega (arith, found.is, up, read_number xs (from + half) d (omega arith)))
    | inr after ↦ let h = held at found in (after, omega (arith, h.1))
  ]

  pub held_down : (xs : List (IndexEntry T)) (n from count half : ℕ) (d : IndexEntry T) → AreEntriesRising xs → IsHeld xs n from count → from + count ≤ length xs → half + half ≤ count → n < (get_or xs (from + half) d).number → 0 < count → IsHeld xs n from (count - half)
  held_down xs n from count half d rise held within less down some at found = elim (cases_lt at (from + half)) [
    | inl before ↦ let h = held at found in (h.0, omega (arith, before))
    | inr after ↦
        let order : (get_or xs (from + half) blank_entry).number ≤ (get_or xs at blank_entry).number = rise_to xs (from + half) at rise after found.in_bounds in
        absurd (omega (arith, found.is, down, read_number xs (from + half) d (omega arith)))
  ]

  -- one place is left
  pub held_one : (xs : List (IndexEntry T)) (n from : ℕ) (d : IndexEntry T) → IsHeld xs n from 1 → ((get_or xs from d).number ≡ n → ⊥) → AllByRecursion (λ (e : IndexEntry T). e.number ≡ n → ⊥) xs
  held_one xs n from d held differs = all_from (λ (e : IndexEntry T). e.number ≡ n → ⊥) xs blank_entry (λ k within same.
      let h = held k (record { in_bounds = within; is = same }) in
      let here : k ≡ from = omega (arith, h) in
      differs (sym (read_number xs from d (subst (λ (i : ℕ). i < length xs) here within)) ∙ ap (λ (i : ℕ). (get_or xs i blank_entry).number) (sym here) ∙ same))

  -- ---- the value of a number

  -- there is none where no place has the number
  pub value_none : (xs : List (IndexEntry T)) (n : ℕ) → AllByRecursion (λ (e : IndexEntry T). e.number ≡ n → ⊥) xs → value_at n (live_entries xs) ≡ None
  value_none xs n h = ap (option_map (λ (e : ℕ × T). e.1)) (find-none (λ (e : ℕ × T). e.0 == n) (live_entries xs) (AllByRecursion-weaker (λ (e : ℕ × T). e.0 ≡ n → ⊥) (λ (e : ℕ × T). (e.0 == n) ≡ false) (live_entries xs) (λ e other. grind (arith, nat_tests, other)) (numbers_here (λ m. m ≡ n → ⊥) xs h)))

  -- nor behind a place of a number
  none_later : (x : IndexEntry T) (xs : List (IndexEntry T)) (n : ℕ) → x.number ≡ n → AreEntriesRising (x ∷ xs) → AllByRecursion (λ (e : IndexEntry T). e.number ≡ n → ⊥) xs
  none_later x xs n is rise = AllByRecursion-weaker (λ (e : IndexEntry T). x.number < e.number) (λ (e : IndexEntry T). e.number ≡ n → ⊥) xs (λ e less same. omega arith) rise.0

  -- and else it is that of the place
  pub value_here : (xs : List (IndexEntry T)) (i n : ℕ) → AreEntriesRising xs → i < length xs → (get_or xs i blank_entry).number ≡ n → value_at n (live_entries xs) ≡ (get_or xs i blank_entry).value
  value_here [] i n rise lt is = absurd (omega arith)
  value_here (x ∷ xs) zero n rise lt is = go x.value
    where
      same : (x.number == n) ≡ true
      same = grind (arith, nat_tests)

      go : (o : Option T) → value_at n (live_before x.number o (live_entries xs)) ≡ o
      go None = value_none xs n (none_later x xs n is rise)
      go (Some v) = rw same refl
  value_here (x ∷ xs) (suc i) n rise lt is = go x.value (value_here xs i n rise.1 (omega arith) is)
    where
      other : (x.number == n) ≡ false
      other =
          let less : x.number < (get_or xs i blank_entry).number = all_at (λ (e : IndexEntry T). x.number < e.number) xs i blank_entry (omega arith) rise.0 in
          grind (arith, nat_tests)

      go : (o : Option T) → value_at n (live_entries xs) ≡ (get_or xs i blank_entry).value → value_at n (live_before x.number o (live_entries xs)) ≡ (get_or xs i blank_entry).value
      go None rest = rest
      go (Some v) rest = rw other rest

  -- ---- a value less

  pub rising-set : (xs : List (IndexEntry T)) (i : ℕ) (new : IndexEntry T) → AreEntriesRising xs → i < length xs → new.number ≡ (get_or xs i blank_entry).number → AreEntriesRising (set xs i new)
  rising-set [] i new rise lt same = absurd (omega arith)
  rising-set (x ∷ xs) zero new rise lt same = (AllByRecursion-weaker (λ (e : IndexEntry T). x.number < e.number) (λ (e : IndexEntry T). new.number < e.number) xs (λ e less. omega arith) rise.0, rise.1)
  rising-set (x ∷ xs) (suc i) new rise lt same = (all-set xs i (omega arith) rise.0 same, rising-set xs i new rise.1 (omega arith) same)
    where
      all-set : (ys : List (IndexEntry T)) (j : ℕ) → j < length ys → AllByRecursion (λ (e : IndexEntry T). x.number < e.number) ys → new.number ≡ (get_or ys j blank_entry).number → AllByRecursion (λ (e : IndexEntry T). x.number < e.number) (set ys j new)
      all-set [] j within h same = absurd (omega arith)
      all-set (y ∷ ys) zero within h same = let less = h.0 in (omega arith, h.1)
      all-set (y ∷ ys) (suc j) within h same = (h.0, all-set ys j (omega arith) h.1 same)

  without_none : (n : ℕ) (es : List (ℕ × T)) → AllByRecursion (λ (e : ℕ × T). e.0 ≡ n → ⊥) es → without_number n es ≡ es
  without_none n es other = keyed.filter_all value_key n es other

  -- a place whose value is taken out
  pub entries-gone : (xs : List (IndexEntry T)) (i n : ℕ) (new : IndexEntry T) → AreEntriesRising xs → i < length xs → (get_or xs i blank_entry).number ≡ n → new.value ≡ None → live_entries (set xs i new) ≡ without_number n (live_entries xs)
  entries-gone [] i n new rise lt is gone = absurd (omega arith)
  entries-gone (x ∷ xs) zero n new rise lt is gone = rw gone (go x.value)
    where
      same : (x.number == n) ≡ true
      same = grind (arith, nat_tests)

      rest : live_entries xs ≡ without_number n (live_entries xs)
      rest = sym (without_none n (live_entries xs) (numbers_here (λ m. m ≡ n → ⊥) xs (none_later x xs n is rise)))

      go : (o : Option T) → live_entries xs ≡ without_number n (live_before x.number o (live_entries xs))
      go None = rest
      go (Some v) = rw same rest
  entries-gone (x ∷ xs) (suc i) n new rise lt is gone = go x.value (entries-gone xs i n new rise.1 (omega arith) is gone)
    where
      other : (x.number == n) ≡ false
      other =
          let less : x.number < (get_or xs i blank_entry).number = all_at (λ (e : IndexEntry T). x.number < e.number) xs i blank_entry (omega arith) rise.0 in
          grind (arith, nat_tests)

      go : (o : Option T) → live_entries (set xs i new) ≡ without_number n (live_entries xs) → live_before x.number o (live_entries (set xs i new)) ≡ without_number n (live_before x.number o (live_entries xs))
      go None rest = rest
      go (Some v) rest = rw other (ap (λ es. (x.number, v) ∷ es) rest)

  -- there is one value less
  pub one_less : (n : ℕ) (es : List (ℕ × T)) → IsIndexRising es → IsSome (value_at n es) → length (without_number n es) + 1 ≡ length es
  one_less n [] rise there = absurd (search (rules, there))
  one_less n (e ∷ es) rise there = go (one_less n es rise.1) (e.0 == n) refl there
    where
      go : (IsSome (value_at n es) → length (without_number n es) + 1 ≡ length es) → (b : Bool) → (e.0 == n) ≡ b → IsSome (option_map (λ (d : ℕ × T). d.1) (cond b (Some e) (at value_key n es))) → length (cond (not b) (e ∷ without_number n es) (without_number n es)) + 1 ≡ length (e ∷ es)
      go rest true t found =
          let same : e.0 ≡ n = grind (arith, nat_tests) in
          let kept = without_none n es (AllByRecursion-weaker (λ (d : ℕ × T). e.0 < d.0) (λ (d : ℕ × T). d.0 ≡ n → ⊥) es (λ d less is. omega arith) rise.0) in
          omega (arith, ap (λ (fs : List (ℕ × T)). length fs) kept)
      go rest false t found = let left = rest found in omega (arith, left)

  -- and so there is in places that say so, once others of their number were written over them
  pub one_taken : (xs ys zs : List (IndexEntry T)) (n len : ℕ) → AreEntriesRising xs → IsSome (value_at n (live_entries xs)) → len ≡ length ys → live_entries ys ≡ without_number n (live_entries xs) → live_entries zs ≡ live_entries (take len (ys ++ drop (length ys) xs)) → length (live_entries zs) + 1 ≡ length (live_entries xs)
  one_taken xs ys zs n len rise there all left is =
      let whole : take len (ys ++ drop (length ys) xs) ≡ ys = rw all (take-append_seam ys (drop (length ys) xs)) in
      ap (λ (es : List (ℕ × T)). length es + 1) (is ∙ ap live_entries whole ∙ left) ∙ one_less n (live_entries xs) (entries_rise xs rise) there

  -- ---- another value

  others_same : (n : ℕ) (v : T) (es : List (ℕ × T)) → AllByRecursion (λ (e : ℕ × T). e.0 ≡ n → ⊥) es → with_other n v es ≡ es
  others_same n v [] h = refl
  others_same n v (e ∷ es) h =
      let differs = h.0 in
      let other : (e.0 == n) ≡ false = grind (arith, nat_tests, differs) in
      rw other (ap (λ (fs : List (ℕ × T)). e ∷ fs) (others_same n v es h.1))

  -- a place that is not gone, with another value
  pub entries-other : (xs : List (IndexEntry T)) (i n : ℕ) (v : T) (new : IndexEntry T) → AreEntriesRising xs → i < length xs → (get_or xs i blank_entry).number ≡ n → IsSome (get_or xs i blank_entry).value → new.number ≡ n → new.value ≡ Some v → live_entries (set xs i new) ≡ with_other n v (live_entries xs)
  entries-other [] i n v new rise lt is here number value = absurd (omega arith)
  entries-other (x ∷ xs) zero n v new rise lt is here number value = rw (value, number) (go x.value here)
    where
      same : (x.number == n) ≡ true
      same = grind (arith, nat_tests)

      rest : live_entries xs ≡ with_other n v (live_entries xs)
      rest = sym (others_same n v (live_entries xs) (numbers_here (λ m. m ≡ n → ⊥) xs (none_later x xs n is rise)))

      go : (o : Option T) → IsSome o → (n, v) ∷ live_entries xs ≡ with_other n v (live_before x.number o (live_entries xs))
      go None s = absurd (search (rules, s))
      go (Some u) s = rw same (ap (λ (es : List (ℕ × T)). (n, v) ∷ es) rest)
  entries-other (x ∷ xs) (suc i) n v new rise lt is here number value = go x.value (entries-other xs i n v new rise.1 (omega arith) is here number value)
    where
      other : (x.number == n) ≡ false
      other =
          let less : x.number < (get_or xs i blank_entry).number = all_at (λ (e : IndexEntry T). x.number < e.number) xs i blank_entry (omega arith) rise.0 in
          grind (arith, nat_tests)

      go : (o : Option T) → live_entries (set xs i new) ≡ with_other n v (live_entries xs) → live_before x.number o (live_entries (set xs i new)) ≡ with_other n v (live_before x.number o (live_entries xs))
      go None rest = rest
      go (Some u) rest = rw other (ap (λ (es : List (ℕ × T)). (x.number, u) ∷ es) rest)

  -- there are as many values
  pub length-others : (n : ℕ) (v : T) (es : List (ℕ × T)) → length (with_other n v es) ≡ length es
  length-others n v [] = refl
  length-others n v (e ∷ es) = ap suc (length-others n v es)

  -- ---- the end

  -- the last place is not gone where a value is written
  pub ends-set : (xs : List (IndexEntry T)) (i : ℕ) (new : IndexEntry T) → is_here new ≡ true → ends_gone xs ≡ false → ends_gone (set xs i new) ≡ false
  ends-set [] i new here e = refl
  ends-set (x ∷ []) zero new here e = rw here refl
  ends-set (x ∷ []) (suc i) new here e = e
  ends-set (x ∷ y ∷ xs) zero new here e = e
  ends-set (x ∷ y ∷ xs) (suc zero) new here e = ends-set (y ∷ xs) zero new here e
  ends-set (x ∷ y ∷ xs) (suc (suc i)) new here e = ends-set (y ∷ xs) (suc i) new here e

  pub ends-push : (xs : List (IndexEntry T)) (x : IndexEntry T) → ends_gone (xs ++ x ∷ []) ≡ not (is_here x)
  ends-push [] x = refl
  ends-push (y ∷ []) x = refl
  ends-push (y ∷ z ∷ xs) x = ends-push (z ∷ xs) x

  -- as the last one says
  pub ends_last : (xs : List (IndexEntry T)) (x : IndexEntry T) → slice_get xs (length xs - 1) ≡ Some x → not (is_here x) ≡ ends_gone xs
  ends_last [] x e = cc
  ends_last (y ∷ []) x e = ap (λ (z : IndexEntry T). not (is_here z)) (sym (same_Some y x e))
  ends_last (y ∷ z ∷ xs) x e =
      let place : length (y ∷ z ∷ xs) - 1 ≡ suc (length (z ∷ xs) - 1) = omega arith in
      ends_last (z ∷ xs) x (ap (slice_get (y ∷ z ∷ xs)) (sym place) ∙ e)

  is_gone : (o : Option T) → not (is_some o) ≡ true → o ≡ None
  is_gone None e = refl
  is_gone (Some v) e = cc

  some_here : (o : Option T) → is_some o ≡ true → IsSome o
  some_here None e = cc
  some_here (Some v) e = search rules

  rising-pop : (xs ys : List (IndexEntry T)) → AreEntriesRising (xs ++ ys) → AreEntriesRising xs
  rising-pop [] ys h = tt
  rising-pop (x ∷ xs) ys h = (all-pop xs h.0, rising-pop xs ys h.1)
    where
      all-pop : (zs : List (IndexEntry T)) → AllByRecursion (λ (e : IndexEntry T). x.number < e.number) (zs ++ ys) → AllByRecursion (λ (e : IndexEntry T). x.number < e.number) zs
      all-pop [] a = tt
      all-pop (z ∷ zs) a = (a.0, all-pop zs a.1)

  -- what is left once a last place that is gone is taken off
  pub last_taken : (xs ys : List (IndexEntry T)) (o : Option (IndexEntry T)) → xs ≡ ys ++ option_to_list o → ends_gone xs ≡ true → AreEntriesRising xs → AreEntriesRising ys × (live_entries ys ≡ live_entries xs)
  last_taken xs ys None is gone rise =
      (rising-pop ys [] (subst (λ (es : List (IndexEntry T)). AreEntriesRising es) is rise), sym (ap live_entries is ∙ entries-append ys [] ∙ append-nil (live_entries ys)))
  last_taken xs ys (Some x) is gone rise =
      let last : x.value ≡ None = is_gone x.value (sym (ends-push ys x) ∙ ap ends_gone (sym is) ∙ gone) in
      (rising-pop ys (x ∷ []) (subst (λ (es : List (IndexEntry T)). AreEntriesRising es) is rise), sym (ap live_entries is ∙ entries-append ys (x ∷ []) ∙ rw last (append-nil (live_entries ys))))

  -- the greatest number is that of a last place that is not gone
  pub last_is : (xs : List (IndexEntry T)) (x : IndexEntry T) → ends_gone xs ≡ false → slice_get xs (length xs - 1) ≡ Some x → last_number (live_entries xs) ≡ Some x.number
  last_is [] x here e = cc
  last_is (y ∷ []) x here e = go y.value refl (same_Some y x e)
    where
      go : (o : Option T) → y.value ≡ o → y ≡ x → last_number (live_before y.number o []) ≡ Some x.number
      go None o is = absurd (search (rules, rw o at here))
      go (Some v) o is = ap (λ (z : IndexEntry T). Some z.number) is
  last_is (y ∷ z ∷ xs) x here e =
      let place : length (y ∷ z ∷ xs) - 1 ≡ suc (length (z ∷ xs) - 1) = omega arith in
      go y.value (live_entries (z ∷ xs)) (last_is (z ∷ xs) x here (ap (slice_get (y ∷ z ∷ xs)) (sym place) ∙ e))
    where
      go : (o : Option T) (es : List (ℕ × T)) → last_number es ≡ Some x.number → last_number (live_before y.number o es) ≡ Some x.number
      go None es is = is
      go (Some v) [] is = cc
      go (Some v) (f ∷ fs) is = is

  -- ---- a value more

  -- what is above the greatest number is above all
  pub above_last : (es : List (ℕ × T)) (m n : ℕ) → IsIndexRising es → last_number es ≡ Some m → m < n → AllByRecursion (λ (e : ℕ × T). e.0 < n) es
  above_last [] m n rise last less = tt
  above_last (e ∷ []) m n rise last less = let same : e.0 ≡ m = same_Some e.0 m last in (omega arith, tt)
  above_last (e ∷ f ∷ es) m n rise last less =
      let rest = above_last (f ∷ es) m n rise.1 last less in
      let first : f.0 < n = rest.0 in
      let before : e.0 < f.0 = rise.0.0 in
      (omega arith, rest)

  pub above_none : (es : List (ℕ × T)) (n : ℕ) → last_number es ≡ None → AllByRecursion (λ (e : ℕ × T). e.0 < n) es
  above_none [] n none = tt
  above_none (e ∷ []) n none = cc
  above_none (e ∷ f ∷ es) n none = absurd (some_last f es none)
    where
      some_last : (g : ℕ × T) (gs : List (ℕ × T)) → last_number (g ∷ gs) ≡ None → ⊥
      some_last g [] none = cc
      some_last g (h ∷ gs) none = some_last h gs none

  -- where the last place is not gone, what is above all values is above all places
  above_items : (xs : List (IndexEntry T)) (n : ℕ) → AreEntriesRising xs → ends_gone xs ≡ false → AllByRecursion (λ (e : ℕ × T). e.0 < n) (live_entries xs) → AllByRecursion (λ (e : IndexEntry T). e.number < n) xs
  above_items [] n rise ends above = tt
  above_items (x ∷ []) n rise ends above = (go x.value refl above, tt)
    where
      go : (o : Option T) → x.value ≡ o → AllByRecursion (λ (e : ℕ × T). e.0 < n) (live_before x.number o []) → x.number < n
      go None o h = absurd (search (rules, rw o at ends))
      go (Some v) o h = h.0
  above_items (x ∷ y ∷ xs) n rise ends above =
      let rest = above_items (y ∷ xs) n rise.1 ends (later x.value above) in
      let first : y.number < n = rest.0 in
      let less : x.number < y.number = rise.0.0 in
      (omega arith, rest)
    where
      later : (o : Option T) → AllByRecursion (λ (e : ℕ × T). e.0 < n) (live_before x.number o (live_entries (y ∷ xs))) → AllByRecursion (λ (e : ℕ × T). e.0 < n) (live_entries (y ∷ xs))
      later None h = h
      later (Some v) h = h.1

  pub rising-push : (xs : List (IndexEntry T)) (x : IndexEntry T) → AreEntriesRising xs → ends_gone xs ≡ false → AllByRecursion (λ (e : ℕ × T). e.0 < x.number) (live_entries xs) → AreEntriesRising (xs ++ x ∷ [])
  rising-push xs x rise ends above = EachPair-push (λ (d : IndexEntry T) (e : IndexEntry T). d.number < e.number) xs x (above_items xs x.number rise ends above) rise

  -- the value of a number above all stands behind all
  pub with_last : (n : ℕ) (v : T) (es : List (ℕ × T)) → AllByRecursion (λ (e : ℕ × T). e.0 < n) es → es ++ (n, v) ∷ [] ≡ with_value n v es
  with_last n v [] above = refl
  with_last n v (e ∷ es) above =
      let less : e.0 < n = above.0 in
      let t : nat_lt n e.0 ≡ false = grind (arith, nat_tests) in
      rw t (ap (λ fs. e ∷ fs) (with_last n v es above.1))

  -- no place has a number that no value has, where none is gone
  pub new_place : (xs : List (IndexEntry T)) (n : ℕ) → AllByRecursion (λ (e : IndexEntry T). IsSome e.value) xs → value_at n (live_entries xs) ≡ None → at place_key n xs ≡ None
  new_place [] n here none = refl
  new_place (x ∷ xs) n here none = go (new_place xs n here.1) x.value refl (x.number == n) refl none
    where
      go : (value_at n (live_entries xs) ≡ None → at place_key n xs ≡ None) → (o : Option T) → x.value ≡ o → (b : Bool) → (x.number == n) ≡ b → value_at n (live_before x.number o (live_entries xs)) ≡ None → cond b (Some x) (at place_key n xs) ≡ None
      go rest None o b t h = absurd (search (rules, rw o at here.0))
      go rest (Some v) o true t h = absurd (differs (rw t at h))
        where
          differs : Some v ≡ None → ⊥
          differs e = cc
      go rest (Some v) o false t h = rest (rw t at h)

  -- a value at the place of its number
  pub entries-insert : (xs : List (IndexEntry T)) (i n : ℕ) (v : T) → AllByRecursion (λ (e : IndexEntry T). IsSome e.value) xs → AllByRecursion (λ (e : IndexEntry T). e.number < n) (take i xs) → AllByRecursion (λ (e : IndexEntry T). n < e.number) (drop i xs) → live_entries (insert xs i (record { number = n; value = Some v })) ≡ with_value n v (live_entries xs)
  entries-insert [] zero n v here below above = refl
  entries-insert [] (suc i) n v here below above = refl
  entries-insert (x ∷ xs) zero n v here below above = go x.value refl
    where
      go : (o : Option T) → x.value ≡ o → (n, v) ∷ live_before x.number o (live_entries xs) ≡ with_value n v (live_before x.number o (live_entries xs))
      go None o = absurd (search (rules, rw o at here.0))
      go (Some w) o =
          let less : n < x.number = above.0 in
          let t : nat_lt n x.number ≡ true = grind (arith, nat_tests) in
          rw t refl
  entries-insert (x ∷ xs) (suc i) n v here below above = go x.value refl (entries-insert xs i n v here.1 below.1 above)
    where
      go : (o : Option T) → x.value ≡ o → live_entries (insert xs i (record { number = n; value = Some v })) ≡ with_value n v (live_entries xs) → live_before x.number o (live_entries (insert xs i (record { number = n; value = Some v }))) ≡ with_value n v (live_before x.number o (live_entries xs))
      go None o rest = absurd (search (rules, rw o at here.0))
      go (Some w) o rest =
          let less : x.number < n = below.0 in
          let t : nat_lt n x.number ≡ false = grind (arith, nat_tests) in
          rw t (ap (λ es. (x.number, w) ∷ es) rest)

  -- there is one value more
  pub one_more : (n : ℕ) (v : T) (es : List (ℕ × T)) → length (with_value n v es) ≡ length es + 1
  one_more n v [] = refl
  one_more n v (e ∷ es) = go (nat_lt n e.0) (one_more n v es)
    where
      go : (b : Bool) → length (with_value n v es) ≡ length es + 1 → length (cond b ((n, v) ∷ e ∷ es) (e ∷ with_value n v es)) ≡ length (e ∷ es) + 1
      go true rest = omega arith
      go false rest = omega arith

  -- the last place is not gone where none is
  pub ends-here : (xs : List (IndexEntry T)) → AllByRecursion (λ (e : IndexEntry T). IsSome e.value) xs → ends_gone xs ≡ false
  ends-here [] h = refl
  ends-here (x ∷ []) h = go x.value h.0
    where
      go : (o : Option T) → IsSome o → not (is_some o) ≡ false
      go None s = absurd (search (rules, s))
      go (Some v) s = refl
  ends-here (x ∷ y ∷ xs) h = ends-here (y ∷ xs) h.1

  -- ---- all places that are gone are cleared away

  pub here_all : (xs : List (IndexEntry T)) → AllByRecursion (λ (e : IndexEntry T). IsSome e.value) (filter is_here xs)
  here_all xs = AllByRecursion-passed (λ (e : IndexEntry T). Unit {0}) (λ (e : IndexEntry T). IsSome e.value) is_here xs (λ e t u. some_here e.value t) (units xs)
    where
      units : (ys : List (IndexEntry T)) → AllByRecursion (λ (e : IndexEntry T). Unit {0}) ys
      units [] = tt
      units (y ∷ ys) = (tt, units ys)

  pub entries-cleared : (xs : List (IndexEntry T)) → live_entries (filter is_here xs) ≡ live_entries xs
  entries-cleared [] = refl
  entries-cleared (x ∷ xs) = go x.value refl (entries-cleared xs)
    where
      go : (o : Option T) → x.value ≡ o → live_entries (filter is_here xs) ≡ live_entries xs → live_entries (cond (is_here x) (x ∷ filter is_here xs) (filter is_here xs)) ≡ live_before x.number o (live_entries xs)
      go None o rest = rw o rest
      go (Some v) o rest = rw o (ap (λ es. (x.number, v) ∷ es) rest)

  pub rising-cleared : (xs : List (IndexEntry T)) → AreEntriesRising xs → AreEntriesRising (filter is_here xs)
  rising-cleared xs rise = EachPair-filter (λ (d : IndexEntry T) (e : IndexEntry T). d.number < e.number) is_here xs rise

  -- as many are left as there are values
  pub count_here : (xs : List (IndexEntry T)) → AllByRecursion (λ (e : IndexEntry T). IsSome e.value) xs → length xs ≡ length (live_entries xs)
  count_here [] h = refl
  count_here (x ∷ xs) h = go x.value h.0 (count_here xs h.1)
    where
      go : (o : Option T) → IsSome o → length xs ≡ length (live_entries xs) → suc (length xs) ≡ length (live_before x.number o (live_entries xs))
      go None s rest = absurd (search (rules, s))
      go (Some v) s rest = omega arith

  -- ---- look-ups after a change

  pub value-with : (n m : ℕ) (v : T) (es : List (ℕ × T)) → value_at n es ≡ None → value_at m (with_value n v es) ≡ cond (n == m) (Some v) (value_at m es)
  value-with n m v [] none = some_mapped (λ (e : ℕ × T). e.1) (n == m) (n, v) None
  value-with n m v (e ∷ es) none = go (value-with n m v es) (nat_lt n e.0) (e.0 == n) refl none (e.0 == m) refl
    where
      go : (value_at n es ≡ None → value_at m (with_value n v es) ≡ cond (n == m) (Some v) (value_at m es)) → (l b : Bool) → (e.0 == n) ≡ b → option_map (λ (d : ℕ × T). d.1) (cond b (Some e) (at value_key n es)) ≡ None → (c : Bool) → (e.0 == m) ≡ c → value_at m (cond l ((n, v) ∷ e ∷ es) (e ∷ with_value n v es)) ≡ cond (n == m) (Some v) (option_map (λ (d : ℕ × T). d.1) (cond c (Some e) (at value_key m es)))
      go rest true b s h c t = some_mapped (λ (d : ℕ × T). d.1) (n == m) (n, v) (cond (e.0 == m) (Some e) (at value_key m es)) ∙ ap (λ (x : Bool). cond (n == m) (Some v) (option_map (λ (d : ℕ × T). d.1) (cond x (Some e) (at value_key m es)))) t
      go rest false true s h c t = cc
      go rest false false s h true t = let other : (n == m) ≡ false = grind (arith, nat_tests) in rw (t, other) refl
      go rest false false s h false t = rw t (rest h)

  pub value-without : (n m : ℕ) (es : List (ℕ × T)) → value_at m (without_number n es) ≡ cond (n == m) None (value_at m es)
  value-without n m es = ap (option_map (λ (e : ℕ × T). e.1)) (keyed.at-without value_key es n m) ∙ none_mapped (λ (e : ℕ × T). e.1) (n == m) (at value_key m es)

  -- ---- what is answered

  -- a reference to it, if there is one
  pub told : (o : Option T) (r : Option (Bor T)) → o ≡ option_copied r → MatchOption r (o ≡ None) (λ v. o ≡ Some v.now)
  told o None is = is
  told o (Some v) is = is

  -- ---- a walk along the places

  -- one that is not gone is a value more
  pub live_more : (xs : List (IndexEntry T)) (i : ℕ) (d : IndexEntry T) (v : T) → i < length xs → (get_or xs i d).value ≡ Some v → live_entries (take (i + 1) xs) ≡ live_entries (take i xs) ++ ((get_or xs i d).number, v) ∷ []
  live_more xs i d v lt here =
      ap live_entries (take_more xs i d lt)
      ∙ entries-append (take i xs) (get_or xs i d ∷ [])
      ∙ rw here refl

  -- one that is gone is none
  pub live_same : (xs : List (IndexEntry T)) (i : ℕ) (d : IndexEntry T) → i < length xs → (get_or xs i d).value ≡ None → live_entries (take (i + 1) xs) ≡ live_entries (take i xs)
  live_same xs i d lt gone =
      ap live_entries (take_more xs i d lt)
      ∙ entries-append (take i xs) (get_or xs i d ∷ [])
      ∙ rw gone (append-nil (live_entries (take i xs)))

  -- before a value there are fewer than in all
  pub live_room : (xs : List (IndexEntry T)) (i : ℕ) (d : IndexEntry T) (v : T) → i < length xs → (get_or xs i d).value ≡ Some v → length (live_entries (take i xs)) < length (live_entries xs)
  live_room [] i d v lt here = absurd (omega arith)
  live_room (x ∷ xs) zero d v lt here = rw here (omega arith)
  live_room (x ∷ xs) (suc i) d v lt here = go x.value (live_room xs i d v (omega arith) here)
    where
      go : (o : Option T) → length (live_entries (take i xs)) < length (live_entries xs) → length (live_before x.number o (live_entries (take i xs))) < length (live_before x.number o (live_entries xs))
      go None rest = rest
      go (Some w) rest = omega arith
