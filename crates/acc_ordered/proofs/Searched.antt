-- Entries by rising key that are split at the place of a key: what a search finds there, and how they change there.
use Rattle.std.proofs.Common.{ℕ, zero, suc, ◌≡◌, ◌<◌, refl, sym, ap, ◌∙◌, true, false, List, [], ◌∷◌, length, take, drop, get_or, set, insert, Some, None, IsSome, ◌≤◌, inl, inr, arith}
use Rattle.std.specs.Prelude.{◌==◌, slice_get, nat_lt, nat_le}
use Rattle.std.specs.Bool.{if◌then◌else◌}
use Rattle.std.specs.List.{AllByRecursion, remove}
use Rattle.std.specs.Option.{option_or}
use Rattle.std.proofs.lemmas.Bool.{cases_lt}
use Rattle.std.proofs.lemmas.Bool.Decides.{nat_tests}
use Rattle.acc_base.specs.Splits.{IsSplitBy}
use Rattle.acc_base.proofs.Elements.{find_none}
use Rattle.acc_base.proofs.Splitting.{all_at}
use Rattle.acc_base.proofs.Keyed as keyed
use Rattle.acc_ordered.specs.Listing.{KeyValue, KeysRise, at_key, first_from, last_before, with_entry, without_key, with_value}
use Rattle.acc_ordered.specs.Spots.{get_before}
use Rattle.acc_ordered.proofs.Halving.{passed_up, failed_down, nothing_behind}
use Rattle.acc_ordered.proofs.Laying.{got, get_some}

module _ {T : Type 0} where
  abbrev pub entry_key_of : KeyValue T → ℕ
  entry_key_of e = e.key

  -- the place of a key
  abbrev pub IsSplitAt : ℕ → List (KeyValue T) → ℕ → Type 0
  IsSplitAt key es n = IsSplitBy (λ e. nat_lt e.key key) es n

  rest_of : (key : ℕ) (e : KeyValue T) (es : List (KeyValue T)) (n : ℕ) → IsSplitAt key (e ∷ es) (suc n) → IsSplitAt key es n
  rest_of key e es n s = record { bound = omega (arith, s.bound); passed = s.passed.1; failed = s.failed }

  -- ---- searches

  pub first_of_from : (key : ℕ) (es : List (KeyValue T)) (n : ℕ) → IsSplitAt key es n → first_from key es ≡ slice_get es n
  first_of_from key [] n s = refl
  first_of_from key (e ∷ es) zero s = let f = s.failed.0 in let t : nat_le key e.key ≡ true = grind (arith, nat_tests) in rw t refl
  first_of_from key (e ∷ es) (suc n) s = let f = s.passed.0 in let t : nat_le key e.key ≡ false = grind (arith, nat_tests) in rw t (first_of_from key es n (rest_of key e es n s))

  none_before : (key : ℕ) (es : List (KeyValue T)) → AllByRecursion (λ e. nat_lt e.key key ≡ false) es → last_before key es ≡ None
  none_before key [] h = refl
  none_before key (e ∷ es) h = let f = h.0 in rw f (ap (λ o. option_or o None) (none_before key es h.1))

  pub last_of_before : (key : ℕ) (es : List (KeyValue T)) (n : ℕ) → IsSplitAt key es n → last_before key es ≡ get_before es n
  last_of_before key es zero s = none_before key es s.failed
  last_of_before key [] (suc n) s = absurd (omega (arith, s.bound))
  last_of_before key (e ∷ es) (suc zero) s = let p = s.passed.0 in rw p (ap (λ o. option_or o (Some e)) (none_before key es s.failed))
  last_of_before key (e ∷ es) (suc (suc n)) s =
      let rest = rest_of key e es (suc n) s in
      let there : n < length es = omega (arith, rest.bound) in
      ap (λ o. option_or o (if nat_lt e.key key then Some e else None)) (last_of_before key es (suc n) rest ∙ get_some es n e there) ∙ sym (get_some es n e there)

  passed_before : (key : ℕ) (es : List (KeyValue T)) (n : ℕ) → KeysRise es → n ≤ length es → ((e : KeyValue T) → get_before es n ≡ Some e → e.key < key) → AllByRecursion (λ e. nat_lt e.key key ≡ true) (take n es)
  passed_before key es zero r le low = tt
  passed_before key [] (suc n) r le low = absurd (omega (arith, le))
  passed_before key (e ∷ es) (suc n) r le low =
      let lt : n < length (e ∷ es) = omega (arith, le) in
      passed_up entry_key_of key (e ∷ es) n e r lt (low (get_or (e ∷ es) n e) (get_some (e ∷ es) n e lt))

  failed_from : (key : ℕ) (es : List (KeyValue T)) (n : ℕ) → KeysRise es → ((e : KeyValue T) → slice_get es n ≡ Some e → key ≤ e.key) → AllByRecursion (λ e. nat_lt e.key key ≡ false) (drop n es)
  failed_from key [] n r high = nothing_behind entry_key_of (λ e. nat_lt e.key key ≡ false) [] n (omega arith)
  failed_from key (e ∷ es) n r high = elim (cases_lt n (length (e ∷ es))) [
    | inl lt ↦ failed_down entry_key_of key (e ∷ es) n e r lt (high (get_or (e ∷ es) n e) (get_some (e ∷ es) n e lt))
    | inr le ↦ nothing_behind entry_key_of (λ f. nat_lt f.key key ≡ false) (e ∷ es) n le
  ]

  -- the place behind a lower key, before one that is not, is that of a key
  pub split_between : (key : ℕ) (es : List (KeyValue T)) (n : ℕ) → KeysRise es → n ≤ length es → ((e : KeyValue T) → get_before es n ≡ Some e → e.key < key) → ((e : KeyValue T) → slice_get es n ≡ Some e → key ≤ e.key) → IsSplitAt key es n
  split_between key es n r le low high = record { bound = le; passed = passed_before key es n r le low; failed = failed_from key es n r high }

  -- an entry is the one of its key
  pub at_got : (key : ℕ) (es : List (KeyValue T)) (n : ℕ) (e : KeyValue T) → KeysRise es → slice_get es n ≡ Some e → e.key ≡ key → at_key key es ≡ Some e
  at_got key [] n e r is same = cc
  at_got key (f ∷ es) zero e r is same = let here : f ≡ e = cc in let t : (f.key == key) ≡ true = rw here (grind (arith, nat_tests)) in rw t is
  at_got key (f ∷ es) (suc n) e r is same =
      let g = got es n e is in
      let less = all_at (λ h. f.key < h.key) es n e g.bound r.0 in
      let less_e : f.key < e.key = rw g.same at less in
      let t : (f.key == key) ≡ false = grind (arith, nat_tests) in
      rw t (at_got key es n e r.1 is same)

  -- where the key is there, it stands at its place
  pub at_split : (key : ℕ) (es : List (KeyValue T)) (n : ℕ) → KeysRise es → IsSplitAt key es n → IsSome (at_key key es) → slice_get es n ≡ at_key key es
  at_split key [] n r s there = refl
  at_split key (e ∷ es) n r s there = let f = keyed.found_at entry_key_of key (e ∷ es) n e r s there in get_some (e ∷ es) n e f.bound ∙ sym f.found

  pub split_bound : (key : ℕ) (es : List (KeyValue T)) (n : ℕ) → IsSplitAt key es n → IsSome (at_key key es) → n < length es
  split_bound key es n s there = keyed.found_within entry_key_of key es n s there

  least_at : (key : ℕ) (es : List (KeyValue T)) (n : ℕ) (e : KeyValue T) → IsSplitAt key es n → slice_get es n ≡ Some e → nat_lt key e.key ≡ false → e.key ≡ key
  least_at key [] n e s is below = cc
  least_at key (f ∷ es) zero e s is below = let same : f ≡ e = cc in let high : nat_lt e.key key ≡ false = rw same at s.failed.0 in grind (arith, nat_tests)
  least_at key (f ∷ es) (suc n) e s is below = least_at key es n e (rest_of key f es n s) is below

  -- the key is not there where another stands at its place
  pub at_other : (key : ℕ) (es : List (KeyValue T)) (n : ℕ) (e : KeyValue T) → KeysRise es → IsSplitAt key es n → slice_get es n ≡ Some e → (e.key ≡ key → ⊥) → at_key key es ≡ None
  at_other key es n e r s is other = let g = got es n e is in keyed.at_no_place entry_key_of key es n e r s (λ lt k. other (rw g.same at k))

  -- where what stands at its place is not above the key, that is its entry
  pub not_below_at : (key : ℕ) (es : List (KeyValue T)) (n : ℕ) (e : KeyValue T) → KeysRise es → IsSplitAt key es n → slice_get es n ≡ Some e → nat_lt key e.key ≡ false → at_key key es ≡ Some e
  not_below_at key es n e r s is below = at_got key es n e r is (least_at key es n e s is below)

  -- nor where none does
  pub at_none : (key : ℕ) (es : List (KeyValue T)) (n : ℕ) → KeysRise es → IsSplitAt key es n → slice_get es n ≡ None → at_key key es ≡ None
  at_none key [] n r s is = refl
  at_none key (e ∷ es) n r s is = keyed.at_no_place entry_key_of key (e ∷ es) n e r s (λ lt k. let some = get_some (e ∷ es) n e lt in cc)

  -- ---- changes

  pub with_split : (new : KeyValue T) (es : List (KeyValue T)) (n : ℕ) → IsSplitAt new.key es n → at_key new.key es ≡ None → with_entry new es ≡ insert es n new
  with_split new [] zero s none = refl
  with_split new [] (suc n) s none = absurd (omega (arith, s.bound))
  with_split new (e ∷ es) zero s none =
      let f = s.failed.0 in
      let other = (find_none (λ x. x.key == new.key) (e ∷ es) none).0 in
      let t : nat_lt new.key e.key ≡ true = grind (arith, nat_tests) in
      rw t refl
  with_split new (e ∷ es) (suc n) s none =
      let p = s.passed.0 in
      let t : nat_lt new.key e.key ≡ false = grind (arith, nat_tests) in
      let u : (e.key == new.key) ≡ false = grind (arith, nat_tests) in
      rw t (ap (λ fs. e ∷ fs) (with_split new es n (rest_of new.key e es n s) (rw u at none)))

  pub rise_split : (new : KeyValue T) (es : List (KeyValue T)) (n : ℕ) → KeysRise es → IsSplitAt new.key es n → at_key new.key es ≡ None → KeysRise (insert es n new)
  rise_split new es n r s none = keyed.rise-insert entry_key_of es n new r s none

  pub without_got : (key : ℕ) (es : List (KeyValue T)) (n : ℕ) (e : KeyValue T) → KeysRise es → slice_get es n ≡ Some e → e.key ≡ key → remove es n ≡ without_key key es
  without_got key es n e r is same = let g = got es n e is in keyed.remove-filter entry_key_of es n key e (keyed.rise_distinct entry_key_of es r) g.bound (ap entry_key_of g.same ∙ same)

  pub with_got : (key : ℕ) (value : T) (es : List (KeyValue T)) (n : ℕ) (e : KeyValue T) → KeysRise es → slice_get es n ≡ Some e → e.key ≡ key → set es n (record e { value = value }) ≡ with_value key value es
  with_got key value es n e r is same =
      let g = got es n e is in
      ap (λ (f : KeyValue T). set es n (record f { value = value })) (sym g.same)
      ∙ keyed.set-map entry_key_of es n key e (λ (f : KeyValue T). record f { value = value }) (keyed.rise_distinct entry_key_of es r) g.bound (ap entry_key_of g.same ∙ same)
