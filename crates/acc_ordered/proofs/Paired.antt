-- Keys and values that stand apart: what changes both changes the entries that they make.
use Rattle.std.proofs.Common.{ℕ, zero, suc, ◌≡◌, ◌<◌, refl, sym, ap, subst, ◌∙◌, true, false, List, [], ◌∷◌, ◌++◌, length, get_or, set, take, drop, insert, Some, arith}
use Rattle.std.specs.Prelude.{nat_lt, slice_get}
use Rattle.std.specs.List.{AllByRecursion, remove}
use Rattle.acc_base.specs.Accounts.{EachPair}
use Rattle.acc_base.specs.Splits.{IsSplitBy}
use Rattle.acc_ordered.specs.Listing.{KeyValue, KeysRise, told_in}
use Rattle.acc_ordered.specs.Pairs.{paired}

-- what stands behind nothing is all
pub behind_none : {X : Type 0} (xs ys : List X) → length xs ≡ 0 → xs ++ ys ≡ ys
behind_none [] ys e = refl
behind_none (x ∷ xs) ys e = absurd (omega (arith, e))

module _ {K T : Type 0} (number : K → ℕ) where
  paired_length : (ks : List K) (vs : List T) → length vs ≡ length ks → length (paired number ks vs) ≡ length ks
  paired_length [] vs e = refl
  paired_length (k ∷ ks) [] e = absurd (omega (arith, e))
  paired_length (k ∷ ks) (v ∷ vs) e = omega (arith, paired_length ks vs (omega (arith, e)))

  -- there are as many entries as keys
  pub entries_length : (es : List (KeyValue T)) (ks : List K) (vs : List T) → paired number ks vs ≡ es → length vs ≡ length ks → length es ≡ length ks
  entries_length es ks vs is e = omega (arith, ap length is, paired_length ks vs e)

  paired_get : (ks : List K) (vs : List T) (n : ℕ) (d : K) (b : T) → length vs ≡ length ks → n < length ks → slice_get (paired number ks vs) n ≡ Some (record { key = number (get_or ks n d); value = get_or vs n b })
  paired_get [] vs n d b e lt = absurd (omega (arith, lt))
  paired_get (k ∷ ks) [] n d b e lt = absurd (omega (arith, e))
  paired_get (k ∷ ks) (v ∷ vs) zero d b e lt = refl
  paired_get (k ∷ ks) (v ∷ vs) (suc n) d b e lt = paired_get ks vs n d b (omega (arith, e)) (omega (arith, lt))

  pub paired_insert : (ks : List K) (vs : List T) (n : ℕ) (k : K) (v : T) → length vs ≡ length ks → paired number (insert ks n k) (insert vs n v) ≡ insert (paired number ks vs) n (record { key = number k; value = v })
  paired_insert [] [] zero k v e = refl
  paired_insert [] [] (suc n) k v e = refl
  paired_insert [] (w ∷ vs) n k v e = absurd (omega (arith, e))
  paired_insert (j ∷ ks) [] n k v e = absurd (omega (arith, e))
  paired_insert (j ∷ ks) (w ∷ vs) zero k v e = refl
  paired_insert (j ∷ ks) (w ∷ vs) (suc n) k v e = ap (λ es. record { key = number j; value = w } ∷ es) (paired_insert ks vs n k v (omega (arith, e)))

  pub paired_remove : (ks : List K) (vs : List T) (n : ℕ) → length vs ≡ length ks → paired number (remove ks n) (remove vs n) ≡ remove (paired number ks vs) n
  paired_remove [] [] zero e = refl
  paired_remove [] [] (suc n) e = refl
  paired_remove [] (w ∷ vs) n e = absurd (omega (arith, e))
  paired_remove (j ∷ ks) [] n e = absurd (omega (arith, e))
  paired_remove (j ∷ ks) (w ∷ vs) zero e = refl
  paired_remove (j ∷ ks) (w ∷ vs) (suc n) e = ap (λ es. record { key = number j; value = w } ∷ es) (paired_remove ks vs n (omega (arith, e)))

  pub paired_take : (ks : List K) (vs : List T) (n : ℕ) → length vs ≡ length ks → paired number (take n ks) (take n vs) ≡ take n (paired number ks vs)
  paired_take [] [] zero e = refl
  paired_take [] [] (suc n) e = refl
  paired_take [] (w ∷ vs) n e = absurd (omega (arith, e))
  paired_take (j ∷ ks) [] n e = absurd (omega (arith, e))
  paired_take (j ∷ ks) (w ∷ vs) zero e = refl
  paired_take (j ∷ ks) (w ∷ vs) (suc n) e = ap (λ es. record { key = number j; value = w } ∷ es) (paired_take ks vs n (omega (arith, e)))

  pub paired_drop : (ks : List K) (vs : List T) (n : ℕ) → length vs ≡ length ks → paired number (drop n ks) (drop n vs) ≡ drop n (paired number ks vs)
  paired_drop [] [] zero e = refl
  paired_drop [] [] (suc n) e = refl
  paired_drop [] (w ∷ vs) n e = absurd (omega (arith, e))
  paired_drop (j ∷ ks) [] n e = absurd (omega (arith, e))
  paired_drop (j ∷ ks) (w ∷ vs) zero e = refl
  paired_drop (j ∷ ks) (w ∷ vs) (suc n) e = paired_drop ks vs n (omega (arith, e))

  pub paired_append : (ks : List K) (vs : List T) (js : List K) (ws : List T) → length vs ≡ length ks → paired number (ks ++ js) (vs ++ ws) ≡ paired number ks vs ++ paired number js ws
  paired_append [] [] js ws e = refl
  paired_append [] (w ∷ vs) js ws e = absurd (omega (arith, e))
  paired_append (j ∷ ks) [] js ws e = absurd (omega (arith, e))
  paired_append (j ∷ ks) (w ∷ vs) js ws e = ap (λ es. record { key = number j; value = w } ∷ es) (paired_append ks vs js ws (omega (arith, e)))

  -- the value at a place is written, whatever stood there
  pub paired_set : (ks : List K) (vs : List T) (n : ℕ) (v : T) (d : KeyValue T) → length vs ≡ length ks → paired number ks (set vs n v) ≡ set (paired number ks vs) n (record (get_or (paired number ks vs) n d) { value = v })
  paired_set [] [] zero v d e = refl
  paired_set [] [] (suc n) v d e = refl
  paired_set [] (w ∷ vs) n v d e = absurd (omega (arith, e))
  paired_set (j ∷ ks) [] n v d e = absurd (omega (arith, e))
  paired_set (j ∷ ks) (w ∷ vs) zero v d e = refl
  paired_set (j ∷ ks) (w ∷ vs) (suc n) v d e = ap (λ es. record { key = number j; value = w } ∷ es) (paired_set ks vs n v d (omega (arith, e)))

  all_paired : (P : ℕ → Type 0) (ks : List K) (vs : List T) → AllByRecursion (λ k. P (number k)) ks → AllByRecursion (λ e. P e.key) (paired number ks vs)
  all_paired P [] vs h = tt
  all_paired P (k ∷ ks) [] h = tt
  all_paired P (k ∷ ks) (v ∷ vs) h = (h.0, all_paired P ks vs h.1)

  all_keys : (P : ℕ → Type 0) (ks : List K) (vs : List T) → length vs ≡ length ks → AllByRecursion (λ e. P e.key) (paired number ks vs) → AllByRecursion (λ k. P (number k)) ks
  all_keys P [] vs e h = tt
  all_keys P (k ∷ ks) [] e h = absurd (omega (arith, e))
  all_keys P (k ∷ ks) (v ∷ vs) e h = (h.0, all_keys P ks vs (omega (arith, e)) h.1)

  pub keys_rise : (ks : List K) (vs : List T) → length vs ≡ length ks → KeysRise (paired number ks vs) → EachPair (λ a b. number a < number b) ks
  keys_rise [] vs e h = tt
  keys_rise (k ∷ ks) [] e h = absurd (omega (arith, e))
  keys_rise (k ∷ ks) (v ∷ vs) e h = (all_keys (λ j. number k < j) ks vs (omega (arith, e)) h.0, keys_rise ks vs (omega (arith, e)) h.1)

  pub split_paired : (key : ℕ) (ks : List K) (vs : List T) (n : ℕ) → length vs ≡ length ks → IsSplitBy (λ k. nat_lt (number k) key) ks n → IsSplitBy (λ (e : KeyValue T). nat_lt e.key key) (paired number ks vs) n
  split_paired key ks vs n e s = record {
    bound = omega (arith, s.bound, paired_length ks vs e);
    passed = subst (λ (es : List (KeyValue T)). AllByRecursion (λ e. nat_lt e.key key ≡ true) es) (paired_take ks vs n e) (all_paired (λ k. nat_lt k key ≡ true) (take n ks) (take n vs) s.passed);
    failed = subst (λ (es : List (KeyValue T)). AllByRecursion (λ e. nat_lt e.key key ≡ false) es) (paired_drop ks vs n e) (all_paired (λ k. nat_lt k key ≡ false) (drop n ks) (drop n vs) s.failed);
  }

  -- the entry at a place, of a key and a value that were read there
  pub paired_entry : (es : List (KeyValue T)) (ks : List K) (vs : List T) (n : ℕ) (k : K) (v : T) → paired number ks vs ≡ es → length vs ≡ length ks → n < length ks → k ≡ get_or ks n k → v ≡ get_or vs n v → slice_get es n ≡ Some (record { key = number k; value = v })
  paired_entry es ks vs n k v is e lt key value =
      ap (λ (xs : List (KeyValue T)). slice_get xs n) (sym is)
      ∙ paired_get ks vs n k v e lt
      ∙ ap (λ (j : K). Some (record { key = number j; value = get_or vs n v })) (sym key)
      ∙ ap (λ (w : T). Some (record { key = number k; value = w })) (sym value)

  -- ---- what is told of the entries up to a place

  pub told_next : {U : Type 0} (f : ℕ → T → U) (ks : List K) (vs : List T) (n : ℕ) (d : K) (b : T) → length vs ≡ length ks → n < length ks → told_in f (take (suc n) (paired number ks vs)) ≡ told_in f (take n (paired number ks vs)) ++ f (number (get_or ks n d)) (get_or vs n b) ∷ []
  told_next f [] vs n d b e lt = absurd (omega (arith, lt))
  told_next f (k ∷ ks) [] n d b e lt = absurd (omega (arith, e))
  told_next f (k ∷ ks) (v ∷ vs) zero d b e lt = refl
  told_next f (k ∷ ks) (v ∷ vs) (suc n) d b e lt = ap (λ us. f (number k) v ∷ us) (told_next f ks vs n d b (omega (arith, e)) (omega (arith, lt)))
