-- The least keys of rows, as the numbers that they stand for, and changes of queues that succeed.
use Rattle.std.proofs.Common.{ℕ, zero, suc, ◌≡◌, ◌<◌, ◌≤◌, refl, sym, ap, subst, ◌∙◌, true, false, List, [], ◌∷◌, length, take, drop, insert, Option, Some, None, IsSome, Result, Ok, Err, arith}
use Rattle.std.specs.Prelude.{map, nat_lt, OnOk, OnErr}
use Rattle.std.specs.Option.{OnSome}
use Rattle.std.specs.List.{AllByRecursion, remove}
use Rattle.std.proofs.lemmas.List.{length-map}
use Rattle.acc_base.specs.Accounts.{EachPair}
use Rattle.acc_base.specs.Splits.{IsSplitBy}
use Rattle.acc_ordered.specs.Listing.{KeyValue}
use Rattle.acc_ordered.specs.Laid.{least_key, AreInRows}

-- what can only fail for lack of places does not, where there are some
pub ok_there : {X E P : Type 0} (r : Result X E) (n m : ℕ) → OnOk r P → OnErr r (m ≤ n) → n < m → P
ok_there (Ok x) n m p full lt = p
ok_there (Err e) n m p full lt = absurd (omega (arith, full))

pub some_there : {X P : Type 0} (o : Option X) → OnSome o P → IsSome o → P
some_there (Some x) p some = p
some_there None p some = cc

module _ {K : Type 0} (number : K → ℕ) where
  all_apart : (P : ℕ → Type 0) (ks : List K) → AllByRecursion P (map number ks) → AllByRecursion (λ k. P (number k)) ks
  all_apart P [] h = tt
  all_apart P (k ∷ ks) h = (h.0, all_apart P ks h.1)

  all_numbers : (P : ℕ → Type 0) (ks : List K) → AllByRecursion (λ k. P (number k)) ks → AllByRecursion P (map number ks)
  all_numbers P [] h = tt
  all_numbers P (k ∷ ks) h = (h.0, all_numbers P ks h.1)

  pub numbers_rise : (ks : List K) → EachPair (λ (x : ℕ) (y : ℕ). x < y) (map number ks) → EachPair (λ a b. number a < number b) ks
  numbers_rise [] r = tt
  numbers_rise (k ∷ ks) r = (all_apart (λ n. number k < n) ks r.0, numbers_rise ks r.1)

  take_numbers : (n : ℕ) (ks : List K) → map number (take n ks) ≡ take n (map number ks)
  take_numbers zero ks = refl
  take_numbers (suc n) [] = refl
  take_numbers (suc n) (k ∷ ks) = ap (λ ns. number k ∷ ns) (take_numbers n ks)

  drop_numbers : (n : ℕ) (ks : List K) → map number (drop n ks) ≡ drop n (map number ks)
  drop_numbers zero ks = refl
  drop_numbers (suc n) [] = refl
  drop_numbers (suc n) (k ∷ ks) = drop_numbers n ks

  pub split_numbers : (key : ℕ) (ks : List K) (n : ℕ) → IsSplitBy (λ k. nat_lt (number k) key) ks n → IsSplitBy (λ k. nat_lt k key) (map number ks) n
  split_numbers key ks n s = record {
    bound = omega (arith, s.bound, length-map ks number);
    passed = subst (λ (ns : List ℕ). AllByRecursion (λ k. nat_lt k key ≡ true) ns) (take_numbers n ks) (all_numbers (λ k. nat_lt k key ≡ true) (take n ks) s.passed);
    failed = subst (λ (ns : List ℕ). AllByRecursion (λ k. nat_lt k key ≡ false) ns) (drop_numbers n ks) (all_numbers (λ k. nat_lt k key ≡ false) (drop n ks) s.failed);
  }

  pub insert_numbers : (ks : List K) (n : ℕ) (k : K) → map number (insert ks n k) ≡ insert (map number ks) n (number k)
  insert_numbers [] zero k = refl
  insert_numbers [] (suc n) k = refl
  insert_numbers (j ∷ ks) zero k = refl
  insert_numbers (j ∷ ks) (suc n) k = ap (λ ns. number j ∷ ns) (insert_numbers ks n k)

  pub remove_numbers : (ks : List K) (n : ℕ) → map number (remove ks n) ≡ remove (map number ks) n
  remove_numbers [] zero = refl
  remove_numbers [] (suc n) = refl
  remove_numbers (j ∷ ks) zero = refl
  remove_numbers (j ∷ ks) (suc n) = ap (λ ns. number j ∷ ns) (remove_numbers ks n)

  -- each row has a least key
  pub firsts_long : {T : Type 0} (ks : List K) (rows : List (List (KeyValue T))) → AreInRows (map number ks) rows → length ks ≡ length rows
  firsts_long ks rows h = sym (length-map ks number) ∙ ap length h.firsts_are ∙ length-map rows least_key
