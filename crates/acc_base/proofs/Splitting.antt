-- Lists whose first elements pass a test and whose others fail it: where a search by halves ends.
use Rattle.std.proofs.Common.{ℕ, zero, suc, ◌≡◌, ◌<◌, ◌≤◌, Bool, true, false, List, [], ◌∷◌, length, get_or, take, drop, arith}
use Rattle.std.specs.List.{AllByRecursion}
use Rattle.std.specs.List.Sorted.{IsPartitionPoint, IsPartitionedBy}
use Rattle.acc_base.specs.Accounts.{EachPair}
use Rattle.acc_base.specs.Splits.{IsSplitBy}

-- what holds at each of the first places holds of the first elements
all_front : {X : Type 0} (P : X → Type 0) (xs : List X) (i : ℕ) → ((k : ℕ) (d : X) → k < i → P (get_or xs k d)) → AllByRecursion P (take i xs)
all_front P [] zero h = tt
all_front P (x ∷ xs) (suc i) h = (h 0 x (omega arith), all_front P xs i (λ k d lt. h (suc k) d (omega arith)))
all_front P _ _ h = tt

-- and at each of the last places of the others
all_back : {X : Type 0} (P : X → Type 0) (xs : List X) (i : ℕ) → ((k : ℕ) (d : X) → i ≤ k → k < length xs → P (get_or xs k d)) → AllByRecursion P (drop i xs)
all_back P [] zero h = tt
all_back P [] (suc i) h = tt
all_back P (x ∷ xs) zero h = (h 0 x (omega arith) (omega arith), all_back P xs 0 (λ k d le lt. h (suc k) d (omega arith) (omega arith)))
all_back P (x ∷ xs) (suc i) h = all_back P xs i (λ k d le lt. h (suc k) d (omega arith) (omega arith))

-- what holds of all elements holds at each place
pub all_at : {X : Type 0} (P : X → Type 0) (xs : List X) (i : ℕ) (d : X) → i < length xs → AllByRecursion P xs → P (get_or xs i d)
all_at P [] i d lt h = absurd (omega arith)
all_at P (x ∷ xs) zero d lt h = h.0
all_at P (x ∷ xs) (suc i) d lt h = all_at P xs i d (omega arith) h.1

-- a test that each element before a passing one passes parts the list, as a search by halves asks
pub parted : {X : Type 0} (test : X → Bool) (xs : List X) → EachPair (λ x y. test y ≡ true → test x ≡ true) xs → IsPartitionedBy test xs
parted test (x ∷ xs) h zero zero d le lt e = e
parted test (x ∷ xs) h zero (suc j) d le lt e = all_at (λ y. test y ≡ true → test x ≡ true) xs j d (omega arith) h.0 e
parted test (x ∷ xs) h (suc i) (suc j) d le lt e = parted test xs h.1 i j d (omega arith) (omega arith) e
parted test _ h _ _ d le lt e = absurd (omega arith)

-- where it ends
pub split : {X : Type 0} (test : X → Bool) (xs : List X) (i : ℕ) → i ≤ length xs → IsPartitionPoint (λ x. test x ≡ true) (λ x. test x ≡ false) xs i → IsSplitBy test xs i
split test xs i bound parts = record {
  bound = bound;
  passed = all_front (λ x. test x ≡ true) xs i (λ k d lt. parts.0 k d (omega arith) lt);
  failed = all_back (λ x. test x ≡ false) xs i (λ k d le lt. parts.1 k d le lt);
}
