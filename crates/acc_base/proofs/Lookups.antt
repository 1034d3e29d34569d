-- Look-ups by a number in a list whose elements have one, after each change of the list.
use Rattle.std.proofs.Common.{ℕ, ◌≡◌, refl, ◌∙◌, ap, Bool, true, false, cond, List, [], ◌∷◌, ◌++◌, Option, Some, None, arith}
use Rattle.std.specs.Prelude.{◌==◌, map, find, filter, not, option_map}
use Rattle.std.specs.List.{AllByRecursion}
use Rattle.std.proofs.lemmas.Bool.Decides.{nat_tests}
use Rattle.acc_base.specs.Accounts.{EachPair}
use Rattle.acc_base.proofs.Results.{equal, equal_self}
use Rattle.acc_base.proofs.Elements.{AllByRecursion-both}

module _ {X : Type 0} (number : X → ℕ) where
  -- the element of a number
  abbrev pub at : ℕ → List X → Option X
  at k xs = find (λ x. number x == k) xs

  -- ---- without an element

  pub at-without_same : (k : ℕ) (xs : List X) → at k (filter (λ x. not (number x == k)) xs) ≡ None
  at-without_same k [] = refl
  at-without_same k (x ∷ xs) = go (at-without_same k xs) (number x == k) refl
    where
      go : at k (filter (λ x. not (number x == k)) xs) ≡ None → (b : Bool) → (number x == k) ≡ b → at k (cond (not b) (x ∷ filter (λ x. not (number x == k)) xs) (filter (λ x. not (number x == k)) xs)) ≡ None
      go rest true e = rest
      go rest false e = rw e rest

  pub at-without_other : (k j : ℕ) (xs : List X) → (j == k) ≡ false → at j (filter (λ x. not (number x == k)) xs) ≡ at j xs
  at-without_other k j [] d = refl
  at-without_other k j (x ∷ xs) d = go (at-without_other k j xs d) (number x == k) refl (number x == j) refl
    where
      go : at j (filter (λ x. not (number x == k)) xs) ≡ at j xs → (b : Bool) → (number x == k) ≡ b → (c : Bool) → (number x == j) ≡ c
          → at j (cond (not b) (x ∷ filter (λ x. not (number x == k)) xs) (filter (λ x. not (number x == k)) xs)) ≡ cond c (Some x) (at j xs)
      go rest true e true f = absurd (grind (arith, nat_tests))
      go rest true e false f = rest
      go rest false e true f = rw f
      go rest false e false f = rw f rest

  -- ---- one element more at the end

  pub at-push_there : (j : ℕ) (xs : List X) (x y : X) → at j xs ≡ Some y → at j (xs ++ x ∷ []) ≡ Some y
  at-push_there j [] x y e = cc
  at-push_there j (z ∷ zs) x y e = go (at-push_there j zs x y) (number z == j) e
    where
      go : (at j zs ≡ Some y → at j (zs ++ x ∷ []) ≡ Some y) → (b : Bool) → cond b (Some z) (at j zs) ≡ Some y → cond b (Some z) (at j (zs ++ x ∷ [])) ≡ Some y
      go rest true h = h
      go rest false h = rest h

  pub at-push_new : (xs : List X) (x : X) → at (number x) xs ≡ None → at (number x) (xs ++ x ∷ []) ≡ Some x
  at-push_new [] x e = rw (equal_self (number x))
  at-push_new (z ∷ zs) x e = go (at-push_new zs x) (number z == number x) e
    where
      go : (at (number x) zs ≡ None → at (number x) (zs ++ x ∷ []) ≡ Some x) → (b : Bool) → cond b (Some z) (at (number x) zs) ≡ None → cond b (Some z) (at (number x) (zs ++ x ∷ [])) ≡ Some x
      go rest true h = cc
      go rest false h = rest h

  -- ---- a change of one element that keeps its number

  -- the change of the element of a number
  abbrev pub change_at : ℕ → (X → X) → X → X
  change_at k f x = cond (number x == k) (f x) x

  pub number-change : (k : ℕ) (f : X → X) → ((x : X) → number (f x) ≡ number x) → (x : X) → number (change_at k f x) ≡ number x
  number-change k f keeps x = go (number x == k)
    where
      go : (b : Bool) → number (cond b (f x) x) ≡ number x
      go true = keeps x
      go false = refl

  pub at-changed : (k j : ℕ) (f : X → X) (xs : List X) → ((x : X) → number (f x) ≡ number x) → at j (map (change_at k f) xs) ≡ option_map (change_at k f) (at j xs)
  at-changed k j f [] keeps = refl
  at-changed k j f (x ∷ xs) keeps = ap (λ n. cond (n == j) (Some (change_at k f x)) (at j (map (change_at k f) xs))) (number-change k f keeps x) ∙ go (at-changed k j f xs keeps) (number x == j)
    where
      go : at j (map (change_at k f) xs) ≡ option_map (change_at k f) (at j xs) → (b : Bool) → cond b (Some (change_at k f x)) (at j (map (change_at k f) xs)) ≡ option_map (change_at k f) (cond b (Some x) (at j xs))
      go rest true = refl
      go rest false = rest

  -- ---- numbers that differ

  abbrev pub AreDistinct : List X → Type 0
  AreDistinct xs = EachPair (λ x y. number x ≡ number y → ⊥) xs

  -- each element is the one of its number
  pub at-own : (xs : List X) → AreDistinct xs → AllByRecursion (λ x. at (number x) xs ≡ Some x) xs
  at-own [] h = tt
  at-own (x ∷ xs) h = (rw (equal_self (number x)), AllByRecursion-both (λ y. number x ≡ number y → ⊥) (λ y. at (number y) xs ≡ Some y) (λ y. at (number y) (x ∷ xs) ≡ Some y) xs (λ y other own. skip y other own) h.0 (at-own xs h.1))
    where
      skip : (y : X) → (number x ≡ number y → ⊥) → at (number y) xs ≡ Some y → cond (number x == number y) (Some x) (at (number y) xs) ≡ Some y
      skip y other own = go (number x == number y) refl
        where
          go : (b : Bool) → (number x == number y) ≡ b → cond b (Some x) (at (number y) xs) ≡ Some y
          go true e = absurd (other (equal _ _ e))
          go false e = own

  -- a number that none has is not found
  pub at-none : (k : ℕ) (xs : List X) → AllByRecursion (λ x. number x ≡ k → ⊥) xs → at k xs ≡ None
  at-none k [] h = refl
  at-none k (x ∷ xs) h = go (at-none k xs h.1) (number x == k) refl
    where
      go : at k xs ≡ None → (b : Bool) → (number x == k) ≡ b → cond b (Some x) (at k xs) ≡ None
      go rest true e = absurd (h.0 (equal _ _ e))
      go rest false e = rest
