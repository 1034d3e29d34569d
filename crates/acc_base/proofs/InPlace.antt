-- Lists with a new element before the first one that it stands before.
use Rattle.std.proofs.Common.{◌≡◌, refl, ap, Bool, true, false, cond, List, [], ◌∷◌, ◌++◌, Some, None}
use Rattle.std.specs.Prelude.{find, IsSome}
use Rattle.std.specs.List.{AllByRecursion}
use Rattle.acc_base.specs.Accounts.{EachPair}
use Rattle.acc_base.proofs.Elements.{AllByRecursion-weaker}

-- what puts the element there
pub record IsPut {X : Type 0} (new : X) (first : X → Bool) (put : List X → List X) : Type 0 where
  pub alone : put [] ≡ new ∷ []
  pub among : (x : X) (xs : List X) → put (x ∷ xs) ≡ cond (first x) (new ∷ x ∷ xs) (x ∷ put xs)

module _ {X : Type 0} {new : X} {first : X → Bool} {put : List X → List X} (is : IsPut new first put) where
  -- what all have and the new one, all have then
  pub all-put : (P : X → Type 0) (xs : List X) → P new → AllByRecursion P xs → AllByRecursion P (put xs)
  all-put P [] p h = rw is.alone (p, tt)
  all-put P (x ∷ xs) p h = rw (is.among x xs) (go (all-put P xs p h.1) (first x))
    where
      go : AllByRecursion P (put xs) → (b : Bool) → AllByRecursion P (cond b (new ∷ x ∷ xs) (x ∷ put xs))
      go rest true = (p, h)
      go rest false = (h.0, rest)

  -- an order that decides the place is kept
  pub pairs-put : (R : X → X → Type 0) → ((x y : X) → R new x → R x y → R new y) → (xs : List X) → AllByRecursion (λ x. (first x ≡ true → R new x) × (first x ≡ false → R x new)) xs → EachPair R xs → EachPair R (put xs)
  pairs-put R next [] sides h = rw is.alone (tt, tt)
  pairs-put R next (x ∷ xs) sides h = rw (is.among x xs) (go (pairs-put R next xs sides.1 h.1) (first x) refl)
    where
      go : EachPair R (put xs) → (b : Bool) → first x ≡ b → EachPair R (cond b (new ∷ x ∷ xs) (x ∷ put xs))
      go rest true e = let here : R new x = sides.0.0 e in ((here, AllByRecursion-weaker (R x) (R new) xs (λ y k. next x y here k) h.0), h)
      go rest false e = (all-put (R x) xs (sides.0.1 e) h.0, rest)

  -- a search passes a new one that fails its test
  pub find-put_other : (test : X → Bool) (xs : List X) → test new ≡ false → find test (put xs) ≡ find test xs
  find-put_other test [] e = rw is.alone (rw e refl)
  find-put_other test (x ∷ xs) e = rw (is.among x xs) (go (find-put_other test xs e) (first x))
    where
      go : find test (put xs) ≡ find test xs → (b : Bool) → find test (cond b (new ∷ x ∷ xs) (x ∷ put xs)) ≡ find test (x ∷ xs)
      go rest true = rw e
      go rest false = ap (λ o. cond (test x) (Some x) o) rest

  -- and finds one that passes it, where no other does
  pub find-put_new : (test : X → Bool) (xs : List X) → test new ≡ true → find test xs ≡ None → find test (put xs) ≡ Some new
  find-put_new test [] e none = rw is.alone (rw e refl)
  find-put_new test (x ∷ xs) e none = rw (is.among x xs) (go (find-put_new test xs e) (first x) (test x) refl none)
    where
      go : (find test xs ≡ None → find test (put xs) ≡ Some new) → (b t : Bool) → test x ≡ t → cond t (Some x) (find test xs) ≡ None → find test (cond b (new ∷ x ∷ xs) (x ∷ put xs)) ≡ Some new
      go rest b true f n = cc
      go rest true false f n = rw e
      go rest false false f n = rw f (rest n)

  -- it finds something where the new one passes
  pub is_some-put_new : (test : X → Bool) (xs : List X) → test new ≡ true → IsSome (find test (put xs))
  is_some-put_new test [] e = rw is.alone (rw e refl)
  is_some-put_new test (x ∷ xs) e = rw (is.among x xs) (go (is_some-put_new test xs e) (first x))
    where
      go : IsSome (find test (put xs)) → (b : Bool) → IsSome (find test (cond b (new ∷ x ∷ xs) (x ∷ put xs)))
      go rest true = rw e refl
      go rest false = elim (test x) as (λ t. IsSome (cond t (Some x) (find test (put xs)))) [ true ↦ refl | false ↦ rest ]

  -- and where it found something before
  pub is_some-put_there : (test : X → Bool) (xs : List X) → IsSome (find test xs) → IsSome (find test (put xs))
  is_some-put_there test [] there = cc
  is_some-put_there test (x ∷ xs) there = rw (is.among x xs) (go (is_some-put_there test xs) (first x) (test x) refl there)
    where
      go : (IsSome (find test xs) → IsSome (find test (put xs))) → (b t : Bool) → test x ≡ t → IsSome (cond t (Some x) (find test xs)) → IsSome (find test (cond b (new ∷ x ∷ xs) (x ∷ put xs)))
      go rest true t f s = elim (test new) as (λ n. IsSome (cond n (Some new) (cond (test x) (Some x) (find test xs)))) [ true ↦ refl | false ↦ rw f s ]
      go rest false true f s = rw f refl
      go rest false false f s = rw f (rest s)

  -- ---- where it stands

  -- behind all that it does not stand before
  pub put-last : (xs : List X) → AllByRecursion (λ x. first x ≡ false) xs → put xs ≡ xs ++ new ∷ []
  put-last [] h = is.alone
  put-last (x ∷ xs) h = rw (is.among x xs) (rw h.0 (ap (λ ys. x ∷ ys) (put-last xs h.1)))
