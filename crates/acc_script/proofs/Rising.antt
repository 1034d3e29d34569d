-- What stands by rising place, found one after the other: the lowest from a place on, and then what stands above it.
use Rattle.std.proofs.Common.{◌≡◌, ℕ, ◌+◌, ◌<◌, ◌≤◌, Bool, true, false, cond, List, [], ◌∷◌, ◌++◌, Option, Some, None, refl, ap, subst, ◌∙◌, arith}
use Rattle.std.specs.Prelude.{nat_le, filter, find, option_map}
use Rattle.std.specs.List.{AllByRecursion, flat_map}
use Rattle.std.proofs.lemmas.Bool.{leb-true, leb-false, le-leb, lt-leb}
use Rattle.std.proofs.lemmas.List.Concat.{flat_map-cons}
use Rattle.acc_base.proofs.Elements.{AllByRecursion-weaker, find_passes}
use Rattle.acc_base.specs.Accounts.{EachPair}

module _ {X Y : Type 0} (view : X → Y) (place : Y → ℕ) where
  -- it stands at a place or above
  abbrev pub stands_from : ℕ → X → Bool
  stands_from from x = nat_le from (place (view x))

  -- the one stands lower
  abbrev pub StandsUnder : X → X → Type 0
  StandsUnder x y = place (view x) < place (view y)

  -- all of them, where none stands below
  all_kept : (from : ℕ) (xs : List X) → AllByRecursion (λ x. from ≤ place (view x)) xs → filter (stands_from from) xs ≡ xs
  all_kept from [] h = refl
  all_kept from (x ∷ xs) h = rw (le-leb from (place (view x)) h.0) (ap (λ (ys : List X). x ∷ ys) (all_kept from xs h.1))

  -- nothing stands below the least place
  pub all_from_zero : (xs : List X) → filter (stands_from 0) xs ≡ xs
  all_from_zero [] = refl
  all_from_zero (x ∷ xs) = rw (le-leb 0 (place (view x)) (omega arith)) (ap (λ (ys : List X). x ∷ ys) (all_from_zero xs))

  -- what is found from a place on stands there or above
  pub found_above : (from : ℕ) (x : X) (xs : List X) → find (stands_from from) xs ≡ Some x → from ≤ place (view x)
  found_above from x xs e = leb-true from (place (view x)) (rw e at (find_passes (stands_from from) xs)).1

  -- of those that rise, those from a place on are the first there and those above it
  next_kept : (from : ℕ) (x : X) (xs : List X) → EachPair StandsUnder xs → find (stands_from from) xs ≡ Some x
      → filter (stands_from from) xs ≡ x ∷ filter (stands_from (place (view x) + 1)) xs
  next_kept from x [] rising e = absurd cc
  next_kept from x (y ∷ ys) rising e = by (next_kept from x ys rising.1) (stands_from from y) refl e
    where
      here : from ≤ place (view y) → y ∷ filter (stands_from from) ys ≡ y ∷ filter (stands_from (place (view y) + 1)) (y ∷ ys)
      here low = rw (all_kept from ys (AllByRecursion-weaker (StandsUnder y) (λ z. from ≤ place (view z)) ys (λ z under. omega arith) rising.0), lt-leb (place (view y) + 1) (place (view y)) (omega arith), all_kept (place (view y) + 1) ys (AllByRecursion-weaker (StandsUnder y) (λ z. place (view y) + 1 ≤ place (view z)) ys (λ z under. omega arith) rising.0)) refl

      by : (find (stands_from from) ys ≡ Some x → filter (stands_from from) ys ≡ x ∷ filter (stands_from (place (view x) + 1)) ys)
          → (t : Bool) → stands_from from y ≡ t → cond t (Some y) (find (stands_from from) ys) ≡ Some x
          → cond t (y ∷ filter (stands_from from) ys) (filter (stands_from from) ys)
          ≡ x ∷ filter (stands_from (place (view x) + 1)) (y ∷ ys)
      by others true u h =
          let same : y ≡ x = cc in
          subst (λ (z : X). y ∷ filter (stands_from from) ys ≡ z ∷ filter (stands_from (place (view z) + 1)) (y ∷ ys)) same (here (leb-true from (place (view y)) u))
      by others false u h =
          let above : from ≤ place (view x) = found_above from x ys h in
          let below : place (view y) < from = leb-false from (place (view y)) u in
          rw (lt-leb (place (view x) + 1) (place (view y)) (omega arith)) (others h)

  -- none of them, where a search from a place on finds none
  none_kept : (from : ℕ) (xs : List X) → find (stands_from from) xs ≡ None → filter (stands_from from) xs ≡ []
  none_kept from [] e = refl
  none_kept from (x ∷ xs) e =
      elim (stands_from from x) as (λ t. cond t (Some x) (find (stands_from from) xs) ≡ None → cond t (x ∷ filter (stands_from from) xs) (filter (stands_from from) xs) ≡ []) [
        | true ↦ λ h. absurd cc
        | false ↦ none_kept from xs
      ] e

  module _ (text : Y → List ℕ) (xs : List X) where
    -- the texts of those from a place on
    abbrev pub texts_from : ℕ → List ℕ
    texts_from from = flat_map (λ x. text (view x)) (filter (stands_from from) xs)

    -- they are the text of the first, and of those above it
    pub texts_turn : (from : ℕ) (x : X) (y : Y) → EachPair StandsUnder xs → find (stands_from from) xs ≡ Some x → view x ≡ y
        → texts_from from ≡ text y ++ texts_from (place y + 1)
    texts_turn from x y rising found seen =
        subst (λ (z : Y). texts_from from ≡ text z ++ texts_from (place z + 1)) seen (ap (flat_map (λ x. text (view x))) (next_kept from x xs rising found) ∙ flat_map-cons (λ x. text (view x)) x (filter (stands_from (place (view x) + 1)) xs))

    -- they are none where none is found
    pub texts_none : (from : ℕ) → find (stands_from from) xs ≡ None → texts_from from ≡ []
    texts_none from none = ap (flat_map (λ x. text (view x))) (none_kept from xs none)

-- what a look-up found, seen by a view
pub found_view : {X Y : Type 0} (view : X → Y) (o : Option X) (y : Y) → Some y ≡ option_map view o
    → (x : X) × (o ≡ Some x) × (view x ≡ y)
found_view view None y e = absurd cc
found_view view (Some x) y e = (x, refl, cc)

-- a look-up that found nothing, without its view
pub found_none : {X Y : Type 0} (view : X → Y) (o : Option X) → None ≡ option_map view o → o ≡ None
found_none view None e = refl
found_none view (Some x) e = absurd cc
