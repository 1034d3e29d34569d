-- The holes from a place on.
use Rattle.std.proofs.Common.{◌≡◌, ℕ, ◌+◌, ◌<◌, ◌≤◌, refl, sym, ap, ◌∙◌, Bool, true, false, cond, List, [], ◌∷◌, Some, None, arith}
use Rattle.std.specs.Prelude.{find, nat_le}
use Rattle.std.proofs.lemmas.Bool.Decides.{nat_tests}
use Rattle.acc_base.specs.Holes.{IsRising}
use Rattle.acc_placement.specs.HoleIter.{holes_from}

-- all of them, where none is before the place
pub all_holes_from : (from low : ℕ) (hs : List (ℕ × ℕ)) (high : ℕ) → from ≤ low → IsRising low hs high → holes_from from hs ≡ hs
all_holes_from from low [] high le s = refl
all_holes_from from low (h ∷ hs) high le s =
    let below : from ≤ h.0 = omega (arith, s.0) in
    let t : nat_le from h.0 ≡ true = grind (arith, nat_tests) in
    rw t (ap (λ k. h ∷ k) (all_holes_from from (h.0 + h.1 + 1) hs high (omega arith) s.3))

pub no_hole_from : (from : ℕ) (hs : List (ℕ × ℕ)) → find (λ h. nat_le from h.0) hs ≡ None → holes_from from hs ≡ []
no_hole_from from [] none = refl
no_hole_from from (h ∷ hs) none = go (nat_le from h.0) none (λ k. no_hole_from from hs k)
  where
    go : (b : Bool) → cond b (Some h) (find (λ h. nat_le from h.0) hs) ≡ None → (find (λ h. nat_le from h.0) hs ≡ None → holes_from from hs ≡ []) → cond b (h ∷ holes_from from hs) (holes_from from hs) ≡ []
    go true k later = cc
    go false k later = later k

-- a hole that is found there lies between the bounds
pub hole_found_from : (from low : ℕ) (hs : List (ℕ × ℕ)) (high : ℕ) (y : ℕ × ℕ) → IsRising low hs high → find (λ h. nat_le from h.0) hs ≡ Some y → (low ≤ y.0) × (y.0 < high)
hole_found_from from low [] high y s is = cc
hole_found_from from low (h ∷ hs) high y s is = go (nat_le from h.0) is (λ k. hole_found_from from (h.0 + h.1 + 1) hs high y s.3 k)
  where
    go : (b : Bool) → cond b (Some h) (find (λ h. nat_le from h.0) hs) ≡ Some y → (find (λ h. nat_le from h.0) hs ≡ Some y → (h.0 + h.1 + 1 ≤ y.0) × (y.0 < high)) → (low ≤ y.0) × (y.0 < high)
    go true k later = let same : h ≡ y = cc in rw (← same) (s.0, omega (arith, s.1, s.2))
    go false k later = let r = later k in (omega (arith, s.0, r.0), r.1)

-- the first of them, and those behind it
pub rest_from : (from low : ℕ) (hs : List (ℕ × ℕ)) (high : ℕ) (y : ℕ × ℕ) → IsRising low hs high → find (λ h. nat_le from h.0) hs ≡ Some y → holes_from from hs ≡ y ∷ holes_from (y.0 + 1) hs
rest_from from low [] high y s is = cc
rest_from from low (h ∷ hs) high y s is = go (nat_le from h.0) refl is (λ k. rest_from from (h.0 + h.1 + 1) hs high y s.3 k)
  where
    go : (b : Bool) → nat_le from h.0 ≡ b → cond b (Some h) (find (λ h. nat_le from h.0) hs) ≡ Some y → (find (λ h. nat_le from h.0) hs ≡ Some y → holes_from from hs ≡ y ∷ holes_from (y.0 + 1) hs) → cond b (h ∷ holes_from from hs) (holes_from from hs) ≡ y ∷ cond (nat_le (y.0 + 1) h.0) (h ∷ holes_from (y.0 + 1) hs) (holes_from (y.0 + 1) hs)
    go true t k later =
        let same : h ≡ y = cc in
        let u : nat_le (h.0 + 1) h.0 ≡ false = grind (arith, nat_tests) in
        let le : from ≤ h.0 = grind (arith, nat_tests) in
        rw (← same) (rw u (ap (λ z. h ∷ z) (all_holes_from from (h.0 + h.1 + 1) hs high (omega arith) s.3 ∙ sym (all_holes_from (h.0 + 1) (h.0 + h.1 + 1) hs high (omega arith) s.3))))
    go false t k later =
        let r = hole_found_from from (h.0 + h.1 + 1) hs high y s.3 k in
        let more : h.0 < y.0 + 1 = omega (arith, r.0) in
        let u : nat_le (y.0 + 1) h.0 ≡ false = grind (arith, nat_tests) in
        rw u (later k)
