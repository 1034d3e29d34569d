-- The next hole that is large enough: those passed over hold no place that fits.
use Rattle.std.proofs.Common.{◌≡◌, ℕ, ◌+◌, ◌<◌, ◌≤◌, refl, sym, subst, ◌∙◌, Bool, true, false, cond, List, [], ◌∷◌, Some, None, inl, inr, arith}
use Rattle.std.specs.Prelude.{◌&&◌, find, nat_le, All, Contains, IfSome}
use Rattle.std.proofs.lemmas.List.Elements.{All-contains}
use Rattle.acc_base.proofs.Elements.{find_passes}
use Rattle.std.proofs.lemmas.Bool.Decides.{nat_tests}
use Rattle.acc_base.specs.Holes.{IsIn, IsRising}
use Rattle.acc_placement.specs.Ranges.{IsFit, IsAligned}
use Rattle.acc_placement.specs.HoleIter.{holes_from}
use Rattle.acc_placement.proofs.Rising.{fit_step, rising_from}
use Rattle.acc_placement.proofs.Rest.{all_holes_from}

-- the next hole of so many addresses from a place on, and those behind it
pub record IsNextFit (from n low : ℕ) (hs : List (ℕ × ℕ)) (high : ℕ) (y : ℕ × ℕ) : Type 0 where
  pub first : low ≤ y.0
  pub not_before : from ≤ y.0
  pub large : n ≤ y.1
  pub last : y.0 + y.1 ≤ high
  pub rising : IsRising low (y ∷ holes_from (y.0 + 1) hs) high
  pub sub : (a : ℕ) → IsIn (y ∷ holes_from (y.0 + 1) hs) a → IsIn hs a
  pub fits : (q : ℕ) → IsFit (holes_from from hs) n q → IsFit (y ∷ holes_from (y.0 + 1) hs) n q

-- a first hole that lies before is none of those from a place on
skip_first : (a : ℕ) (h : ℕ × ℕ) (hs : List (ℕ × ℕ)) → h.0 < a → holes_from a (h ∷ hs) ≡ holes_from a hs
skip_first a h hs less = let t : nat_le a h.0 ≡ false = grind (arith, nat_tests) in rw t refl

-- so it is passed over
hole_passed : (from n low : ℕ) (h : ℕ × ℕ) (hs : List (ℕ × ℕ)) (high : ℕ) (y : ℕ × ℕ) → IsRising low (h ∷ hs) high → IsNextFit from n (h.0 + h.1 + 1) hs high y
    → ((q : ℕ) → IsFit (holes_from from (h ∷ hs)) n q → IsFit (holes_from from hs) n q) → IsNextFit from n low (h ∷ hs) high y
hole_passed from n low h hs high y s later fewer =
    let first = later.first in
    let same = skip_first (y.0 + 1) h hs (omega arith) in
    record {
      first = omega (arith, s.0);
      not_before = later.not_before;
      large = later.large;
      last = later.last;
      rising = rw same (rising_from (h.0 + h.1 + 1) low (y ∷ holes_from (y.0 + 1) hs) high (omega (arith, s.0)) later.rising);
      sub = λ a i. inr (later.sub a (subst (λ (k : List (ℕ × ℕ)). IsIn (y ∷ k) a) same i));
      fits = λ q f. subst (λ (k : List (ℕ × ℕ)). IsFit (y ∷ k) n q) (sym same) (later.fits q (fewer q f));
    }

pub next_fit : (from n low : ℕ) (hs : List (ℕ × ℕ)) (high : ℕ) (y : ℕ × ℕ) → 0 < n → IsRising low hs high → find (λ h. nat_le from h.0 && nat_le n h.1) hs ≡ Some y → IsNextFit from n low hs high y
next_fit from n low [] high y pos s is = cc
next_fit from n low (h ∷ hs) high y pos s is = go (nat_le from h.0) refl (nat_le n h.1) refl is (λ k. next_fit from n (h.0 + h.1 + 1) hs high y pos s.3 k)
  where
    go : (b : Bool) → nat_le from h.0 ≡ b → (d : Bool) → nat_le n h.1 ≡ d → cond (b && d) (Some h) (find (λ h. nat_le from h.0 && nat_le n h.1) hs) ≡ Some y
        → (find (λ h. nat_le from h.0 && nat_le n h.1) hs ≡ Some y → IsNextFit from n (h.0 + h.1 + 1) hs high y) → IsNextFit from n low (h ∷ hs) high y
    go false t d u k later = hole_passed from n low h hs high y s (later k) (λ q f. subst (λ (x : List (ℕ × ℕ)). IsFit x n q) (skip_first from h hs (grind (arith, nat_tests))) f)
    go true t false u k later =
        let small : h.1 < n = grind (arith, nat_tests) in
        let kept : holes_from from (h ∷ hs) ≡ h ∷ hs = all_holes_from from h.0 (h ∷ hs) high (grind (arith, nat_tests)) (omega arith, s.1, s.2, s.3) in
        let rest : holes_from from hs ≡ hs = all_holes_from from (h.0 + h.1 + 1) hs high (grind (arith, nat_tests)) s.3 in
        hole_passed from n low h hs high y s (later k) (λ q f. subst (λ (x : List (ℕ × ℕ)). IsFit x n q) (sym rest) (elim (fit_step low h hs high n q pos s (subst (λ (x : List (ℕ × ℕ)). IsFit x n q) kept f)) [
          | inl w ↦ absurd (omega (arith, w.0, w.1))
          | inr g ↦ g
        ]))
    go true t true u k later = let is : h ≡ y = cc in subst (IsNextFit from n low (h ∷ hs) high) is here
      where
        behind : holes_from (h.0 + 1) (h ∷ hs) ≡ hs
        behind = skip_first (h.0 + 1) h hs (omega arith) ∙ all_holes_from (h.0 + 1) (h.0 + h.1 + 1) hs high (omega arith) s.3

        here : IsNextFit from n low (h ∷ hs) high h
        here =
            let kept : holes_from from (h ∷ hs) ≡ h ∷ hs = all_holes_from from h.0 (h ∷ hs) high (grind (arith, nat_tests)) (omega arith, s.1, s.2, s.3) in
            record {
              first = s.0;
              not_before = grind (arith, nat_tests);
              large = grind (arith, nat_tests);
              last = s.2;
              rising = rw behind s;
              sub = λ a i. subst (λ (k : List (ℕ × ℕ)). IsIn (h ∷ k) a) behind i;
              fits = λ q f. subst (λ (k : List (ℕ × ℕ)). IsFit (h ∷ k) n q) (sym behind) (subst (λ (x : List (ℕ × ℕ)). IsFit x n q) kept f);
            }

-- where there is none, no place fits
pub no_fit : (from n low : ℕ) (hs : List (ℕ × ℕ)) (high q : ℕ) → 0 < n → IsRising low hs high → find (λ h. nat_le from h.0 && nat_le n h.1) hs ≡ None → IsFit (holes_from from hs) n q → ⊥
no_fit from n low [] high q pos s none f = f q (omega arith, omega arith)
no_fit from n low (h ∷ hs) high q pos s none f = go (nat_le from h.0) refl (nat_le n h.1) refl none (λ k g. no_fit from n (h.0 + h.1 + 1) hs high q pos s.3 k g)
  where
    go : (b : Bool) → nat_le from h.0 ≡ b → (d : Bool) → nat_le n h.1 ≡ d → cond (b && d) (Some h) (find (λ h. nat_le from h.0 && nat_le n h.1) hs) ≡ None
        → (find (λ h. nat_le from h.0 && nat_le n h.1) hs ≡ None → IsFit (holes_from from hs) n q → ⊥) → ⊥
    go false t d u k later = later k (subst (λ (x : List (ℕ × ℕ)). IsFit x n q) (skip_first from h hs (grind (arith, nat_tests))) f)
    go true t true u k later = cc
    go true t false u k later =
        let small : h.1 < n = grind (arith, nat_tests) in
        let kept : holes_from from (h ∷ hs) ≡ h ∷ hs = all_holes_from from h.0 (h ∷ hs) high (grind (arith, nat_tests)) (omega arith, s.1, s.2, s.3) in
        let rest : holes_from from hs ≡ hs = all_holes_from from (h.0 + h.1 + 1) hs high (grind (arith, nat_tests)) s.3 in
        later k (subst (λ (x : List (ℕ × ℕ)). IsFit x n q) (sym rest) (elim (fit_step low h hs high n q pos s (subst (λ (x : List (ℕ × ℕ)). IsFit x n q) kept f)) [
          | inl w ↦ absurd (omega (arith, w.0, w.1))
          | inr g ↦ g
        ]))

-- a hole that is found is a multiple of 16
pub aligned_there : (p : ℕ × ℕ → Bool) (hs : List (ℕ × ℕ)) (y : ℕ × ℕ) → All IsAligned hs → find p hs ≡ Some y → IsAligned y
aligned_there p hs y a is = All-contains IsAligned hs y a (subst (λ o. IfSome o (λ x. Contains hs x × (p x ≡ true))) is (find_passes p hs)).0
