-- Places outside of listed ranges.
use Rattle.std.proofs.Common.{◌≡◌, ℕ, suc, ◌+◌, ◌<◌, ◌≤◌, ◌⊎◌, List, [], ◌∷◌, inl, inr, arith, subst, sym, length, get_or}
use Rattle.std.specs.Prelude.{All, Any}
use Rattle.std.proofs.lemmas.Bool.{cases_lt}
use Rattle.acc_base.specs.Blocks.{rounded}
use Rattle.acc_base.specs.Holes.{IsIn, IsRising}
use Rattle.acc_base.specs.Section.{Spans}
use Rattle.acc_placement.specs.Ranges.{IsFit, IsFitBeside, IsLeastFitBeside, IsTakeBelow, all_rounded}
use Rattle.std.proofs.Common.{zero}
use Rattle.acc_placement.specs.Changes.{IsBeside}
use Rattle.acc_placement.proofs.Rising.{fit_step, in_bounds}

-- a place that is clear of each listed range is outside of all
pub beside_all : (ts : List (ℕ × ℕ)) (n q : ℕ) → All (λ t. (q + n ≤ t.0) ⊎ (t.0 + rounded t.1 ≤ q)) ts → IsBeside ts n q
beside_all [] n q out a w i = i
beside_all (t ∷ ts) n q out a w (inl i) = elim (out 0 t (omega arith)) [ inl x ↦ omega arith | inr x ↦ omega arith ]
beside_all (t ∷ ts) n q out a w (inr i) = beside_all ts n q (λ k d lt. out (suc k) d (omega arith)) a w i

-- a length is at most its rounded one
pub le-rounded : (n : ℕ) → n ≤ rounded n
le-rounded n = omega arith

-- an address of a listed range, rounded up, is in the ranges that are taken for the list
in_rounded : (ts : List (ℕ × ℕ)) (k : ℕ) (t : ℕ × ℕ) (a : ℕ) → k < length ts → get_or ts k t ≡ t → Spans t.0 (rounded t.1) a → IsIn (all_rounded ts) a
in_rounded [] k t a lt e w = absurd (omega arith)
in_rounded (h ∷ ts) zero t a lt e w = inl (subst (λ (x : ℕ × ℕ). Spans x.0 (rounded x.1) a) (sym e) w)
in_rounded (h ∷ ts) (suc k) t a lt e w = inr (in_rounded ts k t a (omega arith) e w)

-- the end of a range that has an address of a place: how far the place moves
pub moved : (ts : List (ℕ × ℕ)) (n at end top : ℕ) → Any (λ t. (end ≡ t.0 + rounded t.1) × (t.0 < at + n) × (at < end)) ts → All (IsTakeBelow top) ts → 0 < n → (at < end) × (end ≤ top) × ((q : ℕ) → at ≤ q → IsBeside ts n q → end ≤ q)
moved ts n at end top (k, t, lt, is, p) fits pos =
    let f : IsTakeBelow top t = subst (IsTakeBelow top) is (fits k t lt) in
    let r = le-rounded t.1 in (
      p.2,
      omega (arith, p.0, f.1),
      λ q le out. elim (cases_lt q end) [
        | inl less ↦ elim (cases_lt q t.0) [
          | inl before ↦ absurd (out t.0 (omega arith, omega (arith, p.1)) (in_rounded ts k t t.0 lt is (omega arith, omega (arith, p.0, f.0.0))))
          | inr behind ↦ absurd (out q (omega arith, omega arith) (in_rounded ts k t q lt is (behind, omega (arith, p.0))))
        ]
        | inr more ↦ more
      ],
    )

-- one step along the holes that are left
pub tried : (low : ℕ) (x : ℕ × ℕ) (rest : List (ℕ × ℕ)) (high : ℕ) (hs ts : List (ℕ × ℕ)) (n place : ℕ) → 0 < n → IsRising low (x ∷ rest) high → x.0 + x.1 < place + n → ((q : ℕ) → x.0 ≤ q → IsBeside ts n q → place ≤ q) → ((q : ℕ) → IsFitBeside hs (all_rounded ts) n q → IsFit (x ∷ rest) n q) → (q : ℕ) → IsFitBeside hs (all_rounded ts) n q → IsFit rest n q
tried low x rest high hs ts n place pos s small least so_far q f = elim (fit_step low x rest high n q pos s (so_far q f)) [
  | inl w ↦ let l = least q w.0 (λ a v. (f a v).1) in absurd (omega arith)
  | inr h ↦ h
]

-- the place at which the walk along them stops is the least
pub fit_found : (low : ℕ) (x : ℕ × ℕ) (rest : List (ℕ × ℕ)) (high : ℕ) (hs ts : List (ℕ × ℕ)) (n place : ℕ) → 0 < n → IsRising low (x ∷ rest) high → ((a : ℕ) → IsIn (x ∷ rest) a → IsIn hs a) → x.0 ≤ place → place + n ≤ x.0 + x.1 → IsBeside ts n place → ((q : ℕ) → x.0 ≤ q → IsBeside ts n q → place ≤ q) → ((q : ℕ) → IsFitBeside hs (all_rounded ts) n q → IsFit (x ∷ rest) n q) → IsLeastFitBeside hs (all_rounded ts) n place
fit_found low x rest high hs ts n place pos s sub ge fits outside least so_far = (
  λ a w. (sub a (inl (omega arith, omega arith)), outside a w),
  λ q f. elim (so_far q f q (omega arith, omega arith)) [
    | inl w ↦ least q w.0 (λ a v. (f a v).1)
    | inr j ↦ let r : (x.0 + x.1 + 1 ≤ q) × (q < high) = in_bounds (x.0 + x.1 + 1) rest high q s.3 j in omega arith
  ],
)
