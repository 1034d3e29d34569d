-- Lemmas on ranges that rise.
use Rattle.std.proofs.Common.{◌≡◌, ℕ, suc, ◌+◌, ◌<◌, ◌≤◌, ◌⊎◌, List, [], ◌∷◌, ◌++◌, inl, inr, arith}
use Rattle.std.specs.Prelude.{All}
use Rattle.acc_base.specs.Holes.{IsIn, IsRising, total, IsDisjoint}
use Rattle.acc_placement.specs.Ranges.{IsFit}
use Rattle.acc_placement.specs.Changes.{end_after}

-- ranges that rise from a place rise from each lower one
pub rising_from : (b a : ℕ) (t : List (ℕ × ℕ)) (high : ℕ) → a ≤ b → IsRising b t high → IsRising a t high
rising_from b a [] high le s = tt
rising_from b a (h ∷ t) high le s = (omega arith, s.1, s.2, s.3)

-- an address of ranges that rise between two places lies between them
pub in_bounds : (low : ℕ) (t : List (ℕ × ℕ)) (high a : ℕ) → IsRising low t high → IsIn t a → (low ≤ a) × (a < high)
in_bounds low [] high a s i = absurd i
in_bounds low (h ∷ t) high a s (inl i) = (omega arith, omega arith)
in_bounds low (h ∷ t) high a s (inr i) = let r : (h.0 + h.1 + 1 ≤ a) × (a < high) = in_bounds (h.0 + h.1 + 1) t high a s.3 i in (omega arith, r.1)

-- the least place after ranges is not before the place from which they rise
pub low_le-after : (low : ℕ) (t : List (ℕ × ℕ)) (high : ℕ) → IsRising low t high → low ≤ end_after low t
low_le-after low [] high s = omega arith
low_le-after low (h ∷ t) high s = let r = low_le-after (h.0 + h.1 + 1) t high s.3 in omega arith

-- an address of ranges that rise lies more than one before the least place after them
pub before_after : (low : ℕ) (t : List (ℕ × ℕ)) (high a : ℕ) → IsRising low t high → IsIn t a → a + 1 < end_after low t
before_after low [] high a s i = absurd i
before_after low (h ∷ t) high a s (inl i) = let r = low_le-after (h.0 + h.1 + 1) t high s.3 in omega arith
before_after low (h ∷ t) high a s (inr i) = before_after (h.0 + h.1 + 1) t high a s.3 i

-- of ranges that rise the first ones do
pub rising_front : (low : ℕ) (l r : List (ℕ × ℕ)) (high : ℕ) → IsRising low (l ++ r) high → IsRising low l high
rising_front low [] r high s = tt
rising_front low (h ∷ l) r high s = (s.0, s.1, s.2, rising_front (h.0 + h.1 + 1) l r high s.3)

-- of ranges that rise the later ones do, from the least place after the first ones
pub rising_back : (low : ℕ) (l r : List (ℕ × ℕ)) (high : ℕ) → IsRising low (l ++ r) high → IsRising (end_after low l) r high
rising_back low [] r high s = s
rising_back low (h ∷ l) r high s = rising_back (h.0 + h.1 + 1) l r high s.3

-- ranges that rise, and others that rise from the least place after them, rise together
pub rising_join : (low : ℕ) (l r : List (ℕ × ℕ)) (high : ℕ) → IsRising low l high → IsRising (end_after low l) r high → IsRising low (l ++ r) high
rising_join low [] r high s u = u
rising_join low (h ∷ l) r high s u = (s.0, s.1, s.2, rising_join (h.0 + h.1 + 1) l r high s.3 u)

-- an address in the first of two lists is in both together
pub in_join_left : (l r : List (ℕ × ℕ)) (a : ℕ) → IsIn l a → IsIn (l ++ r) a
in_join_left [] r a i = absurd i
in_join_left (h ∷ l) r a (inl i) = inl i
in_join_left (h ∷ l) r a (inr i) = inr (in_join_left l r a i)

-- an address in the second of two lists is in both together
pub in_join_right : (l r : List (ℕ × ℕ)) (a : ℕ) → IsIn r a → IsIn (l ++ r) a
in_join_right [] r a i = i
in_join_right (h ∷ l) r a i = inr (in_join_right l r a i)

-- an address in two lists together is in one of them
pub in_parts : (l r : List (ℕ × ℕ)) (a : ℕ) → IsIn (l ++ r) a → IsIn l a ⊎ IsIn r a
in_parts [] r a i = inr i
in_parts (h ∷ l) r a (inl i) = inl (inl i)
in_parts (h ∷ l) r a (inr i) = elim (in_parts l r a i) [ inl j ↦ inl (inr j) | inr j ↦ inr j ]

-- the sizes of two lists add up
pub total-append : (l r : List (ℕ × ℕ)) → total (l ++ r) ≡ total l + total r
total-append [] r = omega arith
total-append (h ∷ l) r = omega (arith, total-append l r)

-- ranges that rise share no address
pub rising_disjoint : (low : ℕ) (t : List (ℕ × ℕ)) (high : ℕ) → IsRising low t high → IsDisjoint t
rising_disjoint low [] high s = tt
rising_disjoint low (h ∷ t) high s = (
  λ a w i. let b : (h.0 + h.1 + 1 ≤ a) × (a < high) = in_bounds (h.0 + h.1 + 1) t high a s.3 i in omega arith,
  rising_disjoint (h.0 + h.1 + 1) t high s.3,
)

-- two lists of which neither has an address of the other share none together
pub disjoint_join : (l r : List (ℕ × ℕ)) → IsDisjoint l → IsDisjoint r → ((a : ℕ) → IsIn l a → IsIn r a → ⊥) → IsDisjoint (l ++ r)
disjoint_join [] r dl dr off = dr
disjoint_join (h ∷ l) r dl dr off = (
  λ a w i. elim (in_parts l r a i) [ inl j ↦ dl.0 a w j | inr j ↦ off a (inl w) j ],
  disjoint_join l r dl.1 dr (λ a i j. off a (inr i) j),
)

-- n free addresses in a row are in the first range or in the later ones
pub fit_step : (low : ℕ) (h : ℕ × ℕ) (t : List (ℕ × ℕ)) (high n q : ℕ) → 0 < n → IsRising low (h ∷ t) high → IsFit (h ∷ t) n q → ((h.0 ≤ q) × (q + n ≤ h.0 + h.1)) ⊎ IsFit t n q
fit_step low h t high n q pos s f = elim (f q (omega arith, omega arith)) [
  | inl i ↦ elim (Rattle.std.proofs.lemmas.Bool.cases_lt (h.0 + h.1) (q + n)) [
    | inl more ↦ elim (f (h.0 + h.1) (omega arith, omega arith)) [ inl j ↦ absurd (omega arith) | inr j ↦ let b : (h.0 + h.1 + 1 ≤ h.0 + h.1) × (h.0 + h.1 < high) = in_bounds _ t high _ s.3 j in absurd (omega arith) ]
    | inr less ↦ inl (i.0, less)
  ]
  | inr i ↦ let b : (h.0 + h.1 + 1 ≤ q) × (q < high) = in_bounds _ t high _ s.3 i in
      inr (λ a w. elim (f a w) [ inl j ↦ absurd (omega arith) | inr j ↦ j ])
]

-- past ranges that are all too small, n free addresses in a row are in the later ones
pub fit_later : (low : ℕ) (l r : List (ℕ × ℕ)) (high n q : ℕ) → 0 < n → IsRising low (l ++ r) high → All (λ h. h.1 < n) l → IsFit (l ++ r) n q → IsFit r n q
fit_later low [] r high n q pos s small f = f
fit_later low (h ∷ l) r high n q pos s small f = elim (fit_step low h (l ++ r) high n q pos s f) [
  | inl i ↦ let p : h.1 < n = small 0 h (omega arith) in absurd (omega arith)
  | inr g ↦ fit_later (h.0 + h.1 + 1) l r high n q pos s.3 (λ k d lt. small (suc k) d (omega arith)) g
]

-- where all ranges are too small, nothing fits
pub none_fits : (low : ℕ) (l : List (ℕ × ℕ)) (high n q : ℕ) → 0 < n → IsRising low l high → All (λ h. h.1 < n) l → IsFit l n q → ⊥
none_fits low [] high n q pos s small f = f q (omega arith, omega arith)
none_fits low (h ∷ l) high n q pos s small f = elim (fit_step low h l high n q pos s f) [
  | inl i ↦ let p : h.1 < n = small 0 h (omega arith) in absurd (omega arith)
  | inr g ↦ none_fits (h.0 + h.1 + 1) l high n q pos s.3 (λ k d lt. small (suc k) d (omega arith)) g
]

-- ranges that rise below a place rise below each higher one
pub rising_to : (low : ℕ) (t : List (ℕ × ℕ)) (high top : ℕ) → high ≤ top → IsRising low t high → IsRising low t top
rising_to low [] high top le s = tt
rising_to low (h ∷ t) high top le s = (s.0, s.1, omega (arith, s.2), rising_to (h.0 + h.1 + 1) t high top le s.3)

-- ranges that rise between two places have no more addresses than lie there
pub total_le : (low : ℕ) (t : List (ℕ × ℕ)) (high : ℕ) → low ≤ high → IsRising low t high → low + total t ≤ high
total_le low [] high le s = omega arith
total_le low (h ∷ t) high le s = let r = total_le (h.0 + h.1) t high s.2 (rising_from (h.0 + h.1 + 1) (h.0 + h.1) t high (omega arith) s.3) in omega (arith, s.0)
