-- Taking the front of a hole.
use Rattle.std.proofs.Common.{◌≡◌, ℕ, ◌+◌, ◌-◌, ◌<◌, ◌≤◌, List, ◌∷◌, ◌++◌, inl, inr, arith}
use Rattle.std.proofs.lemmas.Bool.{cases_lt}
use Rattle.acc_base.specs.Holes.{IsRising}
use Rattle.acc_placement.specs.Changes.{IsCut, end_after}
use Rattle.acc_placement.proofs.Rising.{in_bounds, before_after, rising_from, rising_front, rising_back, rising_join, in_join_left, in_join_right, in_parts, total-append}

-- what is known where a list of holes is parted round one of them
record Parts (low : ℕ) (l : List (ℕ × ℕ)) (x : ℕ × ℕ) (r : List (ℕ × ℕ)) (high : ℕ) : Type 0 where
  front : IsRising low l high
  below : end_after low l ≤ x.0
  not_empty : 0 < x.1
  fits : x.0 + x.1 ≤ high
  back : IsRising (x.0 + x.1 + 1) r high

-- what rises around a range, from what rises as a whole
parts : (low : ℕ) (l : List (ℕ × ℕ)) (x : ℕ × ℕ) (r : List (ℕ × ℕ)) (high : ℕ) → IsRising low (l ++ x ∷ r) high → Parts low l x r high
parts low l x r high s =
    let b = rising_back low l (x ∷ r) high s in
    record { front = rising_front low l (x ∷ r) high s; below = b.0; not_empty = b.1; fits = b.2; back = b.3 }

-- leaving out a hole takes all of its addresses
pub cut_whole : (low : ℕ) (l : List (ℕ × ℕ)) (x : ℕ × ℕ) (r : List (ℕ × ℕ)) (high n : ℕ) → x.1 ≡ n → IsRising low (l ++ x ∷ r) high → IsCut low high (l ++ x ∷ r) (l ++ r) x.0 n
cut_whole low l x r high n e s =
    let p = parts low l x r high s in
    record {
      rising = rising_join low l r high p.front (rising_from (x.0 + x.1 + 1) (end_after low l) r high (omega (arith, p.below)) p.back);
      used = omega (arith, total-append l r, total-append l (x ∷ r));
      kept = λ a i. elim (in_parts l r a i) [
        | inl j ↦ let b = before_after low l high a p.front j in (in_join_left l (x ∷ r) a j, λ w. absurd (omega (arith, p.below)))
        | inr j ↦ let b : (x.0 + x.1 + 1 ≤ a) × (a < high) = in_bounds (x.0 + x.1 + 1) r high a p.back j in (in_join_right l (x ∷ r) a (inr j), λ w. absurd (omega arith))
      ];
      free = λ a i w. elim (in_parts l (x ∷ r) a i) [
        | inl j ↦ in_join_left l r a j
        | inr (inl j) ↦ absurd (w (omega arith, omega arith))
        | inr (inr j) ↦ in_join_right l r a j
      ];
      was_free = λ a w. in_join_right l (x ∷ r) a (inl (omega arith, omega arith));
    }

-- making a hole shorter at its front takes its first addresses
pub cut_front : (low : ℕ) (l : List (ℕ × ℕ)) (x : ℕ × ℕ) (r : List (ℕ × ℕ)) (high n : ℕ) → n < x.1 → IsRising low (l ++ x ∷ r) high → IsCut low high (l ++ x ∷ r) (l ++ (x.0 + n, x.1 - n) ∷ r) x.0 n
cut_front low l x r high n less s =
    let p = parts low l x r high s in
    let new : List (ℕ × ℕ) = (x.0 + n, x.1 - n) ∷ r in
    record {
      rising = rising_join low l new high p.front (omega (arith, p.below), omega arith, omega (arith, p.fits), rising_from (x.0 + x.1 + 1) (x.0 + n + (x.1 - n) + 1) r high (omega arith) p.back);
      used = omega (arith, total-append l new, total-append l (x ∷ r));
      kept = λ a i. elim (in_parts l new a i) [
        | inl j ↦ let b = before_after low l high a p.front j in (in_join_left l (x ∷ r) a j, λ w. absurd (omega (arith, p.below)))
        | inr (inl j) ↦ (in_join_right l (x ∷ r) a (inl (omega arith, omega arith)), λ w. absurd (omega arith))
        | inr (inr j) ↦ let b : (x.0 + x.1 + 1 ≤ a) × (a < high) = in_bounds (x.0 + x.1 + 1) r high a p.back j in (in_join_right l (x ∷ r) a (inr j), λ w. absurd (omega arith))
      ];
      free = λ a i w. elim (in_parts l (x ∷ r) a i) [
        | inl j ↦ in_join_left l new a j
        | inr (inl j) ↦ elim (cases_lt a (x.0 + n)) [ inl q ↦ absurd (w (j.0, q)) | inr q ↦ in_join_right l new a (inl (q, omega arith)) ]
        | inr (inr j) ↦ in_join_right l new a (inr j)
      ];
      was_free = λ a w. in_join_right l (x ∷ r) a (inl (omega arith, omega arith));
    }
