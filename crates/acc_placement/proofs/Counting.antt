-- There is at most one hole more than taken ranges, and no more ranges than bytes of them.
use Rattle.std.proofs.Common.{◌≡◌, ℕ, suc, ◌+◌, ◌<◌, ◌≤◌, ◌⊎◌, List, [], ◌∷◌, inl, inr, arith, refl, length}
use Rattle.std.specs.Prelude.{All}
use Rattle.acc_base.specs.Holes.{IsIn, IsRising, total}
use Rattle.acc_base.specs.Section.{Spans}
use Rattle.acc_placement.specs.Ranges.{HasAddress}

-- each range has a byte at least
pub length_total : (ts : List (ℕ × ℕ)) → All HasAddress ts → length ts ≤ total ts
length_total [] a = omega arith
length_total (t ∷ ts) a =
    let some : 0 < t.1 = a 0 t (omega arith) in
    let rest = length_total ts (λ k d lt. a (suc k) d (omega arith)) in
    omega arith

-- the address after each hole but the last is in one of the ranges ts
abbrev pub IsEdged : List (ℕ × ℕ) → List (ℕ × ℕ) → Type 0
IsEdged [] ts = Unit {0}
IsEdged (h ∷ []) ts = Unit {0}
IsEdged (h ∷ k ∷ t) ts = IsIn ts (h.0 + h.1) × IsEdged (k ∷ t) ts

-- a list of ranges without one that has the address e
pub record IsWithout (ts : List (ℕ × ℕ)) (e : ℕ) : Type 0 where
  pub rest : List (ℕ × ℕ)
  pub place : ℕ
  pub size : ℕ
  pub one_less : length ts ≡ suc (length rest)
  pub has : Spans place size e
  pub of : (a : ℕ) → Spans place size a → IsIn ts a
  pub others : (a : ℕ) → IsIn ts a → Spans place size a ⊎ IsIn rest a
  pub kept : (a : ℕ) → IsIn rest a → IsIn ts a

-- a range that has an address can be left out of the list
without : (ts : List (ℕ × ℕ)) (e : ℕ) → IsIn ts e → IsWithout ts e
without [] e i = absurd i
without (t ∷ ts) e (inl i) = record { rest = ts; place = t.0; size = t.1; one_less = refl; has = i; of = λ a w. inl w; others = λ a w. w; kept = λ a w. inr w }
without (t ∷ ts) e (inr i) =
    let w = without ts e i in
    record {
      rest = t ∷ w.rest;
      place = w.place;
      size = w.size;
      one_less = omega (arith, w.one_less);
      has = w.has;
      of = λ a u. inr (w.of a u);
      others = λ a u. elim u [ inl v ↦ inr (inl v) | inr v ↦ elim (w.others a v) [ inl x ↦ inl x | inr x ↦ inr (inr x) ] ];
      kept = λ a u. elim u [ inl v ↦ inl v | inr v ↦ inr (w.kept a v) ];
    }

-- holes that end at taken ranges end at those of a list that has the same addresses behind them
edged_keep : (low : ℕ) (hs : List (ℕ × ℕ)) (high : ℕ) (ts us : List (ℕ × ℕ)) → IsRising low hs high → ((a : ℕ) → low ≤ a → IsIn ts a → IsIn us a) → IsEdged hs ts → IsEdged hs us
edged_keep low (h ∷ k ∷ t) high ts us s f e =
    (f _ (omega arith) e.0, edged_keep (h.0 + h.1 + 1) (k ∷ t) high ts us s.3 (λ a le. f a (omega arith)) e.1)
edged_keep low _ high ts us s f e = tt

-- there is at most one hole more than there are taken ranges
pub length_holes : (low : ℕ) (hs : List (ℕ × ℕ)) (high : ℕ) (ts : List (ℕ × ℕ)) → IsRising low hs high → ((a : ℕ) → IsIn hs a → IsIn ts a → ⊥) → IsEdged hs ts → length hs ≤ length ts + 1
length_holes low (h ∷ k ∷ t) high ts s sep e =
    let w = without ts (h.0 + h.1) e.0 in
    let rise = s.3 in
    let ends : w.place + w.size ≤ k.0 =
    elim (Rattle.std.proofs.lemmas.Bool.cases_lt k.0 (w.place + w.size)) [
      | inl more ↦ absurd (sep k.0 (inr (inl (omega arith, omega arith))) (w.of k.0 (omega (arith, w.has), omega arith)))
      | inr less ↦ less
    ] in
    let rec = length_holes k.0 (k ∷ t) high w.rest (omega arith, rise.1, rise.2, rise.3) (λ a i j. sep a (inr i) (w.kept a j))
    (edged_keep k.0 (k ∷ t) high ts w.rest (omega arith, rise.1, rise.2, rise.3)
    (λ a le i. elim (w.others a i) [ inl x ↦ absurd (omega arith) | inr x ↦ x ]) e.1) in
    omega (arith, w.one_less)
length_holes low _ high ts s sep e = omega arith
