-- The holes that placement lists are the holes that the blocks leave, by addresses.
use Rattle.std.proofs.Common.{ℕ, zero, suc, ◌≡◌, ◌+◌, ◌-◌, ◌<◌, ◌≤◌, refl, sym, ap, ◌∙◌, subst, List, [], ◌∷◌, Bool, true, false, cond, Option, Some, None, inl, inr, arith, ◌↔◌}
use Rattle.std.specs.Prelude.{◌⊎◌, Contains, find, nat_le, option_map, IfSome}
use Rattle.std.proofs.lemmas.Bool.{cases_lt}
use Rattle.std.proofs.lemmas.Bool.Decides.{nat_tests}
use Rattle.acc_base.specs.declared.mappings.Block.{Block}
use Rattle.acc_base.specs.declared.mappings.Hole.{Hole}
use Rattle.acc_base.specs.Section.{Spans}
use Rattle.acc_base.specs.Blocks.{IsVacant}
use Rattle.acc_base.specs.Holes.{IsIn, IsRising, IsHole, IsNextHole}
use Rattle.acc_base.proofs.Elements.{Contains-later, find_passes}
use Rattle.acc_placement.specs.Ranges.{IsFit}
use Rattle.acc_placement.specs.Space.{Space}
use Rattle.acc_placement.proofs.Rising.{in_bounds}
use Rattle.acc_dev.specs.Kept.{memory_of}
use Rattle.acc_dev.proofs.Placing.{IsShared, free_out, out_free}

-- ---- what is listed

-- an element is the first of a list or one of the others
first_or_later : (h x : ℕ × ℕ) (t : List (ℕ × ℕ)) → Contains (h ∷ t) x → (h ≡ x) ⊎ Contains t x
first_or_later h x t (zero, lt, e) = inl e
first_or_later h x t (suc k, lt, e) = inr (k, omega arith, e)

-- ranges that rise from a place begin there or behind it
listed_low : (low : ℕ) (hs : List (ℕ × ℕ)) (high : ℕ) (x : ℕ × ℕ) → IsRising low hs high → Contains hs x → low ≤ x.0
listed_low low [] high x s c = absurd (omega (arith, c.1))
listed_low low (h ∷ t) high x s c = elim (first_or_later h x t c) [
  | inl e ↦ subst (λ (y : ℕ × ℕ). low ≤ y.0) e s.0
  | inr d ↦ omega (arith, listed_low (h.0 + h.1 + 1) t high x s.3 d)
]

-- ---- ranges whose neighbours are not in the list

-- each address of the range is in the list, and none beside it
record IsVacantRun (hs : List (ℕ × ℕ)) (x : ℕ × ℕ) : Type 0 where
  some : 0 < x.1
  all : IsFit hs x.1 x.0
  before : (a : ℕ) → suc a ≡ x.0 → IsIn hs a → ⊥
  behind : IsIn hs (x.0 + x.1) → ⊥

-- the first of ranges that rise without touching
first_run : (low : ℕ) (h : ℕ × ℕ) (t : List (ℕ × ℕ)) (high : ℕ) → IsRising low (h ∷ t) high → IsVacantRun (h ∷ t) h
first_run low h t high s = record {
  some = s.1;
  all = λ a w. inl w;
  before = λ a e i. elim i [ inl w ↦ let below : h.0 ≤ a = w.0 in omega arith | inr j ↦ let b = in_bounds (h.0 + h.1 + 1) t high a s.3 j in omega (arith, b.0) ];
  behind = λ i. elim i [ inl w ↦ let over : h.0 + h.1 < h.0 + h.1 = w.1 in omega arith | inr j ↦ let b = in_bounds (h.0 + h.1 + 1) t high (h.0 + h.1) s.3 j in omega (arith, b.0) ];
}

-- a later one
later_run : (low : ℕ) (h : ℕ × ℕ) (t : List (ℕ × ℕ)) (high : ℕ) (x : ℕ × ℕ) → IsRising low (h ∷ t) high → h.0 + h.1 + 1 ≤ x.0 → IsVacantRun t x → IsVacantRun (h ∷ t) x
later_run low h t high x s apart r = record {
  some = r.some;
  all = λ a w. inr (r.all a w);
  before = λ a e i. elim i [ inl w ↦ let below : a < h.0 + h.1 = w.1 in omega arith | inr j ↦ r.before a e j ];
  behind = λ i. elim i [ inl w ↦ let below : x.0 + x.1 < h.0 + h.1 = w.1 in omega arith | inr j ↦ r.behind j ];
}

-- each listed one
run_from : (low : ℕ) (hs : List (ℕ × ℕ)) (high : ℕ) (x : ℕ × ℕ) → IsRising low hs high → Contains hs x → IsVacantRun hs x
run_from low [] high x s c = absurd (omega (arith, c.1))
run_from low (h ∷ t) high x s c = elim (first_or_later h x t c) [
  | inl e ↦ subst (IsVacantRun (h ∷ t)) e (first_run low h t high s)
  | inr d ↦ later_run low h t high x s (listed_low (h.0 + h.1 + 1) t high x s.3 d) (run_from (h.0 + h.1 + 1) t high x s.3 d)
]

-- a range that begins in the first one is the first one
is_first : (low : ℕ) (h : ℕ × ℕ) (t : List (ℕ × ℕ)) (high : ℕ) (x : ℕ × ℕ) → IsRising low (h ∷ t) high → IsVacantRun (h ∷ t) x → Spans h.0 h.1 x.0 → h ≡ x
is_first low h t high x s r w =
    let from : h.0 ≤ x.0 = w.0 in
    let under : x.0 < h.0 + h.1 = w.1 in
    let first : h.0 ≡ x.0 = elim (cases_lt h.0 x.0) [
      | inl lt ↦ absurd (r.before (x.0 - 1) (omega arith) (inl (omega arith, omega arith)))
      | inr le ↦ omega arith
    ] in
    let short : h.1 ≤ x.1 = elim (cases_lt x.1 h.1) [
      | inl lt ↦ absurd (r.behind (inl (omega arith, omega arith)))
      | inr le ↦ le
    ] in
    let long : x.1 ≤ h.1 = elim (cases_lt h.1 x.1) [
      | inl lt ↦ absurd (elim (r.all (h.0 + h.1) (omega arith, omega arith)) [ inl v ↦ let over : h.0 + h.1 < h.0 + h.1 = v.1 in omega arith | inr j ↦ let b = in_bounds (h.0 + h.1 + 1) t high (h.0 + h.1) s.3 j in omega (arith, b.0) ])
      | inr le ↦ le
    ] in
    let last : h.1 ≡ x.1 = omega arith in
    let pair : ℕ → ℕ → ℕ × ℕ = λ p n. (p, n) in
    ap (λ (p : ℕ). pair p h.1) first ∙ ap (λ (n : ℕ). pair x.0 n) last

-- a range that begins behind the first one is one of the others
run_later : (low : ℕ) (h : ℕ × ℕ) (t : List (ℕ × ℕ)) (high : ℕ) (x : ℕ × ℕ) → IsRising low (h ∷ t) high → h.0 + h.1 + 1 ≤ x.0 → IsVacantRun (h ∷ t) x → IsVacantRun t x
run_later low h t high x s apart r = record {
  some = r.some;
  all = λ a w. elim (r.all a w) [ inl v ↦ absurd (let below : a < h.0 + h.1 = v.1 in let from : x.0 ≤ a = w.0 in omega arith) | inr j ↦ j ];
  before = λ a e i. r.before a e (inr i);
  behind = λ i. r.behind (inr i);
}

run_listed : (low : ℕ) (hs : List (ℕ × ℕ)) (high : ℕ) (x : ℕ × ℕ) → IsRising low hs high → IsVacantRun hs x → Contains hs x
run_listed low [] high x s r = absurd (r.all x.0 (omega arith, omega (arith, r.some)))
run_listed low (h ∷ t) high x s r = elim (r.all x.0 (omega arith, omega (arith, r.some))) [
  | inl w ↦ (0, omega arith, is_first low h t high x s r w)
  | inr i ↦ let b = in_bounds (h.0 + h.1 + 1) t high x.0 s.3 i in Contains-later h x t (run_listed (h.0 + h.1 + 1) t high x s.3 (run_later low h t high x s b.0 r))
]

-- ---- the holes that the blocks leave

vacant_in : (s : Space) (bs : List Block) (a : ℕ) → IsShared s bs → IsVacant (memory_of s) bs a → IsIn s.holes a
vacant_in s bs a k v = elim (k.partition.covered a v.0) [ inl i ↦ i | inr i ↦ absurd (free_out bs a v.1 i) ]

in_vacant : (s : Space) (bs : List Block) (a : ℕ) → IsShared s bs → IsIn s.holes a → IsVacant (memory_of s) bs a
in_vacant s bs a k i = (in_bounds s.base s.holes (s.base + s.size) a k.canonical.rising i, out_free bs a (λ t. k.partition.not_free a t i))

-- the range as a hole
abbrev pub hole_of : ℕ × ℕ → Hole
hole_of x = record { place = x.0; size = x.1 }

run_hole : (s : Space) (bs : List Block) (x : ℕ × ℕ) → IsShared s bs → IsVacantRun s.holes x → IsHole (memory_of s) bs (hole_of x)
run_hole s bs x k r = record {
  some = r.some;
  vacant = λ a low high. in_vacant s bs a k (r.all a (low, high));
  before = λ a e v. r.before a e (vacant_in s bs a k v);
  behind = λ v. r.behind (vacant_in s bs (x.0 + x.1) k v);
}

hole_run : (s : Space) (bs : List Block) (h : Hole) → IsShared s bs → IsHole (memory_of s) bs h → IsVacantRun s.holes (h.place, h.size)
hole_run s bs h k hole = record {
  some = hole.some;
  all = λ a w. vacant_in s bs a k (hole.vacant a w.0 w.1);
  before = λ a e i. hole.before a e (in_vacant s bs a k i);
  behind = λ i. hole.behind (in_vacant s bs (h.place + h.size) k i);
}

-- each hole is listed, and each listed range is one
pub holes_listed : (s : Space) (bs : List Block) → IsShared s bs → (h : Hole) → IsHole (memory_of s) bs h ↔ Contains s.holes (h.place, h.size)
holes_listed s bs k h = (
  λ hole. run_listed s.base s.holes (s.base + s.size) (h.place, h.size) k.canonical.rising (hole_run s bs h k hole),
  λ c. run_hole s bs (h.place, h.size) k (run_from s.base s.holes (s.base + s.size) (h.place, h.size) k.canonical.rising c),
)

-- ---- the next one

-- the first listed range from an address on is the least of them
first_hole : (from low : ℕ) (hs : List (ℕ × ℕ)) (high : ℕ) (x y : ℕ × ℕ) → IsRising low hs high → find (λ h. nat_le from h.0) hs ≡ Some x → Contains hs y → from ≤ y.0 → x.0 ≤ y.0
first_hole from low [] high x y s e c le = absurd (omega (arith, c.1))
first_hole from low (h ∷ t) high x y s e c le = go (λ is d. first_hole from (h.0 + h.1 + 1) t high x y s.3 is d le) (nat_le from h.0) refl e
  where
    go : (find (λ z. nat_le from z.0) t ≡ Some x → Contains t y → x.0 ≤ y.0) → (b : Bool) → nat_le from h.0 ≡ b → cond b (Some h) (find (λ z. nat_le from z.0) t) ≡ Some x → x.0 ≤ y.0
    go rest true t_is is =
        let same : h ≡ x = cc in
        elim (first_or_later h y t c) [
          | inl e ↦ let both : x ≡ y = sym same ∙ e in subst (λ (z : ℕ × ℕ). x.0 ≤ z.0) both (omega arith)
          | inr d ↦ let low_y : h.0 + h.1 + 1 ≤ y.0 = listed_low (h.0 + h.1 + 1) t high y s.3 d in subst (λ (z : ℕ × ℕ). z.0 ≤ y.0) same (omega arith)
        ]
    go rest false f_is is = elim (first_or_later h y t c) [
      | inl e ↦ let below : from ≤ h.0 = subst (λ (z : ℕ × ℕ). from ≤ z.0) (sym e) le in absurd (grind (arith, nat_tests))
      | inr d ↦ rest is d
    ]

none_from : (from : ℕ) (hs : List (ℕ × ℕ)) (y : ℕ × ℕ) → find (λ h. nat_le from h.0) hs ≡ None → Contains hs y → from ≤ y.0 → ⊥
none_from from [] y e c le = omega (arith, c.1)
none_from from (h ∷ t) y e c le = go (λ is d. none_from from t y is d le) (nat_le from h.0) refl e
  where
    go : (find (λ z. nat_le from z.0) t ≡ None → Contains t y → ⊥) → (b : Bool) → nat_le from h.0 ≡ b → cond b (Some h) (find (λ z. nat_le from z.0) t) ≡ None → ⊥
    go rest true t_is is = cc
    go rest false f_is is = elim (first_or_later h y t c) [
      | inl e ↦ let below : from ≤ h.0 = subst (λ (z : ℕ × ℕ). from ≤ z.0) (sym e) le in absurd (grind (arith, nat_tests))
      | inr d ↦ rest is d
    ]

pub next_of : (s : Space) (bs : List Block) (from : ℕ) (o : Option (ℕ × ℕ)) → IsShared s bs → o ≡ find (λ h. nat_le from h.0) s.holes → IsNextHole from (memory_of s) bs (option_map hole_of o)
next_of s bs from None k e = λ h hole le. none_from from s.holes (h.place, h.size) (sym e) ((holes_listed s bs k h).0 hole) le
next_of s bs from (Some x) k e =
    let found : Contains s.holes x × (nat_le from x.0 ≡ true) = subst (λ (r : Option (ℕ × ℕ)). IfSome r (λ y. Contains s.holes y × (nat_le from y.0 ≡ true))) (sym e) (find_passes (λ h. nat_le from h.0) s.holes) in
    let passes : nat_le from x.0 ≡ true = found.1 in (
      run_hole s bs x k (run_from s.base s.holes (s.base + s.size) x k.canonical.rising found.0),
      grind (arith, nat_tests),
      λ g hole le. first_hole from s.base s.holes (s.base + s.size) x (g.place, g.size) k.canonical.rising (sym e) ((holes_listed s bs k g).0 hole) le,
    )
