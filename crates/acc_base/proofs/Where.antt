-- The test of where a section lies is right: a section lies where its addresses say.
use Rattle.std.proofs.Common.{ℕ, ◌≡◌, ◌+◌, ◌-◌, ◌<◌, ◌≤◌, refl, sym, subst, Bool, true, false, cond, List, [], ◌∷◌, Option, Some, None, arith, max, ⊎_elim}
use Rattle.std.specs.Prelude.{◌↔◌, Contains, IfSome, ⊤}
use Rattle.std.proofs.lemmas.List.Elements.{All-contains, All-from_recursion}
use Rattle.acc_base.specs.Inside.{IsInsideOne}
use Rattle.acc_base.specs.Words.{Found, Section, Range}
use Rattle.std.specs.List.{list_all, AllByRecursion}
use Rattle.std.proofs.lemmas.Bool.{false≢true}
use Rattle.std.proofs.lemmas.Bool.Decides.{nat_tests}
use Rattle.acc_base.specs.declared.mappings.Found.TheVariants.{Empty, Inside, Partly, Absent}
use Rattle.acc_base.specs.Section.{is_empty, is_within, is_apart, IsWithin, IsApart, Covers}
use Rattle.acc_base.specs.Ranges.{where_is, range_around, found_in, IsPlacedAt, IsClear, IsInNone}
use Rattle.acc_base.proofs.Results.{and_false}
use Rattle.acc_base.proofs.Elements.{AllByRecursion-weaker, find_passes, find_none, list_all-from}

-- ---- two sections

pub within : (s t : Section) → is_within s t ≡ true → IsWithin s t
within s t h a c = grind (arith, nat_tests)

pub not_within : (s t : Section) → 0 < s.len → is_within s t ≡ false → IsWithin s t → ⊥
not_within s t p h w =
    let first : Covers t s.start = w s.start (omega arith) in
    let last : Covers t (s.start + s.len - 1) = w (s.start + s.len - 1) (omega arith) in
    grind (arith, nat_tests)

pub apart : (s t : Section) → is_apart s t ≡ true → IsApart s t
apart s t h a c d = grind (arith, nat_tests)

pub not_apart : (s t : Section) → 0 < s.len → 0 < t.len → is_apart s t ≡ false → IsApart s t → ⊥
not_apart s t p q h w =
    let both : ((s.start < t.start + t.len) × (t.start < s.start + s.len)) = grind (arith, nat_tests) in
    w (max s.start t.start) (omega arith) (omega arith)

-- ---- a section and the mapped ranges

clear : (s : Section) (ranges : List Range) → list_all (λ r. is_apart s r.section) ranges ≡ true → IsClear s ranges
clear s ranges e = AllByRecursion-weaker (λ r. is_apart s r.section ≡ true) (λ r. IsApart s r.section) ranges (λ r h. apart s r.section h) (list_all-from (λ r. is_apart s r.section) ranges e)

not_clear : (s : Section) (ranges : List Range) → 0 < s.len → AllByRecursion (λ (r : Range). 0 < r.section.len) ranges → list_all (λ r. is_apart s r.section) ranges ≡ false → IsClear s ranges → ⊥
not_clear s [] p q e w = absurd (false≢true (sym e))
not_clear s (r ∷ rs) p q e w = ⊎_elim
    (λ h. not_apart s r.section p q.0 h w.0)
    (λ h. not_clear s rs p q.1 h w.1)
    (and_false (is_apart s r.section) (list_all (λ t. is_apart s t.section) rs) e)

in_none : (s : Section) (ranges : List Range) → 0 < s.len → range_around s ranges ≡ None → IsInNone s ranges
in_none s ranges p e = AllByRecursion-weaker (λ r. is_within s r.section ≡ false) (λ r. ¬ IsWithin s r.section) ranges (λ r h. not_within s r.section p h) (find_none (λ r. is_within s r.section) ranges e)

-- a section that is not empty, by what the search for a range around it and the test of all ranges returned
placed_by : (s : Section) (ranges : List Range) → 0 < s.len → AllByRecursion (λ (r : Range). 0 < r.section.len) ranges
    → (found : Option Range) → range_around s ranges ≡ found → (is_clear : Bool) → list_all (λ r. is_apart s r.section) ranges ≡ is_clear
    → IsPlacedAt s ranges (found_in s found (cond is_clear Absent Partly))
placed_by s ranges p q (Some r) e is_clear f =
    let passes : IfSome (Some r) (λ t. Contains ranges t × (is_within s t.section ≡ true)) = subst (λ o. IfSome o (λ t. Contains ranges t × (is_within s t.section ≡ true))) e (find_passes (λ t. is_within s t.section) ranges) in
    let around : r.section.start ≤ s.start = grind (arith, nat_tests) in
    (p, (r, record { mapped = passes.0; within = within s r.section passes.1; block_is = refl; offset_is = omega arith }))
placed_by s ranges p q None e true f = (p, clear s ranges f)
placed_by s ranges p q None e false f = (p, in_none s ranges p e, not_clear s ranges p q f)

pub where_is-placed : (s : Section) (ranges : List Range) → AllByRecursion (λ (r : Range). 0 < r.section.len) ranges → IsPlacedAt s ranges (where_is s ranges)
where_is-placed s ranges q = go (is_empty s) refl
  where
    go : (b : Bool) → is_empty s ≡ b → IsPlacedAt s ranges (cond b Empty (found_in s (range_around s ranges) (cond (list_all (λ r. is_apart s r.section) ranges) Absent Partly)))
    go true e = grind (arith, nat_tests)
    go false e =
        let some : 0 < s.len = grind (arith, nat_tests) in
        placed_by s ranges some q (range_around s ranges) refl (list_all (λ r. is_apart s r.section) ranges) refl

-- ---- what the answer says of the ranges

-- the range around a section that is inside one
pub record IsInsideOf (s : Section) (ranges : List Range) (block offset : ℕ) (r : Range) : Type 0 where
  pub around : range_around s ranges ≡ Some r
  pub block_is : r.block ≡ block
  pub offset_is : offset ≡ s.start - r.section.start
  pub some : is_empty s ≡ false

pub inside_says : (s : Section) (ranges : List Range) (block offset : ℕ) → where_is s ranges ≡ Inside block offset → (r : Range) × IsInsideOf s ranges block offset r
inside_says s ranges block offset e = go (is_empty s) refl (range_around s ranges) refl (list_all (λ r. is_apart s r.section) ranges) e
  where
    go : (x : Bool) → is_empty s ≡ x → (found : Option Range) → range_around s ranges ≡ found → (y : Bool) → cond x Empty (found_in s found (cond y Absent Partly)) ≡ Inside block offset → (r : Range) × IsInsideOf s ranges block offset r
    go false t (Some r) f y h = (r, record { around = f; block_is = cc; offset_is = cc; some = t })
    go false t None f true h = cc
    go _ t _ f _ h = cc

pub absent_says : (s : Section) (ranges : List Range) → where_is s ranges ≡ Absent → (list_all (λ r. is_apart s r.section) ranges ≡ true) × (is_empty s ≡ false)
absent_says s ranges e = go (is_empty s) refl (range_around s ranges) (list_all (λ r. is_apart s r.section) ranges) refl e
  where
    go : (x : Bool) → is_empty s ≡ x → (found : Option Range) (y : Bool) → list_all (λ r. is_apart s r.section) ranges ≡ y → cond x Empty (found_in s found (cond y Absent Partly)) ≡ Absent → (list_all (λ r. is_apart s r.section) ranges ≡ true) × (is_empty s ≡ false)
    go false t None true f h = (f, t)
    go _ t _ _ f h = cc

-- ---- exactly when

within_not_apart : (s : Section) (r : Range) → 0 < s.len → IsWithin s r.section → IsApart s r.section → ⊥
within_not_apart s r some within apart = let first : Covers s s.start = (omega arith, omega arith) in apart s.start first (within s.start first)

within_not_clear : (s : Section) (ranges : List Range) (r : Range) → 0 < s.len → Contains ranges r → IsWithin s r.section → IsClear s ranges → ⊥
within_not_clear s ranges r some mapped within clear = within_not_apart s r some within (All-contains (λ (t : Range). IsApart s t.section) ranges r (All-from_recursion (λ (t : Range). IsApart s t.section) ranges clear) mapped)

abbrev pub IsInside : Found → Type 0
IsInside (Inside block offset) = ⊤
IsInside _ = ⊥

inside_when : (s : Section) (ranges : List Range) (found : Found) → IsPlacedAt s ranges found → IsInsideOne s ranges → IsInside found
inside_when s ranges Empty placed h = let some : 0 < s.len = h.0 in absurd (omega arith)
inside_when s ranges (Inside block offset) placed h = tt
inside_when s ranges Absent placed h = absurd (within_not_clear s ranges h.1.0 h.0 h.1.1 h.1.2 placed.1)
inside_when s ranges Partly placed h = absurd (All-contains (λ (r : Range). ¬ IsWithin s r.section) ranges h.1.0 (All-from_recursion (λ (r : Range). ¬ IsWithin s r.section) ranges placed.1) h.1.1 h.1.2)

in_one : (s : Section) (ranges : List Range) (found : Found) → IsPlacedAt s ranges found → IsInside found → IsInsideOne s ranges
in_one s ranges (Inside block offset) placed h = (placed.0, (placed.1.0, placed.1.1.mapped, placed.1.1.within))
in_one s ranges _ placed h = absurd h

-- a section is inside a range exactly where each of its addresses is in that one range
pub inside_exactly : (s : Section) (ranges : List Range) → AllByRecursion (λ (r : Range). 0 < r.section.len) ranges → IsInside (where_is s ranges) ↔ IsInsideOne s ranges
inside_exactly s ranges q = (in_one s ranges (where_is s ranges) (where_is-placed s ranges q), inside_when s ranges (where_is s ranges) (where_is-placed s ranges q))
