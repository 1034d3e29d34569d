-- Where a section lies after each change of the ranges.
use Rattle.std.proofs.Common.{ℕ, ◌≡◌, refl, ap, ◌∙◌, Bool, true, false, cond, ◌&&◌, List, [], ◌∷◌, Option, Some, None, arith}
use Rattle.std.specs.Prelude.{◌==◌, option_map}
use Rattle.std.specs.List.{list_all}
use Rattle.std.proofs.lemmas.Bool.Decides.{nat_tests}
use Rattle.acc_clauses.specs.Words.{Section, Range, Found}
use Rattle.acc_base.specs.declared.mappings.Found.TheVariants.{Empty, Partly, Absent}
use Rattle.acc_base.specs.Section.{is_empty, is_within, is_apart}
use Rattle.acc_base.specs.Ranges.{where_is, where_is_apart, range_around, found_in, with_range, without_range, without_ranges, changed_at}
use Rattle.acc_base.proofs.Results.{and_true}
use Rattle.acc_clauses.specs.Overlays.{found_beside}

-- every range is apart from the section
abbrev all_apart : Section → List Range → Bool
all_apart s ranges = list_all (λ r. is_apart s r.section) ranges

-- ---- one range more

-- a range that has the section is not apart from it
around_touches : (s t : Section) → is_empty s ≡ false → is_apart s t ≡ true → is_within s t ≡ false
around_touches s t some off = grind (arith, nat_tests)

-- no range has a section that is apart from all of them
around_none : (s : Section) (ranges : List Range) → is_empty s ≡ false → all_apart s ranges ≡ true → range_around s ranges ≡ None
around_none s [] some off = refl
around_none s (r ∷ rs) some off =
    let parts : (is_apart s r.section ≡ true) × (all_apart s rs ≡ true) = and_true _ _ off in
    rw (around_touches s r.section some parts.0) (around_none s rs some parts.1)

-- what lies in a range is apart from what is apart from the range
apart_within : (s t q : Section) → is_empty s ≡ false → is_within s t ≡ true → is_apart t q ≡ true → is_apart s q ≡ true
apart_within s t q some inside off = grind (arith, nat_tests)

all_apart-within : (s t : Section) (ranges : List Range) → is_empty s ≡ false → is_within s t ≡ true → all_apart t ranges ≡ true → all_apart s ranges ≡ true
all_apart-within s t [] some inside off = refl
all_apart-within s t (r ∷ rs) some inside off =
    let parts : (is_apart t r.section ≡ true) × (all_apart t rs ≡ true) = and_true _ _ off in
    rw (apart_within s t r.section some inside parts.0) (all_apart-within s t rs some inside parts.1)

-- the range that has the section is the new one, or the one that had it
around-with : (s : Section) (new : Range) (ranges : List Range) → is_empty s ≡ false → all_apart new.section ranges ≡ true → range_around s (with_range new ranges) ≡ cond (is_within s new.section) (Some new) (range_around s ranges)
around-with s new [] some off = refl
around-with s new (r ∷ rs) some off = grind (arith, nat_tests, around-with s new rs some, and_true)

all_apart-with : (s : Section) (new : Range) (ranges : List Range) → all_apart s (with_range new ranges) ≡ (is_apart s new.section && all_apart s ranges)
all_apart-with s new [] = refl
all_apart-with s new (r ∷ rs) = grind (arith, nat_tests, all_apart-with s new rs)

-- a section after a range was added that was absent
pub where_is-with : (s : Section) (new : Range) (ranges : List Range) → all_apart new.section ranges ≡ true → where_is s (with_range new ranges) ≡ found_beside s new.section new.block (where_is s ranges)
where_is-with s new ranges off = grind (arith, nat_tests, around_none, all_apart-within, around-with, all_apart-with)

-- ---- a change of one range that keeps its addresses and its block

module _ (f : Range → Range) (stays : (r : Range) → (f r).section ≡ r.section) (keeps : (r : Range) → (f r).block ≡ r.block) where
  -- the range after the change, where it is the block's
  abbrev changed : ℕ → Range → Range
  changed k r = cond (r.block == k) (f r) r

  changed-section : (k : ℕ) (r : Range) → (changed k r).section ≡ r.section
  changed-section k r = grind (arith, nat_tests)

  around-changed : (s : Section) (k : ℕ) (ranges : List Range) → range_around s (changed_at k f ranges) ≡ option_map (changed k) (range_around s ranges)
  around-changed s k [] = refl
  around-changed s k (r ∷ rs) = grind (arith, nat_tests, around-changed s k rs)

  all_apart-changed : (s : Section) (k : ℕ) (ranges : List Range) → all_apart s (changed_at k f ranges) ≡ all_apart s ranges
  all_apart-changed s k [] = refl
  all_apart-changed s k (r ∷ rs) = ap (λ t. is_apart s t && all_apart s (changed_at k f rs)) (changed-section k r) ∙ ap (λ b. is_apart s r.section && b) (all_apart-changed s k rs)

  found_in-changed : (s : Section) (k : ℕ) (around : Option Range) (otherwise : Found) → found_in s (option_map (changed k) around) otherwise ≡ found_in s around otherwise
  found_in-changed s k around otherwise = grind (arith, nat_tests)

  pub where_is-changed : (s : Section) (k : ℕ) (ranges : List Range) → where_is s (changed_at k f ranges) ≡ where_is s ranges
  where_is-changed s k ranges = rw (around-changed s k ranges, all_apart-changed s k ranges) (ap (λ g. cond (is_empty s) Empty g) (found_in-changed s k (range_around s ranges) (cond (all_apart s ranges) Absent Partly)))

  without-changed : (blocks : List ℕ) (k : ℕ) (ranges : List Range) → without_ranges blocks (changed_at k f ranges) ≡ changed_at k f (without_ranges blocks ranges)
  without-changed blocks k [] = refl
  without-changed blocks k (r ∷ rs) = grind (arith, nat_tests, without-changed blocks k rs)

  -- a section apart from some blocks' ranges lies where it lay
  pub apart-changed : (s : Section) (blocks : List ℕ) (k : ℕ) (ranges : List Range) → where_is_apart s blocks (changed_at k f ranges) ≡ where_is_apart s blocks ranges
  apart-changed s blocks k ranges = rw (without-changed blocks k ranges) (where_is-changed s k (without_ranges blocks ranges))

-- ---- ranges that end

without_both : (blocks : List ℕ) (k : ℕ) (ranges : List Range) → without_ranges (k ∷ blocks) ranges ≡ without_ranges blocks (without_range k ranges)
without_both blocks k [] = refl
without_both blocks k (r ∷ rs) = grind (arith, nat_tests, without_both blocks k rs)

-- apart from one more block's range
pub apart_more : (s : Section) (blocks : List ℕ) (k : ℕ) (ranges : List Range) → where_is_apart s (k ∷ blocks) ranges ≡ where_is_apart s blocks (without_range k ranges)
apart_more s blocks k ranges = ap (where_is s) (without_both blocks k ranges)
