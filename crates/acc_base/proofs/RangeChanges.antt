-- Lists of ranges, with one more and with one whose counters change: what all have, and that section and block stay.
use Rattle.std.proofs.Common.{ℕ, ◌≡◌, ◌<◌, ◌≤◌, refl, Bool, true, false, cond, List, [], ◌∷◌, arith}
use Rattle.std.specs.Prelude.{◌⊎◌, ◌==◌, nat_lt}
use Rattle.std.proofs.lemmas.Bool.Decides.{nat_tests}
use Rattle.std.specs.List.{AllByRecursion}
use Rattle.acc_base.specs.Words.{Section, Counter, Range}
use Rattle.acc_base.specs.Section.{is_apart, end_of}
use Rattle.acc_base.specs.Accounts.{EachPair, IsBelow}
use Rattle.acc_base.specs.declared.mappings.Counter.TheVariants.{Structured, Dynamic}
use Rattle.acc_base.specs.Ranges.{with_range, risen, fallen, cleared}
use Rattle.acc_base.proofs.Lookups.{change_at, number-change}
use Rattle.acc_base.proofs.InPlace.{IsPut, all-put, pairs-put}
use Rattle.acc_base.proofs.Elements.{AllByRecursion-weaker, AllByRecursion-both}

-- ---- one range more

-- it goes in by its start
pub put_range : (new : Range) → IsPut new (λ r. nat_lt new.section.start r.section.start) (with_range new)
put_range new = record { alone = refl; among = λ r rs. refl }

-- what all ranges have and the new one, all have then
pub all_with : (P : Range → Type 0) (new : Range) (rs : List Range) → P new → AllByRecursion P rs → AllByRecursion P (with_range new rs)
all_with P new rs n h = all-put (put_range new) P rs n h

-- what each two ranges have, and each with a new one on either side
pub apart_with : (R : Range → Range → Type 0) (new : Range) (rs : List Range) → AllByRecursion (λ r. R new r × R r new) rs → EachPair R rs → EachPair R (with_range new rs)
apart_with R new [] a h = (tt, tt)
apart_with R new (r ∷ rs) a h = elim (nat_lt new.section.start r.section.start) as (λ b. EachPair R (cond b (new ∷ r ∷ rs) (r ∷ with_range new rs))) [
  | true ↦ ((a.0.0, AllByRecursion-weaker (λ t. R new t × R t new) (R new) rs (λ t p. p.0) a.1), h)
  | false ↦ (all_with (R r) new rs a.0.1 h.0, apart_with R new rs a.1 h.1)
]

below_apart : (s t : Section) → is_apart s t ≡ true → (end_of s ≤ t.start) ⊎ (end_of t ≤ s.start)
below_apart s t e = grind (arith, nat_tests)

-- a section apart from all goes where it rises
pub rising_with : (new : Range) (rs : List Range) → 0 < new.section.len → AllByRecursion (λ (r : Range). 0 < r.section.len) rs → AllByRecursion (λ r. is_apart new.section r.section ≡ true) rs
    → EachPair (λ (r : Range) (t : Range). IsBelow r.section t.section) rs → EachPair (λ (r : Range) (t : Range). IsBelow r.section t.section) (with_range new rs)
rising_with new rs some filled a h = pairs-put (put_range new) (λ (r : Range) (t : Range). IsBelow r.section t.section) (λ r t below next. omega arith) rs
    (AllByRecursion-both (λ (r : Range). 0 < r.section.len) (λ r. is_apart new.section r.section ≡ true) (λ r. (nat_lt new.section.start r.section.start ≡ true → IsBelow new.section r.section) × (nat_lt new.section.start r.section.start ≡ false → IsBelow r.section new.section)) rs (λ r len apart. sides r len apart) filled a) h
  where
    sides : (r : Range) → 0 < r.section.len → is_apart new.section r.section ≡ true → (nat_lt new.section.start r.section.start ≡ true → IsBelow new.section r.section) × (nat_lt new.section.start r.section.start ≡ false → IsBelow r.section new.section)
    sides r len apart = let either : (end_of new.section ≤ r.section.start) ⊎ (end_of r.section ≤ new.section.start) = below_apart new.section r.section apart in (λ e. grind (arith, nat_tests), λ e. grind (arith, nat_tests))

-- ---- a change of the range of one block

-- the block of a range
abbrev pub block_of : Range → ℕ
block_of r = r.block

-- a change that leaves all but the counters
pub record KeepsPlace (f : Range → Range) : Type 0 where
  pub section : (r : Range) → (f r).section ≡ r.section
  pub block : (r : Range) → (f r).block ≡ r.block

-- such a change of the range of one block leaves the section of each
pub section-change : (k : ℕ) (f : Range → Range) → KeepsPlace f → (r : Range) → (change_at block_of k f r).section ≡ r.section
section-change k f keeps r = go (r.block == k)
  where
    go : (b : Bool) → (cond b (f r) r).section ≡ r.section
    go true = keeps.section r
    go false = refl

-- and its block
pub block-change : (k : ℕ) (f : Range → Range) → KeepsPlace f → (r : Range) → (change_at block_of k f r).block ≡ r.block
block-change k f keeps r = number-change block_of k f keeps.block r

-- ---- counters

-- a counter that rose leaves section and block
pub risen_keeps : (counter : Counter) → KeepsPlace (risen counter)
risen_keeps Structured = record { section = λ r. refl; block = λ r. refl }
risen_keeps Dynamic = record { section = λ r. refl; block = λ r. refl }

-- so does one that fell
pub fallen_keeps : (counter : Counter) → KeepsPlace (fallen counter)
fallen_keeps Structured = record { section = λ r. refl; block = λ r. refl }
fallen_keeps Dynamic = record { section = λ r. refl; block = λ r. refl }

-- and a dynamic counter that was set to zero
pub cleared_keeps : KeepsPlace cleared
cleared_keeps = record { section = λ r. refl; block = λ r. refl }
