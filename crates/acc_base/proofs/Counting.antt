-- What is read of the range of a block, after each change of the ranges.
use Rattle.std.proofs.Common.{ℕ, ◌≡◌, refl, sym, ◌∙◌, ap, subst, Bool, true, false, cond, List, Option, Some, None, arith}
use Rattle.std.specs.Prelude.{◌==◌, unwrap_or, option_map, Contains, IfSome, IsSome}
use Rattle.std.proofs.lemmas.Bool.Decides.{nat_tests}
use Rattle.acc_base.specs.declared.mappings.Range.{Range}
use Rattle.acc_base.specs.Ranges.{range_of, changed_at, with_range, without_range}
use Rattle.acc_base.proofs.Results.{equal, equal_self, equal_swap}
use Rattle.acc_base.proofs.Elements.{find_passes}
use Rattle.acc_base.proofs.Lookups.{at-without_same, at-without_other, at-changed}
use Rattle.acc_base.proofs.InPlace.{find-put_new, find-put_other, is_some-put_new, is_some-put_there}
use Rattle.acc_base.proofs.RangeChanges.{block_of, put_range}

-- a number that is read of a range, and zero where there is none
abbrev read : (Range → ℕ) → Option Range → ℕ
read g o = unwrap_or (option_map g o) 0

-- and of the range of a block
abbrev pub read_of : (Range → ℕ) → ℕ → List Range → ℕ
read_of g block ranges = read g (range_of block ranges)

-- ---- a change of one range that keeps its block

module _ (g : Range → ℕ) (f : Range → Range) (h : ℕ → ℕ) (keeps : (r : Range) → (f r).block ≡ r.block) (moves : (r : Range) → g (f r) ≡ h (g r)) where
  pub changed_read : (k b : ℕ) (ranges : List Range) → (range_of k ranges ≡ None → h 0 ≡ 0) → read_of g b (changed_at k f ranges) ≡ cond (k == b) (h (read_of g b ranges)) (read_of g b ranges)
  changed_read k b ranges none = ap (read g) (at-changed block_of k b f ranges keeps) ∙ go (range_of b ranges) refl
    where
      here : (r : Range) (t : Bool) → g (cond t (f r) r) ≡ cond t (h (g r)) (g r)
      here r true = moves r
      here r false = refl

      absent : (t : Bool) → (k == b) ≡ t → range_of b ranges ≡ None → 0 ≡ cond t (h 0) 0
      absent true e n = sym (none (ap (λ j. range_of j ranges) (equal k b e) ∙ n))
      absent false e n = refl

      go : (o : Option Range) → range_of b ranges ≡ o → read g (option_map (λ r. cond (r.block == k) (f r) r) o) ≡ cond (k == b) (h (read g o)) (read g o)
      go None e = absent (k == b) refl e
      go (Some r) e =
          let passes = subst (λ o. IfSome o (λ (x : Range). Contains ranges x × ((x.block == b) ≡ true))) e (find_passes (λ (x : Range). x.block == b) ranges) in
          let same : (r.block == k) ≡ (k == b) = ap (λ n. n == k) (equal _ _ passes.1) ∙ equal_swap b k in
          here r (r.block == k) ∙ ap (λ t. cond t (h (g r)) (g r)) same

-- ---- one range more

pub with_same : (g : Range → ℕ) (new : Range) (ranges : List Range) → range_of new.block ranges ≡ None → read_of g new.block (with_range new ranges) ≡ g new
with_same g new ranges none = ap (read g) (find-put_new (put_range new) (λ r. r.block == new.block) ranges (equal_self new.block) none)

pub with_other : (g : Range → ℕ) (new : Range) (b : ℕ) (ranges : List Range) → (new.block == b) ≡ false → read_of g b (with_range new ranges) ≡ read_of g b ranges
with_other g new b ranges n = ap (read g) (find-put_other (put_range new) (λ r. r.block == b) ranges n)

-- a range that is there stays, and the new one is there
pub with_there : (new : Range) (b : ℕ) (ranges : List Range) → IsSome (range_of b ranges) → IsSome (range_of b (with_range new ranges))
with_there new b ranges there = is_some-put_there (put_range new) (λ r. r.block == b) ranges there

pub with_new : (new : Range) (ranges : List Range) → IsSome (range_of new.block (with_range new ranges))
with_new new ranges = is_some-put_new (put_range new) (λ r. r.block == new.block) ranges (equal_self new.block)

-- ---- one range less

pub without_read : (g : Range → ℕ) (k b : ℕ) (ranges : List Range) → read_of g b (without_range k ranges) ≡ cond (k == b) 0 (read_of g b ranges)
without_read g k b ranges = go (k == b) refl
  where
    go : (t : Bool) → (k == b) ≡ t → read_of g b (without_range k ranges) ≡ cond t 0 (read_of g b ranges)
    go true e = subst (λ n. read_of g n (without_range k ranges) ≡ 0) (equal k b e) (ap (read g) (at-without_same block_of k ranges))
    go false e = ap (read g) (at-without_other block_of k b ranges (grind (arith, nat_tests)))
