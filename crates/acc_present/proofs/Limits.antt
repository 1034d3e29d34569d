-- No counter is above the limit, as tasks count and drop ranges.
use Rattle.std.proofs.Common.{ℕ, ◌≡◌, ◌<◌, refl, sym, ap, subst, ◌∙◌, Bool, true, false, cond, List, Option, Some, arith}
use Rattle.std.specs.Prelude.{◌==◌, option_map, unwrap_or}
use Rattle.std.specs.List.{AllByRecursion}
use Rattle.acc_base.specs.declared.mappings.Range.{Range}
use Rattle.acc_base.specs.declared.mappings.Counter.{Counter}
use Rattle.acc_base.specs.declared.mappings.Counter.TheVariants.{Structured, Dynamic}
use Rattle.acc_base.specs.declared.tasks.Task.{Task}
use Rattle.acc_base.specs.declared.tasks.Task.TheVariants.{Enter, ExitRegion, ExitData, Move}
use Rattle.acc_base.specs.Ranges.{changed_at, risen, fallen, cleared, counter_in, range_of}
use Rattle.acc_base.specs.Tasks.{recounted}
use Rattle.acc_base.specs.Accounts.{EachPair}
use Rattle.acc_base.proofs.Results.{equal}
use Rattle.acc_base.proofs.Lookups.{at-own}
use Rattle.acc_base.proofs.Elements.{AllByRecursion-map, AllByRecursion-both}
use Rattle.acc_base.proofs.RangeChanges.{block_of}
use Rattle.acc_present.specs.Present.{IsWithinLimit, IsBelowLimit}

within_fallen : (m : ℕ) (counter : Counter) (r : Range) → IsWithinLimit m r → IsWithinLimit m (fallen counter r)
within_fallen m Structured r h = record { structured = omega (arith, h.structured); dynamic = h.dynamic }
within_fallen m Dynamic r h = record { structured = h.structured; dynamic = omega (arith, h.dynamic) }

within_cleared : (m : ℕ) (r : Range) → IsWithinLimit m r → IsWithinLimit m (cleared r)
within_cleared m r h = record { structured = h.structured; dynamic = omega arith }

within_risen : (m : ℕ) (counter : Counter) (r : Range) → counter_in counter r < m → IsWithinLimit m r → IsWithinLimit m (risen counter r)
within_risen m Structured r less h = record { structured = omega arith; dynamic = h.dynamic }
within_risen m Dynamic r less h = record { structured = h.structured; dynamic = omega arith }

-- a task leaves the range of a block within the limit, where the counter that it raises is below
within_recounted : (m : ℕ) (task : Task) (block : ℕ) (rs : List Range) (r : Range) → range_of block rs ≡ Some r → IsBelowLimit m task block rs → IsWithinLimit m r → IsWithinLimit m (recounted task r)
within_recounted m (Enter counter item queue) block rs r found below h = within_risen m counter r (subst (λ (o : Option Range). unwrap_or (option_map (counter_in counter) o) 0 < m) found below) h
within_recounted m (ExitRegion holding) block rs r found below h = within_fallen m Structured r h
within_recounted m (ExitData true item queue) block rs r found below h = within_cleared m r h
within_recounted m (ExitData false item queue) block rs r found below h = within_fallen m Dynamic r h
within_recounted m (Move if_present item queue) block rs r found below h = h

-- and so it does with all ranges
pub all_recounted : (m : ℕ) (task : Task) (block : ℕ) (rs : List Range) (r : Range) → EachPair (λ (s : Range) (t : Range). s.block ≡ t.block → ⊥) rs → range_of block rs ≡ Some r → IsBelowLimit m task block rs → AllByRecursion (IsWithinLimit m) rs → AllByRecursion (IsWithinLimit m) (changed_at block (recounted task) rs)
all_recounted m task block rs r own found below h = AllByRecursion-map (IsWithinLimit m) (λ x. cond (x.block == block) (recounted task x) x) rs (AllByRecursion-both (λ x. range_of x.block rs ≡ Some x) (IsWithinLimit m) (λ x. IsWithinLimit m (cond (x.block == block) (recounted task x) x)) rs (λ x o l. go x o l (x.block == block) refl) (at-own block_of rs own) h)
  where
    go : (x : Range) → range_of x.block rs ≡ Some x → IsWithinLimit m x → (b : Bool) → (x.block == block) ≡ b → IsWithinLimit m (cond b (recounted task x) x)
    go x o l true t = within_recounted m task block rs x (sym (ap (λ n. range_of n rs) (equal x.block block t)) ∙ o) below l
    go x o l false t = l
