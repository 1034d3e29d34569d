-- What is held stays within the range of its block, whatever step is done; and each task that leaves finds what it
-- held.
use Rattle.std.proofs.Common.{ℕ, suc, ◌≡◌, ◌+◌, ◌-◌, ◌≤◌, refl, sym, ◌∙◌, ap, subst, Bool, true, false, cond, List, [], ◌∷◌, map, Option, Some, arith}
use Rattle.std.specs.Prelude.{◌==◌}
use Rattle.std.specs.List.{AllByRecursion}
use Rattle.std.proofs.lemmas.Bool.Decides.{nat_tests}
use Rattle.std.proofs.lemmas.List.Sums.{sum_by-cons}
use Rattle.acc_clauses.specs.Words.{Section, Range, Holding, Task, Step, Did}
use Rattle.acc_base.specs.declared.mappings.Counter.TheVariants.{Structured}
use Rattle.acc_base.specs.declared.tasks.Task.TheVariants.{ExitRegion}
use Rattle.acc_base.specs.declared.events.Step.TheVariants.{Counted, Born, Dropped}
use Rattle.acc_base.specs.Limits.{Limits, IsWithinBounds}
use Rattle.acc_base.specs.Section.{is_within}
use Rattle.acc_base.specs.Records.{Records}
use Rattle.acc_base.specs.Ranges.{range_of, structured_of, changed_at, without_range}
use Rattle.acc_base.specs.Register.{Region, is_counted_block, count_held}
use Rattle.acc_base.specs.Tasks.{recounted}
use Rattle.acc_base.specs.Steps.{act_row, act_step, act, released, records_after_birth, records_after_end, with_range_changed}
use Rattle.acc_base.specs.History.{AreJudged}
use Rattle.acc_base.specs.Accounts.{AreRecordsSound}
use Rattle.acc_base.proofs.Elements.{AllByRecursion-weaker}
use Rattle.acc_base.proofs.RangeChanges.{block_of}
use Rattle.acc_base.proofs.Lookups.{at-changed, at-without_same, at-without_other}
use Rattle.acc_base.proofs.Judged.{IsJudgedTo, task_says, step_judged}
use Rattle.acc_base.proofs.Recounted.{names, birth_number}
use Rattle.acc_base.proofs.Aimed.{IsLeft, task_left}
use Rattle.acc_base.proofs.Memories.{recounted-block, recounted-section}
use Rattle.acc_clauses.specs.Acts.{IsKnown, AreKnown}
use Rattle.acc_clauses.specs.Stored.{IsHeldWithin, IsHoldingWithin, AreHoldingsWithin}
use Rattle.acc_base.proofs.SameMapping.{mapping-act}
use Rattle.acc_base.proofs.Lending.{range_of-with_other}

-- ---- the range of a block after a step

-- a change of counters leaves sections
within_changed : (task : Task) (k b : ℕ) (rs : List Range) (s : Section) → ((r : Range) → range_of b rs ≡ Some r → is_within s r.section ≡ true) → (r : Range) → range_of b (changed_at k (recounted task) rs) ≡ Some r → is_within s r.section ≡ true
within_changed task k b rs s h r e = grind (arith, nat_tests, at-changed block_of k b (recounted task) rs (recounted-block task), recounted-section task)

-- an end leaves the ranges of other blocks
within_without : (k b : ℕ) (rs : List Range) (s : Section) → ((r : Range) → range_of b rs ≡ Some r → is_within s r.section ≡ true) → (r : Range) → range_of b (without_range k rs) ≡ Some r → is_within s r.section ≡ true
within_without k b rs s h r e = grind (arith, nat_tests, at-without_same block_of k rs, at-without_other block_of k b rs)

-- what is held stays within after a step
pub within_step : (l : Limits) (task : Task) (step : Step) (w : Records) (s : Section) (b : ℕ) → IsJudgedTo l task step w → IsHeldWithin w s b → IsHeldWithin (act_step task step w) s b
unfolding act_step act_row released records_after_birth records_after_end with_range_changed
within_step l task (Counted k) w s b says h = record { born = h.born; within = within_changed task k b w.ranges s h.within }
within_step l task (Born k p) w s b says h = grind (arith, nat_tests, birth_number, range_of-with_other)
within_step l task (Dropped k true) w s b says h = record { born = h.born; within = within_without k b w.ranges s h.within }
within_step l task (Dropped k false) w s b says h = record { born = h.born; within = within_changed task k b w.ranges s h.within }
within_step l task _ w s b says h = record { born = h.born; within = h.within }

-- what is held does not hang on other records than ranges and births
held_same : (w v : Records) (s : Section) (b : ℕ) → v.ranges ≡ w.ranges → v.births ≡ w.births → IsHeldWithin w s b → IsHeldWithin v s b
held_same w v s b ranges births h = record { born = subst (λ n. b ≤ n) (sym births) h.born; within = λ r e. h.within r (ap (range_of b) (sym ranges) ∙ e) }

-- what open regions hold stays within where each section that is held does
pub holdings_kept : (w v : Records) (regions : List Region) → ((s : Section) (k : ℕ) → IsHeldWithin w s k → IsHeldWithin v s k) → AreHoldingsWithin w regions → AreHoldingsWithin v regions
holdings_kept w v regions keeps h = AllByRecursion-weaker (λ (r : Region). AllByRecursion (IsHoldingWithin w) r.holdings) (λ (r : Region). AllByRecursion (IsHoldingWithin v) r.holdings) regions
    (λ r held. AllByRecursion-weaker (IsHoldingWithin w) (IsHoldingWithin v) r.holdings (λ x p k e. keeps x.item.section k (p k e)) held) h

pub holdings_same : (w v : Records) (regions : List Region) → v.ranges ≡ w.ranges → v.births ≡ w.births → AreHoldingsWithin w regions → AreHoldingsWithin v regions
holdings_same w v regions ranges births h = holdings_kept w v regions (λ s k p. held_same w v s k ranges births p) h

-- the pointer of a task changes nothing of what is held
pub held_act : (task : Task) (did : Did) (w : Records) (s : Section) (b : ℕ) → IsHeldWithin (act_step task did.step w) s b → IsHeldWithin (act task did w) s b
held_act task did w s b h = held_same (act_step task did.step w) (act task did w) s b (mapping-act task did w).ranges (mapping-act task did w).births h

-- so it stays within after a task
pub within_act : (l : Limits) (task : Task) (did : Did) (w : Records) (s : Section) (b : ℕ) → IsJudgedTo l task did.step w → IsHeldWithin w s b → IsHeldWithin (act task did w) s b
within_act l task did w s b says h = held_act task did w s b (within_step l task did.step w s b says h)

-- ---- exit from a region

-- a block whose structured counter is above zero is mapped
counted_mapped : (k : ℕ) (ranges : List Range) → 1 ≤ structured_of k ranges → (r : Range) × (range_of k ranges ≡ Some r)
counted_mapped k ranges h = grind (arith, nat_tests)

held-cons : (b : ℕ) (h : Holding) (hs : List Holding) → count_held b (h ∷ hs) ≡ cond (is_counted_block b h.block) 1 0 + count_held b hs
held-cons b h hs = sum_by-cons (λ (x : Holding). cond (is_counted_block b x.block) 1 0) h hs

counted_self : (k : ℕ) (block : Option ℕ) → block ≡ Some k → ◌≡◌ {A = ℕ} (cond (is_counted_block k block) 1 0) 1
counted_self k block e = let same : (k == k) ≡ true = grind (arith, nat_tests) in rw (e, same) refl

-- what a task that leaves makes of the structured counter of a block
leave_counts : (l : Limits) (b : ℕ) (h : Holding) (step : Step) (w : Records) → IsJudgedTo l (ExitRegion h) step w → names b step ≡ is_counted_block b h.block
leave_counts l b h step w says = grind (arith, nat_tests)

-- the counters still cover what is left to undo
covers_next : (c : Bool) (m n k : ℕ) → cond c 1 0 + n ≤ m → k ≡ cond c (m - 1) m → n ≤ k
covers_next c m n k h e = grind (arith, nat_tests)

-- each task of the exit from a region finds the block that its entry counted
pub leaves_known : (l : Limits) (n : ℕ) (hs : List Holding) (dids : List Did) (w : Records) → IsWithinBounds l → AreRecordsSound l w → AreJudged l n (map ExitRegion hs) dids w → AllByRecursion (IsHoldingWithin w) hs
    → ((b : ℕ) → count_held b hs ≤ structured_of b w.ranges) → AreKnown (map ExitRegion hs) dids w
leaves_known l n [] [] w bounds sound judged within covers = tt
leaves_known l n (h ∷ hs) (d ∷ ds) w bounds sound judged within covers = (known, leaves_known l (suc n) hs ds v bounds left.sound judged.2 later covered)
  where
    v : Records
    v = act (ExitRegion h) d w

    says : IsJudgedTo l (ExitRegion h) d.step w
    says = task_says l n (ExitRegion h) w d.step judged.0

    left : IsLeft l (ExitRegion h) d w v
    left = task_left l (ExitRegion h) d w bounds sound says (step_judged l n (ExitRegion h) w d.step judged.0).free judged.1

    known : IsKnown w (ExitRegion h)
    known k e =
        let one : count_held k (h ∷ hs) ≡ cond (is_counted_block k h.block) 1 0 + count_held k hs = held-cons k h hs in
        let self : ◌≡◌ {A = ℕ} (cond (is_counted_block k h.block) 1 0) 1 = counted_self k h.block e in
        let mapped : (r : Range) × (range_of k w.ranges ≡ Some r) = counted_mapped k w.ranges (omega (arith, covers k, one, self)) in
        record { range = mapped.0; range_is = mapped.1; within = (within.0 k e).within mapped.0 mapped.1 }

    later : AllByRecursion (IsHoldingWithin v) hs
    later = AllByRecursion-weaker (IsHoldingWithin w) (IsHoldingWithin v) hs (λ x p k e. within_act l (ExitRegion h) d w x.item.section k says (p k e)) within.1

    covered : (b : ℕ) → count_held b hs ≤ structured_of b v.ranges
    covered b =
        let after : structured_of b v.ranges ≡ cond (names b d.step) (structured_of b w.ranges - 1) (structured_of b w.ranges) = left.counter_is Structured b in
        let named : structured_of b v.ranges ≡ cond (is_counted_block b h.block) (structured_of b w.ranges - 1) (structured_of b w.ranges) =
        after ∙ ap (λ t. cond t (structured_of b w.ranges - 1) (structured_of b w.ranges)) (leave_counts l b h d.step w says) in
        let one : count_held b (h ∷ hs) ≡ cond (is_counted_block b h.block) 1 0 + count_held b hs = held-cons b h hs in
        covers_next (is_counted_block b h.block) (structured_of b w.ranges) (count_held b hs) (structured_of b v.ranges) (omega (arith, covers b, one)) named
leaves_known l n _ _ w bounds sound judged within covers = tt
