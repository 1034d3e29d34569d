-- A step that a task is judged to do can be done.
use Rattle.std.proofs.Common.{ℕ, ◌≡◌, ◌+◌, ◌<◌, ◌≤◌, ◌^◌, sym, subst, true, false, List, [], ◌∷◌, Option, Some, None, arith}
use Rattle.std.specs.Prelude.{◌==◌, IsSome}
use Rattle.std.specs.List.{AllByRecursion, AllZip}
use Rattle.std.proofs.lemmas.Bool.Decides.{nat_tests}
use Rattle.acc_base.specs.declared.addresses.TheConstants.{MEMORY_MAX}
use Rattle.acc_clauses.specs.Words.{Section, Range, Block, Loan, Task, Step}
use Rattle.acc_base.specs.Loans.{is_lent}
use Rattle.acc_base.specs.declared.mappings.Found.TheVariants.{Inside}
use Rattle.acc_base.specs.declared.tasks.Task.TheVariants.{Enter, ExitRegion, ExitData, Move}
use Rattle.acc_base.specs.declared.events.Step.TheVariants.{Nothing, Counted, Born, Dropped, Moved}
use Rattle.acc_base.specs.Limits.{Limits, IsWithinBounds, IsFromOne}
use Rattle.acc_base.specs.Section.{end_of, is_within, host_memory, device_memory}
use Rattle.acc_base.specs.Queues.{pins_of}
use Rattle.acc_base.specs.Records.{Records, Memory, State}
use Rattle.acc_base.specs.Ranges.{where_is, range_of}
use Rattle.acc_base.specs.Blocks.{block_at}
use Rattle.acc_base.specs.Tasks.{section_of}
use Rattle.acc_base.specs.Accounts.{IsCounted, IsMemoryOf, AreRecordsSound, AreMemoriesSized}
use Rattle.acc_base.proofs.Results.{equal}
use Rattle.acc_base.proofs.Elements.{AllByRecursion-weaker, found_has}
use Rattle.acc_base.proofs.Lookups.{at-own}
use Rattle.acc_base.proofs.Where.{IsInsideOf, inside_says}
use Rattle.acc_base.proofs.Judged.{IsBirth, IsInRangeOf, IsJudgedTo}
use Rattle.acc_base.proofs.Sound.{ranges_born}
use Rattle.acc_clauses.specs.Acts.{IsMappedAround, IsKnown, CanMove, CanBear, CanAct}
use Rattle.acc_clauses.proofs.Marked.{unborn_unpinned}
use Rattle.acc_clauses.proofs.Moving.{bytes_of-len}
use Rattle.acc_clauses.proofs.Steps.{is_some}

-- ---- sections

-- and ends below it
pub host_end : (s : Section) (n : ℕ) → is_within s (host_memory n) ≡ true → n ≤ MEMORY_MAX → end_of s ≤ 2 ^ 40
host_end s n h most = grind (arith, nat_tests)

-- the range of the block of a section that is inside a range
pub mapped_around : (l : Limits) (w : Records) (section : Section) (k o : ℕ) → AreRecordsSound l w → where_is section w.ranges ≡ Inside k o → IsMappedAround w section k
mapped_around l w section k o h e =
    let found : (r : Range) × IsInsideOf section w.ranges k o r = inside_says section w.ranges k o e in
    let has : (range_of found.0.block w.ranges ≡ Some found.0) × (is_within section found.0.section ≡ true) =
    found_has (λ r. range_of r.block w.ranges ≡ Some r) (λ r. is_within section r.section) w.ranges found.0 (at-own (λ (r : Range). r.block) w.ranges h.one_block_each.distinct) found.1.around in
    record { range = found.0; range_is = subst (λ n. range_of n w.ranges ≡ Some found.0) found.1.block_is has.0; within = has.1 }

pub can_move : (l : Limits) (s : State) (section : Section) (k : ℕ) → IsWithinBounds l → AreRecordsSound l s.records → AreMemoriesSized l s → IsMappedAround s.records section k → CanMove section k s
can_move l s section k bounds h m around = grind (arith, nat_tests, found_has, equal, host_end, is_some, bytes_of-len)

-- the counters of the range of a block keep their limit
pub limit_of : (l : Limits) (w : Records) (k : ℕ) (r : Range) → AreRecordsSound l w → range_of k w.ranges ≡ Some r → IsCounted l r
limit_of l w k r h e = let has : IsCounted l r × ((r.block == k) ≡ true) = found_has (IsCounted l) (λ t. t.block == k) w.ranges r h.counted e in has.0

-- the block of a number above the births has no memory
no_memory : (ls : List Loan) (k births : ℕ) (ms : List Memory) (bs : List Block) → AllZip (IsMemoryOf ls) ms bs → AllByRecursion (λ b. b.number ≤ births) bs → k ≡ births + 1 → AllByRecursion (λ m. m.block ≡ k → ⊥) ms
no_memory ls k births [] bs h low e = tt
no_memory ls k births (m ∷ ms) [] h low e = absurd h
no_memory ls k births (m ∷ ms) (b ∷ bs) h low e = grind (arith, nat_tests, no_memory ls k births ms bs h.1 low.1 e)

-- nor has it an attachment counter
no_pointer : (l : Limits) (k : ℕ) (w : Records) → AreRecordsSound l w → k ≡ w.births + 1 → AllByRecursion (λ a. a.block ≡ k → ⊥) w.attached
no_pointer l k w h e = AllByRecursion-weaker (λ a. IsSome (block_at a.block w.blocks)) (λ a. a.block ≡ k → ⊥) w.attached (λ a there same. grind (arith, nat_tests, found_has)) h.attached.there

-- nor a loan
unborn_free : (l : Limits) (w : Records) (k : ℕ) → k ≡ w.births + 1 → AreRecordsSound l w → is_lent k w.loans ≡ false
unborn_free l w k number h = grind (arith, nat_tests, found_has)

-- a look-up that does not find nothing finds something
not_none : {X : Type 0} (o : Option X) → (o ≡ None → ⊥) → IsSome o
not_none o h = grind (arith, nat_tests)

-- ---- what each step needs

-- a block that can be born is not too long
pub birth_len : (l : Limits) (section : Section) (k place : ℕ) (w : Records) → IsWithinBounds l → IsBirth l section k place w → IsFromOne MEMORY_MAX section.len
birth_len l section k place w bounds says = grind (arith, nat_tests)

can_bear : (l : Limits) (s : State) (section : Section) (k place : ℕ) → IsWithinBounds l → AreRecordsSound l s.records → AreMemoriesSized l s → s.records.births < 2 ^ 48 → IsBirth l section k place s.records
    → CanBear l.counter_max (device_memory l) section k place s
can_bear l s section k place bounds h m few says =
    record {
      in_host = subst (λ n. is_within section (host_memory n) ≡ true) (sym m.host) says.within;
      absent = says.absent;
      len = birth_len l section k place s.records bounds says;
      number = says.number;
      place_is = says.place_is;
      few = few;
      no_range = AllByRecursion-weaker (λ (r : Range). r.block ≤ s.records.births) (λ r. r.block ≡ k → ⊥) s.records.ranges (λ r n same. let number : k ≡ s.records.births + 1 = says.number in omega arith) (ranges_born l s.records h);
      no_memory = no_memory s.records.loans k s.records.births s.memories s.records.blocks m.blocks h.blocks_apart.born says.number;
      no_pointer = no_pointer l k s.records h says.number;
      no_transfer = subst (λ n. pins_of n s.records.queues ≡ 0) (sym says.number) (unborn_unpinned l s.records.blocks s.records.births s.records.queues h.blocks_apart.born h.queues);
      no_loan = unborn_free l s.records k says.number h;
      counted = bounds.counter_max.0;
    }

can_range : (l : Limits) (s : State) (section : Section) (k : ℕ) → IsWithinBounds l → AreRecordsSound l s.records → AreMemoriesSized l s → IsInRangeOf l section k s.records → CanMove section k s
can_range l s section k bounds h m says = can_move l s section k bounds h m (mapped_around l s.records section k says.offset h says.inside)

pub can_by : (l : Limits) (s : State) (task : Task) (step : Step) → IsWithinBounds l → AreRecordsSound l s.records → AreMemoriesSized l s → s.records.births < 2 ^ 48 → IsKnown s.records task → IsJudgedTo l task step s.records
    → CanAct l.counter_max (device_memory l) task step s
can_by l s task Nothing bounds h m few known says = tt
can_by l s (Enter counter item queue) (Counted k) bounds h m few known says = record { there = not_none (range_of k s.records.ranges) says.mapped; below = says.room }
can_by l s (Enter counter item queue) (Born k p) bounds h m few known says = (tt, can_bear l s (section_of (Enter counter item queue)) k p bounds h m few says)
can_by l s (ExitRegion holding) (Dropped k ended) bounds h m few known says = record { move = can_move l s holding.item.section k bounds h m (known k says.0); not_entry = λ x. x; ends = sym says.1 }
can_by l s (ExitData finalize item queue) (Dropped k ended) bounds h m few known says = record { move = can_range l s (section_of (ExitData finalize item queue)) k bounds h m says.range; not_entry = λ x. x; ends = sym says.ended_is }
can_by l s (Move if_present item queue) (Moved k) bounds h m few known says = can_range l s item.section k bounds h m says
can_by l s _ _ bounds h m few known says = absurd says
