-- What an entry to a region counts lies within the ranges of the blocks that it counted, after all of its tasks.
use Rattle.std.proofs.Common.{ℕ, suc, ◌≡◌, ◌+◌, ◌≤◌, refl, subst, Bool, true, List, [], ◌∷◌, map, Some, None, Ok, arith}
use Rattle.std.specs.List.{AllByRecursion}
use Rattle.std.proofs.lemmas.Bool.Decides.{nat_tests}
use Rattle.acc_clauses.specs.Words.{Section, Item, RegionClause, Range, Found, Task, Step, Did}
use Rattle.acc_base.specs.declared.mappings.Found.TheVariants.{Empty, Inside, Absent}
use Rattle.acc_base.specs.declared.mappings.Counter.TheVariants.{Structured}
use Rattle.acc_base.specs.declared.tasks.Task.TheVariants.{Enter}
use Rattle.acc_base.specs.declared.events.Step.TheVariants.{Counted, Born}
use Rattle.acc_base.specs.Limits.{Limits, IsWithinBounds}
use Rattle.acc_base.specs.Section.{is_within}
use Rattle.acc_base.specs.Records.{Records}
use Rattle.acc_base.specs.Ranges.{where_is, range_of, with_range, bare_range, risen}
use Rattle.acc_base.specs.Register.{Region}
use Rattle.acc_base.specs.Clauses.{is_attach, section_named, enter_row}
use Rattle.acc_base.specs.Tasks.{section_of, checked}
use Rattle.acc_base.specs.Steps.{judge_row, judge_step, act_row, act_step, act, act_all, records_after_birth}
use Rattle.acc_base.specs.Walk.{enter_task, block_counted, holdings_of}
use Rattle.acc_base.specs.History.{AreJudged}
use Rattle.acc_base.specs.Accounts.{AreRecordsSound}
use Rattle.acc_base.proofs.Results.{equal_self, then_ok}
use Rattle.acc_base.proofs.Judged.{IsJudgedTo, task_says, step_judged}
use Rattle.acc_base.proofs.Sound.{ranges_born, fresh}
use Rattle.acc_base.proofs.Aimed.{task_left}
use Rattle.acc_clauses.specs.Acts.{IsMappedAround}
use Rattle.acc_clauses.specs.Stored.{IsHeldWithin, IsHoldingWithin, AreHoldingsWithin}
use Rattle.acc_clauses.proofs.Legal.{mapped_around}
use Rattle.acc_clauses.proofs.Holding.{within_step, held_act, within_act, holdings_kept}

-- ---- all tasks

-- what is held stays within, whatever tasks are done
pub within_all : (l : Limits) (n : ℕ) (tasks : List Task) (dids : List Did) (w : Records) (s : Section) (b : ℕ) → AreJudged l n tasks dids w → IsHeldWithin w s b → IsHeldWithin (act_all tasks dids w) s b
unfolding act_all
within_all l n [] [] w s b judged h = h
within_all l n (t ∷ ts) (d ∷ ds) w s b judged h = within_all l (suc n) ts ds (act t d w) s b judged.2 (within_act l t d w s b (task_says l n t w d.step judged.0) h)
within_all l n _ _ w s b judged h = absurd judged

-- and so does what open regions hold
pub regions_within : (l : Limits) (n : ℕ) (tasks : List Task) (dids : List Did) (w : Records) (regions : List Region) → AreJudged l n tasks dids w → AreHoldingsWithin w regions → AreHoldingsWithin (act_all tasks dids w) regions
regions_within l n tasks dids w regions judged h = holdings_kept w (act_all tasks dids w) regions (λ s k p. within_all l n tasks dids w s k judged p) h

-- ---- what an entry counts

-- a section whose block is counted is inside the block's range
counted_inside : (l : Limits) (clause : RegionClause) (section : Section) (n k : ℕ) (w : Records) (found : Found) → enter_row found l Structured clause n section w ≡ Ok (Counted k) → where_is section w.ranges ≡ found
    → (o : ℕ) × (where_is section w.ranges ≡ Inside k o)
counted_inside l clause section n k w found e f = grind (arith, nat_tests)

counted_says : (l : Limits) (item : Item RegionClause) (n k : ℕ) (w : Records) → judge_step l n (Enter Structured item None) w ≡ Ok (Counted k) → (o : ℕ) × (where_is (section_of (Enter Structured item None)) w.ranges ≡ Inside k o)
unfolding judge_row
counted_says l item n k w e = counted_inside l item.clause (section_of (Enter Structured item None)) n k w (where_is (section_of (Enter Structured item None)) w.ranges) (then_ok (checked l n (Enter Structured item None)) _ (Counted k) (step_judged l n (Enter Structured item None) w (Counted k) e).row).1 refl

-- an item whose section is not empty has it whole: it names no pointer alone
named_whole : (alone : Bool) (s : Section) (ranges : List Range) (found : Found) → where_is (section_named alone s) ranges ≡ found → (found ≡ Empty → ⊥) → section_named alone s ≡ s
named_whole alone s ranges found e some = grind (arith, nat_tests)

-- a new range is the one of its block
range-with_same : (new : Range) (rs : List Range) → range_of new.block rs ≡ None → range_of new.block (with_range new rs) ≡ Some new
range-with_same new [] p = rw equal_self
range-with_same new (r ∷ rs) p = grind (arith, nat_tests, range-with_same new rs)

within_self : (s : Section) → is_within s s ≡ true
within_self s = grind (arith, nat_tests)

born_within : (l : Limits) (item : Item RegionClause) (k p : ℕ) (w : Records) → AreRecordsSound l w → k ≡ w.births + 1 → IsHeldWithin (act_step (Enter Structured item None) (Born k p) w) (section_of (Enter Structured item None)) k
unfolding act_step act_row records_after_birth
born_within l item k p w sound number =
    let new : Range = risen Structured (bare_range (section_of (Enter Structured item None)) k) in
    let there : range_of k (with_range new w.ranges) ≡ Some new = range-with_same new w.ranges (fresh l w k sound number) in
    record {
      born = omega (arith, number);
      within = λ r e. let same : new ≡ r = cc in subst (λ (x : Range). is_within (section_of (Enter Structured item None)) x.section ≡ true) same (within_self (section_of (Enter Structured item None)));
    }

counted_within : (l : Limits) (w : Records) (section : Section) (k o : ℕ) → AreRecordsSound l w → where_is section w.ranges ≡ Inside k o → IsHeldWithin w section k
counted_within l w section k o sound e =
    let around : IsMappedAround w section k = mapped_around l w section k o sound e in
    record {
      born = born_of w.ranges around.range (ranges_born l w sound) around.range_is;
      within = λ r f. let at : range_of k w.ranges ≡ Some around.range = around.range_is in let same : around.range ≡ r = cc in subst (λ (x : Range). is_within section x.section ≡ true) same around.within;
    }
  where
    born_of : (rs : List Range) (r : Range) → AllByRecursion (λ (x : Range). x.block ≤ w.births) rs → range_of k rs ≡ Some r → k ≤ w.births
    born_of [] r h f = cc
    born_of (x ∷ xs) r h f = grind (arith, nat_tests, born_of xs r h.1)

-- what one item's entry counts
first_within : (l : Limits) (n : ℕ) (item : Item RegionClause) (step : Step) (w : Records) → AreRecordsSound l w → judge_step l n (Enter Structured item None) w ≡ Ok step → (k : ℕ) → block_counted step ≡ Some k
    → IsHeldWithin (act_step (Enter Structured item None) step w) item.section k
first_within l n item (Counted b) w sound e k c =
    let says : IsJudgedTo l (Enter Structured item None) (Counted b) w = task_says l n (Enter Structured item None) w (Counted b) e in
    let inside : (o : ℕ) × (where_is (section_of (Enter Structured item None)) w.ranges ≡ Inside b o) = counted_says l item n b w e in
    let whole : section_of (Enter Structured item None) ≡ item.section = named_whole (is_attach item.clause) item.section w.ranges (Inside b inside.0) inside.1 (λ same. cc) in
    let same : b ≡ k = cc in
    subst (λ s. IsHeldWithin (act_step (Enter Structured item None) (Counted b) w) s k) whole
    (subst (IsHeldWithin (act_step (Enter Structured item None) (Counted b) w) (section_of (Enter Structured item None))) same
    (within_step l (Enter Structured item None) (Counted b) w (section_of (Enter Structured item None)) b says (counted_within l w (section_of (Enter Structured item None)) b inside.0 sound inside.1)))
first_within l n item (Born b p) w sound e k c =
    let says : IsJudgedTo l (Enter Structured item None) (Born b p) w = task_says l n (Enter Structured item None) w (Born b p) e in
    let whole : section_of (Enter Structured item None) ≡ item.section = named_whole (is_attach item.clause) item.section w.ranges Absent says.absent (λ same. cc) in
    let same : b ≡ k = cc in
    subst (λ s. IsHeldWithin (act_step (Enter Structured item None) (Born b p) w) s k) whole
    (subst (IsHeldWithin (act_step (Enter Structured item None) (Born b p) w) (section_of (Enter Structured item None))) same (born_within l item b p w sound says.number))
first_within l n item _ w sound e k c = cc

-- what all items of an entry count
pub entered_within : (l : Limits) (n : ℕ) (items : List (Item RegionClause)) (dids : List Did) (w : Records) → IsWithinBounds l → AreRecordsSound l w → AreJudged l n (map enter_task items) dids w
    → AllByRecursion (IsHoldingWithin (act_all (map enter_task items) dids w)) (holdings_of items dids)
unfolding act_all
entered_within l n [] [] w bounds sound judged = tt
entered_within l n (i ∷ is) (d ∷ ds) w bounds sound judged =
    let v : Records = act (Enter Structured i None) d w in
    let later : AreRecordsSound l v = (task_left l (Enter Structured i None) d w bounds sound (task_says l n (Enter Structured i None) w d.step judged.0) (step_judged l n (Enter Structured i None) w d.step judged.0).free judged.1).sound in (
      (λ k e. within_all l (suc n) (map enter_task is) ds v i.section k judged.2 (held_act (Enter Structured i None) d w i.section k (first_within l n i d.step w sound judged.0 k e))),
      entered_within l (suc n) is ds v bounds later judged.2,
    )
entered_within l n _ _ w bounds sound judged = absurd judged
