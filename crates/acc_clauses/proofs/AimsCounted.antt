-- The attachment counter of a pointer after tasks is what the fold over them gives, where the pointer lies in a block
-- then.
use Rattle.std.proofs.Common.{ℕ, ◌≡◌, ◌≤◌, refl, sym, ap, ◌∙◌, subst, Bool, true, false, cond, List, [], ◌∷◌, suc, Some, None, arith}
use Rattle.std.specs.Prelude.{◌==◌}
use Rattle.std.proofs.lemmas.Bool.Decides.{nat_tests}
use Rattle.acc_clauses.specs.Words.{Counter, Task, Step, Did}
use Rattle.acc_base.specs.declared.mappings.Counter.TheVariants.{Structured, Dynamic}
use Rattle.acc_base.specs.declared.events.Step.TheVariants.{Counted, Born, Dropped}
use Rattle.acc_base.specs.Limits.{Limits, IsWithinBounds}
use Rattle.acc_base.specs.Records.{Records}
use Rattle.acc_base.specs.Ranges.{range_of, counter_in, counter_of}
use Rattle.acc_base.specs.Attachments.{count_at, count_after}
use Rattle.acc_base.specs.Steps.{records_after_birth, records_after_end, released, with_range_changed, act_row, act_step, act, act_all}
use Rattle.acc_base.specs.Detaching.{block_with}
use Rattle.acc_base.specs.History.{AreJudged}
use Rattle.acc_base.specs.Accounts.{AreRecordsSound}
use Rattle.acc_base.proofs.Results.{equal, equal_self}
use Rattle.acc_base.proofs.Elements.{found_has}
use Rattle.acc_base.proofs.Counting.{without_read}
use Rattle.acc_base.proofs.Recounted.{moved_by, names}
use Rattle.acc_base.proofs.Judged.{IsJudgedTo, task_says}
use Rattle.acc_base.proofs.SameMapping.{mapping-act}
use Rattle.acc_base.proofs.Attached.{count_at-attached_by, count_at-without_other}
use Rattle.acc_base.proofs.Aimed.{IsLeft}
use Rattle.acc_base.proofs.AllTasks.{all_left}
use Rattle.acc_base.proofs.Births.{births_least}
use Rattle.acc_clauses.specs.declared.acted.Acted.{Acted}
use Rattle.acc_clauses.specs.Overlays.{tasks_in, dids_in, records_after, IsPlanned}
use Rattle.acc_clauses.specs.Aims.{count_over}
use Rattle.acc_clauses.proofs.AimsFound.{pointer_in_block}
use Rattle.acc_clauses.proofs.Overlaid.{first_left}

-- ---- a block whose mapping has ended is never mapped again

-- the block was born, and no range has it
record IsGone (w : Records) (block : ℕ) : Type 0 where
  born : block ≤ w.births
  zero : (counter : Counter) → counter_of counter block w.ranges ≡ 0

-- no range has both counters at zero
not_mapped : (l : Limits) (w : Records) (block : ℕ) → AreRecordsSound l w → ((counter : Counter) → counter_of counter block w.ranges ≡ 0) → range_of block w.ranges ≡ None
not_mapped l w block h zero = grind (arith, nat_tests, found_has, zero Structured, zero Dynamic)

-- a task leaves the counters of a block that is gone at zero
zero_counts : (l : Limits) (task : Task) (step : Step) (w : Records) (block : ℕ) (counter : Counter) → AreRecordsSound l w → IsJudgedTo l task step w → IsGone w block
    → cond (names block step) (moved_by counter task (counter_of counter block w.ranges)) (counter_of counter block w.ranges) ≡ 0
zero_counts l task (Counted k) w block counter h says gone = grind (arith, nat_tests, equal, not_mapped l w block h gone.zero)
zero_counts l task (Born k p) w block counter h says gone = grind (arith, nat_tests)
zero_counts l task (Dropped k ended) w block counter h says gone = grind (arith, nat_tests)
zero_counts l task _ w block counter h says gone = gone.zero counter

gone-act : (l : Limits) (task : Task) (did : Did) (w : Records) (block : ℕ) → AreRecordsSound l w → IsJudgedTo l task did.step w → IsLeft l task did w (act task did w) → IsGone w block → IsGone (act task did w) block
gone-act l task did w block h says left gone =
    let births : w.births ≤ (act task did w).births = subst (λ n. w.births ≤ n) (sym (mapping-act task did w).births) (births_least task did.step w) in
    let born = gone.born in
    record { born = omega (arith, born, births); zero = λ counter. left.counter_is counter block ∙ zero_counts l task did.step w block counter h says gone }

gone-after : (l : Limits) (n : ℕ) (xs : List Acted) (w : Records) (block : ℕ) → IsWithinBounds l → AreRecordsSound l w → AreJudged l n (tasks_in xs) (dids_in xs) w → IsGone w block → IsGone (records_after xs w) block
unfolding act_all
gone-after l n [] w block bounds h judged gone = gone
gone-after l n (x ∷ xs) w block bounds h judged gone =
    let says = task_says l n x.task w x.did.step judged.0 in
    let left : IsLeft l x.task x.did w (act x.task x.did w) = first_left l n x xs w bounds h judged in
    gone-after l (suc n) xs (act x.task x.did w) block bounds left.sound judged.2 (gone-act l x.task x.did w block h says left gone)

-- the block whose mapping a task ends was born
ended_born : (l : Limits) (task : Task) (k : ℕ) (w : Records) → AreRecordsSound l w → IsJudgedTo l task (Dropped k true) w → k ≤ w.births
ended_born l task k w h says = grind (arith, nat_tests, found_has, equal)

-- and is gone then
gone_ended : (l : Limits) (task : Task) (k : ℕ) (w : Records) → AreRecordsSound l w → IsJudgedTo l task (Dropped k true) w → IsGone (act_step task (Dropped k true) w) k
unfolding act_step act_row records_after_end released
gone_ended l task k w h says = record { born = ended_born l task k w h says; zero = λ counter. without_read (counter_in counter) k k w.ranges ∙ ap (λ t. cond t 0 (counter_of counter k w.ranges)) (equal_self k) }

-- ---- the counter of a pointer

-- the step ends the mapping to the block
abbrev ends : ℕ → Step → Bool
ends block (Dropped k true) = k == block
ends block _ = false

-- a step leaves the counters of the blocks whose mapping it does not end
count-step : (task : Task) (step : Step) (w : Records) (block pointer : ℕ) → ends block step ≡ false → count_at block pointer (act_step task step w).attached ≡ count_at block pointer w.attached
unfolding act_step act_row with_range_changed records_after_birth records_after_end released
count-step task step w block pointer other = grind (arith, nat_tests, count_at-without_other)

-- so does a task, but for what becomes of its pointer
count-act : (task : Task) (did : Did) (w : Records) (block pointer : ℕ) → ends block did.step ≡ false → count_at block pointer (act task did w).attached ≡ count_after block pointer did.aim (count_at block pointer w.attached)
unfolding act
count-act task did w block pointer other = grind (arith, nat_tests, count_at-attached_by, count-step)

-- the first of some tasks did not end a block that is not gone after them
ends_none : (l : Limits) (n : ℕ) (x : Acted) (xs : List Acted) (w : Records) (block : ℕ) → IsWithinBounds l → AreRecordsSound l w → AreJudged l n (tasks_in (x ∷ xs)) (dids_in (x ∷ xs)) w
    → (IsGone (records_after xs (act x.task x.did w)) block → ⊥) → ends block x.did.step ≡ false
ends_none l n x xs w block bounds h judged mapped = go x.did.step refl
  where
    says : IsJudgedTo l x.task x.did.step w
    says = task_says l n x.task w x.did.step judged.0

    sound : AreRecordsSound l (act x.task x.did w)
    sound = (first_left l n x xs w bounds h judged).sound

    gone : (k : ℕ) → x.did.step ≡ Dropped k true → IsGone (act x.task x.did w) k
    gone k is = grind (arith, nat_tests, gone_ended, says, mapping-act)

    last : (k : ℕ) → x.did.step ≡ Dropped k true → (t : Bool) → (k == block) ≡ t → t ≡ false
    last k is true e = absurd (mapped (gone-after l (suc n) xs (act x.task x.did w) block bounds sound judged.2 (subst (IsGone (act x.task x.did w)) (equal k block e) (gone k is))))
    last k is false e = refl

    go : (step : Step) → x.did.step ≡ step → ends block step ≡ false
    go step is = grind (arith, nat_tests, last)

-- the counter of a pointer in a block that is not gone after tasks
count-after : (l : Limits) (n : ℕ) (xs : List Acted) (w : Records) (block pointer : ℕ) → IsWithinBounds l → AreRecordsSound l w → AreJudged l n (tasks_in xs) (dids_in xs) w → (IsGone (records_after xs w) block → ⊥)
    → count_over block pointer (count_at block pointer w.attached) xs ≡ count_at block pointer (records_after xs w).attached
unfolding act_all
count-after l n [] w block pointer bounds h judged mapped = refl
count-after l n (x ∷ xs) w block pointer bounds h judged mapped =
    ap (λ c. count_over block pointer c xs) (sym (count-act x.task x.did w block pointer (ends_none l n x xs w block bounds h judged mapped)))
    ∙ count-after l (suc n) xs (act x.task x.did w) block pointer bounds (first_left l n x xs w bounds h judged).sound judged.2 mapped

-- a block that holds a pointer is not gone
holds_not_gone : (l : Limits) (w : Records) (block pointer : ℕ) → AreRecordsSound l w → block_with pointer w.ranges ≡ Some block → IsGone w block → ⊥
holds_not_gone l w block pointer h there gone = grind (arith, nat_tests, pointer_in_block l w block pointer h there, not_mapped l w block h gone.zero)

-- the counter of a pointer that lies in the block after the tasks
pub count-planned : (l : Limits) (xs : List Acted) (w : Records) (block pointer : ℕ) → IsPlanned l xs w → block_with pointer (records_after xs w).ranges ≡ Some block
    → count_over block pointer (count_at block pointer w.attached) xs ≡ count_at block pointer (records_after xs w).attached
count-planned l xs w block pointer p there =
    count-after l 0 xs w block pointer p.bounds p.sound p.judged
    (holds_not_gone l (records_after xs w) block pointer (all_left l 0 (tasks_in xs) (dids_in xs) w p.bounds p.sound p.judged).sound there)

pub ruleset count_laws = (count-planned)
