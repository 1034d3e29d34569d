-- What is read of the records after tasks is what the overlays give of the records before them.
use Rattle.std.proofs.lemmas.Bool.Decides.{nat_tests}
use Rattle.std.proofs.Common.{ℕ, ◌≡◌, ◌+◌, refl, sym, ap, ◌∙◌, Bool, true, false, cond, ◌||◌, List, [], ◌∷◌, ◌++◌, length, suc, arith}
use Rattle.std.specs.List.{list_all, list_any}
use Rattle.std.proofs.lemmas.List.{append-nil, append_assoc, length-append}
use Rattle.acc_clauses.specs.Words.{Section, Range, Counter, Task, Step, Did}
use Rattle.acc_base.specs.declared.events.Step.TheVariants.{Born}
use Rattle.acc_base.specs.Limits.{Limits, IsWithinBounds}
use Rattle.acc_base.specs.Records.{Records}
use Rattle.acc_base.specs.Ranges.{where_is, where_is_apart, counter_of}
use Rattle.acc_base.specs.Tasks.{section_of}
use Rattle.acc_base.specs.Steps.{records_after_birth, records_after_end, released, with_range_changed, act_row, act_step, act, act_all}
use Rattle.acc_base.specs.History.{AreJudged}
use Rattle.acc_base.specs.Accounts.{AreRecordsSound}
use Rattle.acc_base.proofs.Judged.{IsJudgedTo, IsBirth, step_judged, task_says}
use Rattle.acc_base.proofs.Results.{and_true}
use Rattle.acc_base.proofs.Recounted.{moved_by, names}
use Rattle.acc_base.proofs.Sound.{recounted_keeps}
use Rattle.acc_base.proofs.Aimed.{task_left, IsLeft}
use Rattle.acc_base.proofs.Where.{absent_says}
use Rattle.acc_dev.specs.Device.{planned_blocks}
use Rattle.acc_clauses.specs.declared.acted.Acted.{Acted}
use Rattle.acc_clauses.specs.Overlays.{tasks_in, dids_in, records_after, enters, birth_by, births_of, end_by, ended_of, found_by, found_over, counters_at, counters_by, counters_over}
use Rattle.acc_base.proofs.SameMapping.{mapping-act}
use Rattle.acc_clauses.proofs.Founds.{where_is-with, where_is-changed, apart-changed, apart_more}
use Rattle.acc_present.proofs.Finding.{apart_from_none}

pub or_false : (a b : Bool) → (a || b) ≡ false → (a ≡ false) × (b ≡ false)
or_false a b e = grind (arith, nat_tests)

-- ---- one task

pub birth_entry : (l : Limits) (task : Task) (k p : ℕ) (w : Records) → IsJudgedTo l task (Born k p) w → IsBirth l (section_of task) k p w
birth_entry l task k p w says = grind (arith, nat_tests)

-- both counters of a block after a task
counters-left : (task : Task) (step : Step) (b : ℕ) (ranges left : List Range)
    → ((c : Counter) → counter_of c b left ≡ cond (names b step) (moved_by c task (counter_of c b ranges)) (counter_of c b ranges)) → counters_at b left ≡ counters_by b (counters_at b ranges) task step
counters-left task step b ranges left each = grind (arith, nat_tests)

-- where a section lies after the step of a task that enters
found-step : (l : Limits) (task : Task) (step : Step) (w : Records) (s : Section) → IsJudgedTo l task step w → enters task ≡ true
    → found_by s (where_is s w.ranges) task step ≡ where_is s (act_step task step w).ranges
unfolding act_step act_row with_range_changed records_after_birth
found-step l task step w s says none = grind (arith, nat_tests, where_is-changed, absent_says, birth_entry, where_is-with)

-- where a section lies apart from ended ranges, before the step of one that does not and after it
apart-step : (l : Limits) (task : Task) (step : Step) (w : Records) (s : Section) (ended : List ℕ) → IsJudgedTo l task step w → enters task ≡ false
    → where_is_apart s (end_by step ++ ended) w.ranges ≡ where_is_apart s ended (act_step task step w).ranges
unfolding act_step act_row with_range_changed records_after_end released
apart-step l task step w s ended says none = grind (arith, nat_tests, apart-changed, recounted_keeps, apart_more)

planned_more : (xs ys : List (ℕ × ℕ)) (n : ℕ) → planned_blocks n (xs ++ ys) ≡ planned_blocks n xs ++ planned_blocks (n + length xs) ys
planned_more [] ys n = let e : n ≡ n + 0 = omega arith in ap (λ m. planned_blocks m ys) e
planned_more (x ∷ xs) ys n = grind (arith, nat_tests, planned_more xs ys (suc n))

-- what the device has after the step of a task that enters
record IsBornBy (task : Task) (step : Step) (w v : Records) : Type 0 where
  blocks : v.blocks ≡ w.blocks ++ planned_blocks (w.births + 1) (birth_by task step)
  births : v.births ≡ w.births + length (birth_by task step)

born-step : (l : Limits) (task : Task) (step : Step) (w : Records) → IsJudgedTo l task step w → enters task ≡ true → IsBornBy task step w (act_step task step w)
unfolding act_step act_row with_range_changed records_after_birth
born-step l task step w says none = grind (arith, nat_tests, append-nil)

-- and the same of the whole task
found-act : (l : Limits) (task : Task) (did : Did) (w : Records) (s : Section) → IsJudgedTo l task did.step w → enters task ≡ true → found_by s (where_is s w.ranges) task did.step ≡ where_is s (act task did w).ranges
found-act l task did w s says entry = found-step l task did.step w s says entry ∙ ap (where_is s) (sym (mapping-act task did w).ranges)

apart-act : (l : Limits) (task : Task) (did : Did) (w : Records) (s : Section) (ended : List ℕ) → IsJudgedTo l task did.step w → enters task ≡ false
    → where_is_apart s (end_by did.step ++ ended) w.ranges ≡ where_is_apart s ended (act task did w).ranges
apart-act l task did w s ended says none = apart-step l task did.step w s ended says none ∙ ap (where_is_apart s ended) (sym (mapping-act task did w).ranges)

born-act : (l : Limits) (task : Task) (did : Did) (w : Records) → IsJudgedTo l task did.step w → enters task ≡ true → IsBornBy task did.step w (act task did w)
born-act l task did w says entry = grind (arith, nat_tests, born-step, mapping-act)

-- ---- tasks

-- what the first of some tasks leaves
pub first_left : (l : Limits) (n : ℕ) (x : Acted) (xs : List Acted) (w : Records) → IsWithinBounds l → AreRecordsSound l w → AreJudged l n (tasks_in (x ∷ xs)) (dids_in (x ∷ xs)) w → IsLeft l x.task x.did w (act x.task x.did w)
first_left l n x xs w bounds h judged = task_left l x.task x.did w bounds h (task_says l n x.task w x.did.step judged.0) (step_judged l n x.task w x.did.step judged.0).free judged.1

-- tasks that were judged keep the records sound
pub sound-after : (l : Limits) (n : ℕ) (xs : List Acted) (w : Records) → IsWithinBounds l → AreRecordsSound l w → AreJudged l n (tasks_in xs) (dids_in xs) w → AreRecordsSound l (records_after xs w)
unfolding act_all
sound-after l n [] w bounds h judged = h
sound-after l n (x ∷ xs) w bounds h judged = grind (arith, nat_tests, sound-after l (suc n) xs (act x.task x.did w) bounds (first_left l n x xs w bounds h judged).sound judged.2)

-- both counters of a block after tasks
pub counters-after : (l : Limits) (n : ℕ) (xs : List Acted) (w : Records) (b : ℕ) → IsWithinBounds l → AreRecordsSound l w → AreJudged l n (tasks_in xs) (dids_in xs) w
    → counters_over b (counters_at b w.ranges) xs ≡ counters_at b (records_after xs w).ranges
unfolding act_all
counters-after l n [] w b bounds h judged = refl
counters-after l n (x ∷ xs) w b bounds h judged =
    ap (λ c. counters_over b c xs) (sym (counters-left x.task x.did.step b w.ranges (act x.task x.did w).ranges (λ c. (first_left l n x xs w bounds h judged).counter_is c b)))
    ∙ counters-after l (suc n) xs (act x.task x.did w) b bounds (first_left l n x xs w bounds h judged).sound judged.2

-- where all of some tasks enter, so does the first, and so do the others
pub first_enters : (x : Acted) (xs : List Acted) → list_all enters (tasks_in (x ∷ xs)) ≡ true → (enters x.task ≡ true) × (list_all enters (tasks_in xs) ≡ true)
first_enters x xs all = and_true (enters x.task) (list_all enters (tasks_in xs)) all

-- where a section lies after tasks that all enter
pub found-entered : (l : Limits) (n : ℕ) (xs : List Acted) (w : Records) (s : Section) → AreJudged l n (tasks_in xs) (dids_in xs) w → list_all enters (tasks_in xs) ≡ true
    → found_over s (where_is s w.ranges) xs ≡ where_is s (records_after xs w).ranges
unfolding act_all
found-entered l n [] w s judged all = refl
found-entered l n (x ∷ xs) w s judged all = grind (arith, nat_tests, found-entered l (suc n) xs (act x.task x.did w) s judged.2 (first_enters x xs all).1, found-act, task_says l n x.task w x.did.step judged.0)

-- where it lies after tasks of which none enters
pub found-left : (l : Limits) (n : ℕ) (xs : List Acted) (w : Records) (s : Section) → AreJudged l n (tasks_in xs) (dids_in xs) w → list_any enters (tasks_in xs) ≡ false
    → where_is_apart s (ended_of xs) w.ranges ≡ where_is s (records_after xs w).ranges
unfolding act_all
found-left l n [] w s judged none = apart_from_none s w.ranges
found-left l n (x ∷ xs) w s judged none =
    apart-act l x.task x.did w s (ended_of xs) (task_says l n x.task w x.did.step judged.0) (or_false (enters x.task) (list_any enters (tasks_in xs)) none).0
    ∙ found-left l (suc n) xs (act x.task x.did w) s judged.2 (or_false (enters x.task) (list_any enters (tasks_in xs)) none).1

-- the device after tasks that all enter
pub blocks-after : (l : Limits) (n : ℕ) (xs : List Acted) (w : Records) → AreJudged l n (tasks_in xs) (dids_in xs) w → list_all enters (tasks_in xs) ≡ true
    → (records_after xs w).blocks ≡ w.blocks ++ planned_blocks (w.births + 1) (births_of xs)
unfolding act_all
blocks-after l n [] w judged all = sym (append-nil w.blocks)
blocks-after l n (x ∷ xs) w judged all =
    let one = born-act l x.task x.did w (task_says l n x.task w x.did.step judged.0) (first_enters x xs all).0 in
    let rest = blocks-after l (suc n) xs (act x.task x.did w) judged.2 (first_enters x xs all).1 in
    grind (arith, nat_tests, append_assoc, planned_more)

pub births-after : (l : Limits) (n : ℕ) (xs : List Acted) (w : Records) → AreJudged l n (tasks_in xs) (dids_in xs) w → list_all enters (tasks_in xs) ≡ true
    → (records_after xs w).births ≡ w.births + length (births_of xs)
unfolding act_all
births-after l n [] w judged all = omega arith
births-after l n (x ∷ xs) w judged all =
    let one = born-act l x.task x.did w (task_says l n x.task w x.did.step judged.0) (first_enters x xs all).0 in
    let rest = births-after l (suc n) xs (act x.task x.did w) judged.2 (first_enters x xs all).1 in
    omega (arith, rest, one.births, length-append (birth_by x.task x.did.step) (births_of xs))
