-- A task judged whole after others: its step, and what becomes of its pointer.
use Rattle.std.proofs.lemmas.Bool.Decides.{nat_tests}
use Rattle.std.proofs.Common.{ℕ, ◌≡◌, refl, ap, ◌∙◌, true, false, List, [], ◌∷◌, ◌++◌, length, Option, Some, Result, Ok, Err, arith}
use Rattle.std.specs.Prelude.{⊤}
use Rattle.std.proofs.lemmas.Bool.{false≢true}
use Rattle.acc_clauses.specs.Words.{Aim, Counter, Item, RegionClause, Task, Step, Fault}
use Rattle.acc_base.specs.declared.tasks.Task.TheVariants.{Enter}
use Rattle.acc_base.specs.Results.{◌>>=◌, ◌>>◌}
use Rattle.acc_base.specs.Limits.{Limits}
use Rattle.acc_base.specs.Records.{Records, State}
use Rattle.acc_base.specs.Clauses.{pointer_checked}
use Rattle.acc_base.specs.Tasks.{checked}
use Rattle.acc_base.specs.Steps.{pointer_aimed, did_of, judge_row, judge_step}
use Rattle.acc_base.specs.Bytes.{step_state}
use Rattle.acc_base.specs.Pointers.{aimed}
use Rattle.acc_base.specs.Acting.{attach_if, judge_aim, judge_task, act_state}
use Rattle.acc_base.specs.History.{IsAimLegal}
use Rattle.acc_base.proofs.Results.{then_ok}
use Rattle.acc_base.proofs.Judged.{step_judged, pointer_checked_by}
use Rattle.acc_clauses.specs.declared.acted.Acted.{Acted}
use Rattle.acc_clauses.specs.Overlays.{IsPlanned, enters, records_after, state_after}
use Rattle.acc_clauses.specs.Aims.{aim_before, step_free}
use Rattle.acc_clauses.specs.Planned.{IsJudgedNext}
use Rattle.acc_clauses.proofs.Turns.{state_after-push, state_after-records, IsPlanned-push}

judged_by : (l : Limits) (n : ℕ) (task : Task) (step : Step) (s : State) (r : Result Aim Fault) → judge_step l n task s.records ≡ Ok step → judge_aim l n task step s ≡ r → judge_task l n task s ≡ (r >>= λ aim. Ok (record { step = step; aim = aim }))
unfolding judge_task
judged_by l n task step s r e f = rw e (ap (λ q. q >>= λ aim. Ok (record { step = step; aim = aim })) f)

-- the step is judged in the records of the state after the tasks before it
in_state : (l : Limits) (n : ℕ) (xs : List Acted) (task : Task) (s : State) (r : Result Step Fault) → judge_step l n task (records_after xs s.records) ≡ r → judge_step l n task (state_after xs s).records ≡ r
in_state l n xs task s r e = ap (judge_step l n task) (state_after-records xs s) ∙ e

refused_as_judged : (l : Limits) (n : ℕ) (task : Task) (s : State) (fault : Fault) → judge_step l n task s.records ≡ Err fault → judge_task l n task s ≡ Err fault
unfolding judge_task
refused_as_judged l n task s fault e = rw e refl

-- a task is refused as its step is
pub step_refused : (l : Limits) (n : ℕ) (xs : List Acted) (task : Task) (s : State) (fault : Fault) → judge_step l n task (records_after xs s.records) ≡ Err fault → judge_task l n task (state_after xs s) ≡ Err fault
step_refused l n xs task s fault e = refused_as_judged l n task (state_after xs s) fault (in_state l n xs task s _ e)

-- and else as its pointer is
pub aim_refused : (l : Limits) (n : ℕ) (xs : List Acted) (task : Task) (step : Step) (s : State) (fault : Fault)
    → judge_step l n task (records_after xs s.records) ≡ Ok step → judge_aim l n task step (state_after xs s) ≡ Err fault → judge_task l n task (state_after xs s) ≡ Err fault
aim_refused l n xs task step s fault e f = judged_by l n task step (state_after xs s) _ (in_state l n xs task s _ e) f

-- its step and its pointer are what it does
pub both_judged : (l : Limits) (n : ℕ) (xs ys : List Acted) (task : Task) (step : Step) (aim : Aim) (s : State)
    → judge_step l n task (records_after xs s.records) ≡ Ok step → judge_aim l n task step (state_after xs s) ≡ Ok aim
    → ys ≡ xs ++ record { task = task; did = record { step = step; aim = aim } } ∷ [] → IsJudgedNext l n task s xs ys
both_judged l n xs ys task step aim s e f more = record { did = record { step = step; aim = aim }; judged = judged_by l n task step (state_after xs s) _ (in_state l n xs task s _ e) f; more = more }

-- ---- an entry: its step is done before its pointer is judged

-- pointers are left alone so far
half_state : (task : Task) (step : Step) (s : State) → enters task ≡ true → act_state task (did_of step) s ≡ step_state task step s
unfolding act_state aimed
half_state task step s entry = grind (arith, nat_tests)

half_legal : (l : Limits) (task : Task) (step : Step) (w : Records) → enters task ≡ true → IsAimLegal l task (did_of step) w
half_legal l task step w entry = grind (arith, nat_tests)

pub half_planned : (l : Limits) (n : ℕ) (xs ys : List Acted) (task : Task) (step : Step) (w : Records) → enters task ≡ true → n ≡ length xs → IsPlanned l xs w
    → judge_step l n task (records_after xs w) ≡ Ok step → ys ≡ xs ++ record { task = task; did = did_of step } ∷ [] → IsPlanned l ys w
half_planned l n xs ys task step w entry at p e more =
    rw more (IsPlanned-push l n xs (record { task = task; did = did_of step }) w at p (record { step = e; aim = half_legal l task step (records_after xs w) entry }))

-- the pointer to be attached was checked
pub aimed_checked : (l : Limits) (n : ℕ) (task : Task) (step : Step) (w : Records) (pointer : ℕ) → enters task ≡ true → judge_step l n task w ≡ Ok step → pointer_aimed task step ≡ Some pointer → pointer_checked l n (Some pointer) ≡ Ok tt
unfolding judge_row
aimed_checked l n (Enter counter item queue) step w pointer entry e named = grind (arith, nat_tests, pointer_checked_by l n (Enter counter item queue) (then_ok (checked l n (Enter counter item queue)) _ step (step_judged l n (Enter counter item queue) w step e).row).0)
aimed_checked l n _ step w pointer entry e named = absurd (false≢true entry)

aim_entered : (l : Limits) (n : ℕ) (task : Task) (step : Step) (s : State) → enters task ≡ true → judge_aim l n task step s ≡ attach_if l n (pointer_aimed task step) (step_state task step s)
unfolding judge_aim
aim_entered l n task step s entry = grind (arith, nat_tests)

-- its pointer is judged in what its step left
pub entry_aim : (l : Limits) (n : ℕ) (xs ys : List Acted) (task : Task) (step : Step) (named : Option ℕ) (s : State) → enters task ≡ true → ys ≡ xs ++ record { task = task; did = did_of step } ∷ [] → pointer_aimed task step ≡ named
    → judge_aim l n task step (state_after xs s) ≡ attach_if l n named (state_after ys s)
entry_aim l n xs ys task step named s entry more is = grind (arith, nat_tests, state_after-push, half_state, aim_entered)

-- ---- the others: the pointer is judged before the step

-- it is detached in what was there before
aim_left : (l : Limits) (n : ℕ) (task : Task) (step : Step) (s : State) → enters task ≡ false → judge_aim l n task step s ≡ Ok (aim_before task step s.records)
unfolding judge_aim
aim_left l n task step s other = grind (arith, nat_tests)

-- a task that is no entry
pub enters_not : (task : Task) → ((counter : Counter) (item : Item RegionClause) (queue : Option ℕ) → task ≡ Enter counter item queue → ⊥) → enters task ≡ false
enters_not task other = grind (arith, nat_tests)

-- so both are what it does
pub left_judged : (l : Limits) (n : ℕ) (xs ys : List Acted) (task : Task) (step : Step) (aim : Aim) (s : State) → enters task ≡ false → judge_step l n task (records_after xs s.records) ≡ Ok step
    → aim ≡ aim_before task step (records_after xs s.records) → ys ≡ xs ++ record { task = task; did = record { step = step; aim = aim } } ∷ [] → IsJudgedNext l n task s xs ys
left_judged l n xs ys task step aim s other e before more = grind (arith, nat_tests, state_after-records xs s, both_judged, aim_left l n task step (state_after xs s) other)

-- ---- a step: what the tables say, and whether it can be done

-- three tests in a row
three_tests : (a b c : Result ⊤ Fault) (step : Step) → (a >> (b >> (c >> Ok step))) ≡ ((a >> (b >> c)) >> Ok step)
three_tests a b c step = grind (arith, nat_tests)

-- a step is refused as it cannot be done
pub aimed_step : (l : Limits) (n : ℕ) (task : Task) (step : Step) (before : Aim) (w : Records) (r : Result ⊤ Fault) → Ok step ≡ judge_row l n task w → before ≡ aim_before task step w → r ≡ step_free task step before l.queue_cap w
    → judge_step l n task w ≡ (r >> Ok step)
unfolding judge_step
aimed_step l n task step before w r row aim free = grind (arith, nat_tests, three_tests)

-- or as the tables refuse it
pub row_refused : (l : Limits) (n : ℕ) (task : Task) (w : Records) (fault : Fault) → Err fault ≡ judge_row l n task w → judge_step l n task w ≡ Err fault
unfolding judge_step
row_refused l n task w fault e = rw (← e) refl
