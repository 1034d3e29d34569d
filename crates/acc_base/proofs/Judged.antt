-- What a task that was judged says of the records before it.
use Rattle.std.proofs.Common.{ℕ, ◌≡◌, ◌+◌, ◌<◌, refl, subst, Bool, true, false, List, Option, Some, None, Ok, arith, ⊎_elim}
use Rattle.std.specs.Prelude.{◌==◌, ◌&&◌, not, nat_le, ⊤, Contains, IfSome}
use Rattle.std.proofs.lemmas.Bool.Decides.{nat_tests}
use Rattle.std.proofs.lemmas.List.Elements.{All-contains, All-from_recursion}
use Rattle.acc_base.specs.Words.{Section, Item, RegionClause, ExitClause, UpdateClause, Counter, Range, Found, Holding, Task, Step, Loan}
use Rattle.acc_base.specs.declared.mappings.Found.TheVariants.{Empty, Inside, Partly, Absent}
use Rattle.acc_base.specs.declared.tasks.Task.TheVariants.{Enter, ExitRegion, ExitData, Move}
use Rattle.acc_base.specs.declared.events.Step.TheVariants.{Nothing, Counted, Born, Dropped, Moved}
use Rattle.acc_base.specs.declared.faults.Fault.TheVariants.{CounterFull, Lent}
use Rattle.acc_base.specs.Results.{◌>>◌, refuse_if}
use Rattle.acc_base.specs.Limits.{Limits}
use Rattle.acc_base.specs.Section.{is_empty, is_within, host_memory, device_memory}
use Rattle.acc_base.specs.Records.{Records}
use Rattle.acc_base.specs.Ranges.{where_is, range_of, counter_of, dynamic_of, ends_by}
use Rattle.acc_base.specs.Blocks.{rounded, place_for}
use Rattle.acc_base.specs.Clauses.{in_host, pointer_checked, born_at, enter_absent, enter_row, leave_row, exit_row, move_row}
use Rattle.acc_base.specs.Tasks.{section_of, pointer_of, queue_of, recounted, checked}
use Rattle.acc_base.specs.Loans.{is_lent, not_lent}
use Rattle.acc_base.specs.Transfers.{transfer_of, room_for}
use Rattle.acc_base.specs.Steps.{judge_row, block_detached, block_needed, judge_step}
use Rattle.acc_base.proofs.Results.{chosen, bind_ok, then_ok, ok_same, refused_not, equal_self}
use Rattle.acc_base.proofs.Elements.{find_passes, find_none}
use Rattle.acc_base.proofs.Where.{IsInsideOf, inside_says, absent_says}

-- the block of a section that is inside a range is mapped
pub inside_mapped : (s : Section) (ranges : List Range) (k o : ℕ) → where_is s ranges ≡ Inside k o → range_of k ranges ≡ None → ⊥
inside_mapped s ranges k o e none =
    let found : (r : Range) × IsInsideOf s ranges k o r = inside_says s ranges k o e in
    let passes : Contains ranges found.0 × (is_within s found.0.section ≡ true) = subst (λ x. IfSome x (λ t. Contains ranges t × (is_within s t.section ≡ true))) found.1.around (find_passes (λ r. is_within s r.section) ranges) in
    let other : (found.0.block == k) ≡ false = All-contains (λ (r : Range). (r.block == k) ≡ false) ranges found.0 (All-from_recursion (λ (r : Range). (r.block == k) ≡ false) ranges (find_none (λ r. r.block == k) ranges none)) passes.0 in
    let same : (found.0.block == k) ≡ true = rw found.1.block_is (equal_self k) in
    cc

-- ---- what each step says

-- a birth: the next number, the least place, and a section of host memory that is absent
pub record IsBirth (l : Limits) (section : Section) (block place : ℕ) (w : Records) : Type 0 where
  pub number : block ≡ w.births + 1
  pub place_is : place_for (device_memory l) w.blocks (rounded section.len) ≡ Some place
  pub absent : where_is section w.ranges ≡ Absent
  pub within : is_within section (host_memory l.host) ≡ true

-- a count: the block is mapped, and its counter is below the limit
pub record IsCount (l : Limits) (counter : Counter) (block : ℕ) (w : Records) : Type 0 where
  pub mapped : range_of block w.ranges ≡ None → ⊥
  pub room : counter_of counter block w.ranges < l.counter_max

-- a section of host memory that has addresses, all of them in the range of the block
pub record IsInRangeOf (l : Limits) (section : Section) (block : ℕ) (w : Records) : Type 0 where
  pub offset : ℕ
  pub inside : where_is section w.ranges ≡ Inside block offset
  pub within : is_within section (host_memory l.host) ≡ true
  pub some : 0 < section.len
  pub mapped : range_of block w.ranges ≡ None → ⊥

-- a drop by `exit data`: the dynamic counter was above zero
pub record IsDrop (l : Limits) (finalize : Bool) (item : Item ExitClause) (queue : Option ℕ) (block : ℕ) (ended : Bool) (w : Records) : Type 0 where
  pub range : IsInRangeOf l (section_of (ExitData finalize item queue)) block w
  pub some : 0 < dynamic_of block w.ranges
  pub ended_is : ended ≡ ends_by (recounted (ExitData finalize item queue)) block w.ranges

-- the task can have been judged to do the step
abbrev pub IsJudgedTo : Limits → Task → Step → Records → Type 0
IsJudgedTo l (Enter counter item queue) Nothing w = ⊤
IsJudgedTo l (Enter counter item queue) (Counted k) w = IsCount l counter k w
IsJudgedTo l (Enter counter item queue) (Born k p) w = IsBirth l (section_of (Enter counter item queue)) k p w
IsJudgedTo l (ExitRegion holding) Nothing w = holding.block ≡ None
IsJudgedTo l (ExitRegion holding) (Dropped k ended) w = (holding.block ≡ Some k) × (ended ≡ ends_by (recounted (ExitRegion holding)) k w.ranges)
IsJudgedTo l (ExitData finalize item queue) Nothing w = ⊤
IsJudgedTo l (ExitData finalize item queue) (Dropped k ended) w = IsDrop l finalize item queue k ended w
IsJudgedTo l (Move if_present item queue) Nothing w = ⊤
IsJudgedTo l (Move if_present item queue) (Moved k) w = IsInRangeOf l item.section k w
IsJudgedTo l _ _ w = ⊥

-- ---- sections of host memory

-- a section that was checked and is not empty lies in host memory
pub in_host_says : (l : Limits) (n : ℕ) (section : Section) → in_host l n section ≡ Ok tt → is_empty section ≡ false → is_within section (host_memory l.host) ≡ true
in_host_says l n section e filled = go (is_empty section) (is_within section (host_memory l.host)) filled (refused_not _ _ e)
  where
    go : (a b : Bool) → a ≡ false → (not a && not b) ≡ false → b ≡ true
    go false true p q = refl
    go _ _ p q = cc

inside_filled : (s : Section) (ranges : List Range) (k o : ℕ) → where_is s ranges ≡ Inside k o → is_empty s ≡ false
inside_filled s ranges k o e = go (is_empty s) refl e
  where
    go : (b : Bool) → is_empty s ≡ b → where_is s ranges ≡ Inside k o → is_empty s ≡ false
    go true p q = let empty : where_is s ranges ≡ Empty = rw p refl in cc
    go false p q = p

in_range_of : (l : Limits) (n : ℕ) (section : Section) (k o : ℕ) (w : Records) → in_host l n section ≡ Ok tt → where_is section w.ranges ≡ Inside k o → IsInRangeOf l section k w
in_range_of l n section k o w checked inside =
    let filled : is_empty section ≡ false = inside_filled section w.ranges k o inside in
    record {
      offset = o;
      inside = inside;
      within = in_host_says l n section checked filled;
      some = grind (arith, nat_tests);
      mapped = inside_mapped section w.ranges k o inside;
    }

-- ---- entry

enter_told : (l : Limits) (counter : Counter) (item : Item RegionClause) (queue : Option ℕ) (w : Records) (x y : Step) → x ≡ y → IsJudgedTo l (Enter counter item queue) x w → IsJudgedTo l (Enter counter item queue) y w
enter_told l counter item queue w x y e h = subst (λ t. IsJudgedTo l (Enter counter item queue) t w) e h

born_says : (l : Limits) (counter : Counter) (item : Item RegionClause) (queue : Option ℕ) (n : ℕ) (w : Records) (step : Step) (place : Option ℕ)
    → place_for (device_memory l) w.blocks (rounded (section_of (Enter counter item queue)).len) ≡ place → where_is (section_of (Enter counter item queue)) w.ranges ≡ Absent → is_within (section_of (Enter counter item queue)) (host_memory l.host) ≡ true
    → born_at place n (section_of (Enter counter item queue)) w ≡ Ok step → IsJudgedTo l (Enter counter item queue) step w
born_says l counter item queue n w step None p a h e = cc
born_says l counter item queue n w step (Some place) p a h e = enter_told l counter item queue w _ _ (ok_same _ _ e) (record { number = refl; place_is = p; absent = a; within = h })

absent_entered : (l : Limits) (counter : Counter) (item : Item RegionClause) (queue : Option ℕ) (n : ℕ) (w : Records) (step : Step) (clause : RegionClause)
    → where_is (section_of (Enter counter item queue)) w.ranges ≡ Absent → is_within (section_of (Enter counter item queue)) (host_memory l.host) ≡ true
    → enter_absent clause l n (section_of (Enter counter item queue)) w ≡ Ok step → IsJudgedTo l (Enter counter item queue) step w
absent_entered l counter item queue n w step clause a h e = grind (arith, nat_tests, enter_told, born_says, ok_same)

entered_says : (l : Limits) (counter : Counter) (item : Item RegionClause) (queue : Option ℕ) (n : ℕ) (w : Records) (step : Step) (found : Found)
    → where_is (section_of (Enter counter item queue)) w.ranges ≡ found → in_host l n (section_of (Enter counter item queue)) ≡ Ok tt
    → enter_row found l counter item.clause n (section_of (Enter counter item queue)) w ≡ Ok step → IsJudgedTo l (Enter counter item queue) step w
entered_says l counter item queue n w step Empty f h e = enter_told l counter item queue w _ _ (ok_same _ _ e) tt
entered_says l counter item queue n w step (Inside k o) f h e =
    let both : (refuse_if (nat_le l.counter_max (counter_of counter k w.ranges)) (CounterFull n) ≡ Ok tt) × (Ok (Counted k) ≡ Ok step) = then_ok _ _ step e in
    let full : nat_le l.counter_max (counter_of counter k w.ranges) ≡ false = refused_not _ _ both.0 in
    let room : counter_of counter k w.ranges < l.counter_max = grind (arith, nat_tests) in
    enter_told l counter item queue w _ _ (ok_same _ _ both.1) (record { mapped = inside_mapped (section_of (Enter counter item queue)) w.ranges k o f; room = room })
entered_says l counter item queue n w step Absent f h e = absent_entered l counter item queue n w step item.clause f (in_host_says l n (section_of (Enter counter item queue)) h (absent_says (section_of (Enter counter item queue)) w.ranges f).1) e
entered_says l counter item queue n w step Partly f h e = cc

-- ---- exit from a region

left_says : (l : Limits) (holding : Holding) (w : Records) (step : Step) (block : Option ℕ) → holding.block ≡ block
    → leave_row block (recounted (ExitRegion holding)) w ≡ Ok step → IsJudgedTo l (ExitRegion holding) step w
left_says l holding w step None is e = subst (λ t. IsJudgedTo l (ExitRegion holding) t w) (ok_same _ _ e) is
left_says l holding w step (Some k) is e = subst (λ t. IsJudgedTo l (ExitRegion holding) t w) (ok_same _ _ e) (is, refl)

-- ---- `exit data`

exited_says : (l : Limits) (finalize : Bool) (item : Item ExitClause) (queue : Option ℕ) (n : ℕ) (w : Records) (step : Step) (found : Found)
    → where_is (section_of (ExitData finalize item queue)) w.ranges ≡ found → in_host l n (section_of (ExitData finalize item queue)) ≡ Ok tt
    → exit_row found (recounted (ExitData finalize item queue)) n w ≡ Ok step → IsJudgedTo l (ExitData finalize item queue) step w
exited_says l finalize item queue n w step (Inside k o) f h e = ⊎_elim
    (λ a. subst (λ t. IsJudgedTo l (ExitData finalize item queue) t w) (ok_same _ _ a.1) tt)
    (λ b. let some : 0 < dynamic_of k w.ranges = above (dynamic_of k w.ranges) b.0 in
    subst (λ t. IsJudgedTo l (ExitData finalize item queue) t w) (ok_same _ _ b.1) (record { range = in_range_of l n (section_of (ExitData finalize item queue)) k o w h f; some = some; ended_is = refl }))
    (chosen (dynamic_of k w.ranges == 0) (Ok Nothing) (Ok (Dropped k (ends_by (recounted (ExitData finalize item queue)) k w.ranges))) (Ok step) e)
  where
    above : (d : ℕ) → (d == 0) ≡ false → 0 < d
    above d z = grind (arith, nat_tests)
exited_says l finalize item queue n w step Partly f h e = cc
exited_says l finalize item queue n w step _ f h e = subst (λ t. IsJudgedTo l (ExitData finalize item queue) t w) (ok_same _ _ e) tt

-- ---- `update`

moved_says : (l : Limits) (if_present : Bool) (item : Item UpdateClause) (queue : Option ℕ) (n : ℕ) (w : Records) (step : Step) (found : Found)
    → where_is item.section w.ranges ≡ found → in_host l n item.section ≡ Ok tt
    → move_row found if_present n ≡ Ok step → IsJudgedTo l (Move if_present item queue) step w
moved_says l if_present item queue n w step Empty f h e = subst (λ t. IsJudgedTo l (Move if_present item queue) t w) (ok_same _ _ e) tt
moved_says l if_present item queue n w step (Inside k o) f h e = subst (λ t. IsJudgedTo l (Move if_present item queue) t w) (ok_same _ _ e) (in_range_of l n item.section k o w h f)
moved_says l true item queue n w step Absent f h e = subst (λ t. IsJudgedTo l (Move true item queue) t w) (ok_same _ _ e) tt
moved_says l _ item queue n w step _ f h e = cc

-- ---- any task

-- section and pointer of a task were checked
section_checked : (l : Limits) (n : ℕ) (task : Task) → checked l n task ≡ Ok tt → in_host l n (section_of task) ≡ Ok tt
section_checked l n task e = (then_ok (in_host l n (section_of task)) (pointer_checked l n (pointer_of task)) tt e).0

pub pointer_checked_by : (l : Limits) (n : ℕ) (task : Task) → checked l n task ≡ Ok tt → pointer_checked l n (pointer_of task) ≡ Ok tt
pointer_checked_by l n task e = (then_ok (in_host l n (section_of task)) (pointer_checked l n (pointer_of task)) tt e).1

row_says : (l : Limits) (n : ℕ) (task : Task) (w : Records) (step : Step) → judge_row l n task w ≡ Ok step → IsJudgedTo l task step w
unfolding judge_row
row_says l n (Enter counter item queue) w step e =
    let task : Task = Enter counter item queue in
    let both : (checked l n task ≡ Ok tt) × (enter_row (where_is (section_of task) w.ranges) l counter item.clause n (section_of task) w ≡ Ok step) = then_ok (checked l n task) _ step e in
    entered_says l counter item queue n w step (where_is (section_of task) w.ranges) refl (section_checked l n task both.0) both.1
row_says l n (ExitRegion holding) w step e = left_says l holding w step holding.block refl e
row_says l n (ExitData finalize item queue) w step e =
    let task : Task = ExitData finalize item queue in
    let both : (checked l n task ≡ Ok tt) × (exit_row (where_is (section_of task) w.ranges) (recounted task) n w ≡ Ok step) = then_ok (checked l n task) _ step e in
    exited_says l finalize item queue n w step (where_is (section_of task) w.ranges) refl (section_checked l n task both.0) both.1
row_says l n (Move if_present item queue) w step e =
    let both : (in_host l n item.section ≡ Ok tt) × (move_row (where_is item.section w.ranges) if_present n ≡ Ok step) = then_ok _ _ step e in
    moved_says l if_present item queue n w step (where_is item.section w.ranges) refl both.0 both.1

-- the block that a step needs is not lent, and the queue of its transfer has room for it
pub record IsStepFree (l : Limits) (task : Task) (step : Step) (w : Records) : Type 0 where
  pub needed : not_lent (block_needed task step) w.loans ≡ Ok tt
  pub room : room_for l.queue_cap (queue_of task) (transfer_of task step w.ranges) w.queues ≡ Ok tt

-- what the judgement of a step says of the clause tables, of the block in which it detaches a pointer, and of what it
-- needs
pub record IsJudgedStep (l : Limits) (n : ℕ) (task : Task) (w : Records) (step : Step) : Type 0 where
  pub row : judge_row l n task w ≡ Ok step
  pub detached : not_lent (block_detached task step w) w.loans ≡ Ok tt
  pub free : IsStepFree l task step w

pub step_judged : (l : Limits) (n : ℕ) (task : Task) (w : Records) (step : Step) → judge_step l n task w ≡ Ok step → IsJudgedStep l n task w step
unfolding judge_step
step_judged l n task w step e =
    let first : (x : Step) × (judge_row l n task w ≡ Ok x) × ((not_lent (block_detached task x w) w.loans >> (not_lent (block_needed task x) w.loans >> (room_for l.queue_cap (queue_of task) (transfer_of task x w.ranges) w.queues >> Ok x))) ≡ Ok step)
    = bind_ok (judge_row l n task w) (λ x. not_lent (block_detached task x w) w.loans >> (not_lent (block_needed task x) w.loans >> (room_for l.queue_cap (queue_of task) (transfer_of task x w.ranges) w.queues >> Ok x))) step e in
    let x : Step = first.0 in
    let second : (not_lent (block_detached task x w) w.loans ≡ Ok tt) × ((not_lent (block_needed task x) w.loans >> (room_for l.queue_cap (queue_of task) (transfer_of task x w.ranges) w.queues >> Ok x)) ≡ Ok step) = then_ok _ _ step first.2 in
    let third : (not_lent (block_needed task x) w.loans ≡ Ok tt) × ((room_for l.queue_cap (queue_of task) (transfer_of task x w.ranges) w.queues >> Ok x) ≡ Ok step) = then_ok _ _ step second.1 in
    let fourth : (room_for l.queue_cap (queue_of task) (transfer_of task x w.ranges) w.queues ≡ Ok tt) × (Ok x ≡ Ok step) = then_ok _ _ step third.1 in
    subst (IsJudgedStep l n task w) (ok_same _ _ fourth.1) (record { row = first.1; detached = second.0; free = record { needed = third.0; room = fourth.0 } })

-- a block that must not be lent is not
pub not_lent_says : (block : ℕ) (loans : List Loan) → not_lent (Some block) loans ≡ Ok tt → is_lent block loans ≡ false
not_lent_says block loans e = refused_not (is_lent block loans) (Lent block) e

pub task_says : (l : Limits) (n : ℕ) (task : Task) (w : Records) (step : Step) → judge_step l n task w ≡ Ok step → IsJudgedTo l task step w
task_says l n task w step e = row_says l n task w step (step_judged l n task w step e).row
