-- What a plan knows of the records after its tasks: what each look-up returns then, from what it returns before them.
use Rattle.std.specs.Prelude.{ℕ, ◌+◌, ◌-◌, ◌≡◌, ◌⊎◌, Bool, true, false, if◌then◌else◌, ◌==◌, ◌&&◌, ◌≤◌, length, List, [], ◌∷◌, ◌++◌, map, fold, Option, Some, None, Ok}
use Rattle.std.specs.List.{AllByRecursion, list_all, list_any}
use Rattle.acc_clauses.specs.Words.{Section, Range, Counters, Found, Task, Step, Did, Aim}
use Rattle.acc_base.specs.declared.mappings.Counter.TheVariants.{Structured, Dynamic}
use Rattle.acc_base.specs.declared.mappings.Found.TheVariants.{Inside, Partly, Absent}
use Rattle.acc_base.specs.declared.tasks.Task.TheVariants.{Enter}
use Rattle.acc_base.specs.declared.events.Step.TheVariants.{Counted, Born, Dropped, Moved}
use Rattle.acc_base.specs.Limits.{Limits, IsWithinBounds}
use Rattle.acc_base.specs.Section.{is_within, is_apart}
use Rattle.acc_base.specs.Records.{Records, State}
use Rattle.acc_base.specs.Acting.{act_all_state}
use Rattle.acc_base.specs.Ranges.{counter_of}
use Rattle.acc_base.specs.Queues.{queue_named}
use Rattle.acc_base.specs.Tasks.{section_of, queue_of, recounted}
use Rattle.acc_base.specs.Transfers.{gets_bytes, gives_bytes}
use Rattle.acc_base.specs.Steps.{act_all}
use Rattle.acc_base.specs.History.{AreJudged}
use Rattle.acc_base.specs.Accounts.{AreRecordsSound}
use Rattle.acc_clauses.specs.declared.acted.Acted.{Acted}
use Rattle.acc_clauses.specs.Spans.{AreSpans}

-- ---- the tasks of a plan, and what they do

abbrev pub tasks_in : List Acted → List Task
tasks_in xs = map (λ x. x.task) xs

abbrev pub dids_in : List Acted → List Did
dids_in xs = map (λ x. x.did) xs

-- the records after these tasks
abbrev pub records_after : List Acted → Records → Records
records_after xs w = act_all (tasks_in xs) (dids_in xs) w

-- and the state
abbrev pub state_after : List Acted → State → State
state_after xs s = act_all_state (tasks_in xs) (dids_in xs) s

-- each task does what it is judged to do in the records that those before it leave
abbrev pub ArePlanned : Limits → List Acted → Records → Type 0
ArePlanned l xs w = AreJudged l 0 (tasks_in xs) (dids_in xs) w

-- what a plan rests on: the records are sound, and each task was judged in what those before it leave
pub record IsPlanned (l : Limits) (xs : List Acted) (w : Records) : Type 0 where
  pub bounds : IsWithinBounds l
  pub sound : AreRecordsSound l w
  pub judged : ArePlanned l xs w

-- a task with another thing that became of its pointer
abbrev pub with_aim : Aim → Acted → Acted
with_aim aim x = record { task = x.task; did = record { step = x.did.step; aim = aim } }

-- ---- entries and exits

-- the task is an entry: it may map a section to a new block, and ends no mapping
abbrev pub enters : Task → Bool
enters (Enter counter item queue) = true
enters _ = false

-- all tasks enter, or none does
abbrev pub AreUnmixed : List Task → Type 0
AreUnmixed tasks = (list_all enters tasks ≡ true) ⊎ (list_any enters tasks ≡ false)

-- ---- births and ends

-- the place and the length of the block that the task gives birth to, if it does
abbrev pub birth_by : Task → Step → List (ℕ × ℕ)
birth_by task (Born block place) = (place, (section_of task).len) ∷ []
birth_by task _ = []

-- the places and lengths of the blocks that these tasks give birth to
abbrev pub births_of : List Acted → List (ℕ × ℕ)
births_of [] = []
births_of (x ∷ xs) = birth_by x.task x.did.step ++ births_of xs

-- the block whose mapping ends by the step, if one does
abbrev pub end_by : Step → List ℕ
end_by (Dropped block true) = block ∷ []
end_by _ = []

-- the blocks whose mappings end by these tasks
abbrev pub ended_of : List Acted → List ℕ
ended_of [] = []
ended_of (x ∷ xs) = end_by x.did.step ++ ended_of xs

-- the lengths alone
abbrev pub lens_of : List (ℕ × ℕ) → List ℕ
lens_of births = map (λ (b : ℕ × ℕ). b.1) births

-- what a draft notes beside its tasks: the lengths of the births among them, the spans that those take, and the ends
pub record IsDraft (xs : List Acted) (lens : List ℕ) (spans : List (ℕ × ℕ)) (ended : List ℕ) : Type 0 where
  pub lens_are : lens ≡ lens_of (births_of xs)
  pub spans_are : AreSpans (births_of xs) spans
  pub few_spans : length spans ≤ length lens
  pub ended_are : ended ≡ ended_of xs
  pub few : length xs ≤ 64

-- ---- where a section lies

-- where a section lies once a range that it may touch is mapped to a new block
abbrev pub found_beside : Section → Section → ℕ → Found → Found
found_beside s range block Absent = if is_within s range then Inside block (s.start - range.start) else (if is_apart s range then Absent else Partly)
found_beside s range block found = found

-- where it lies after a task
abbrev pub found_by : Section → Found → Task → Step → Found
found_by s found task (Born block place) = found_beside s (section_of task) block found
found_by s found task _ = found

-- where it lies after tasks of which none ends a mapping
abbrev pub found_over : Section → Found → List Acted → Found
found_over s found xs = fold (λ f x. found_by s f x.task x.did.step) found xs

-- ---- reference counters

-- both counters of a range
abbrev pub counters_in : Range → Counters
counters_in r = record { structured = r.structured; dynamic = r.dynamic }

-- both counters of the range that is mapped to a block
abbrev pub counters_at : ℕ → List Range → Counters
counters_at block ranges = record { structured = counter_of Structured block ranges; dynamic = counter_of Dynamic block ranges }

-- some range with these counters
abbrev pub range_counted : Counters → Range
range_counted c = record { section = record { start = 0; len = 0 }; block = 0; structured = c.structured; dynamic = c.dynamic }

-- the counters of a range that a task counts or drops
abbrev pub recount : Task → Counters → Counters
recount task c = counters_in (recounted task (range_counted c))

-- neither counter is above zero
abbrev pub are_zero : Counters → Bool
are_zero c = (c.structured == 0) && (c.dynamic == 0)

-- the counters of a block's range after a task
abbrev pub counters_by : ℕ → Counters → Task → Step → Counters
counters_by block c task (Counted b) = if b == block then recount task c else c
counters_by block c task (Born b place) = if b == block then recount task c else c
counters_by block c task (Dropped b ended) = if b == block then recount task c else c
counters_by block c task _ = c

-- the counters of a block's range after tasks
abbrev pub counters_over : ℕ → Counters → List Acted → Counters
counters_over block c xs = fold (λ d x. counters_by block d x.task x.did.step) c xs

-- ---- queued transfers

-- the step has a transfer
abbrev pub moves : Task → Step → Bool
moves task (Born block place) = gets_bytes task
moves task (Dropped block true) = gives_bytes task
moves task (Moved block) = true
moves task _ = false

-- it is this queue that is named
abbrev pub is_queue : ℕ → Option ℕ → Bool
is_queue q None = false
is_queue q (Some named) = named == q

-- how many transfers a task puts into a queue
abbrev pub puts_by : ℕ → Task → Step → ℕ
puts_by q task step = if is_queue q (queue_of task) && moves task step then 1 else 0

-- and tasks
abbrev pub puts_in : ℕ → List Task → List Did → ℕ
puts_in q (task ∷ tasks) (did ∷ dids) = puts_by q task did.step + puts_in q tasks dids
puts_in q _ _ = 0

-- there are the queues that tasks name
abbrev pub AreQueuesNamed : List Task → Type 0
AreQueuesNamed tasks = AllByRecursion (λ t. queue_named (queue_of t) ≡ Ok tt) tasks
