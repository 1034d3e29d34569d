-- What contracts see of a plan, and what it rests on.
use Rattle.std.specs.Prelude.{ℕ, ◌≡◌, ◌≤◌, Bool, List, [], ◌∷◌, ◌++◌, length, reverse, Option, Result, Ok}
use Rattle.acc_clauses.specs.Words.{Directive, Holding, Task, Did, Fault, Transfer}
use Rattle.acc_base.specs.declared.directives.Directive.TheVariants as directives
use Rattle.acc_base.specs.declared.mappings.Counter.TheVariants.{Structured}
use Rattle.acc_base.specs.declared.tasks.Task.TheVariants.{Enter}
use Rattle.acc_base.specs.Queues.{queue_named}
use Rattle.acc_base.specs.Loans.{none_lent}
use Rattle.acc_base.specs.Waits.{steps_of, drained}
use Rattle.acc_base.specs.Results.{◌>>◌}
use Rattle.acc_base.specs.Limits.{Limits}
use Rattle.acc_base.specs.Register.{Region, Register, opened, closed}
use Rattle.acc_base.specs.Records.{State}
use Rattle.acc_base.specs.Judge.{few_items, tasks_of, queue_in, transfers_in, Verdict, Makes, Idle}
use Rattle.acc_base.specs.Walk.{block_counted, pointer_attached}
use Rattle.acc_base.specs.Acting.{judge_task, judge_all, after}
use Rattle.acc_clauses.specs.declared.acted.Acted.{Acted}
use Rattle.acc_clauses.specs.Overlays.{state_after}

-- the tasks of a directive in the order in which they act, and what each does; and the queue that the directive names
pub record Planned : Type 0 where
  pub tasks : List Task
  pub dids : List Did
  pub queue : Option ℕ

-- what a directive asks, in the order in which it acts; too many items are refused before all else
abbrev pub asked_of : Directive → Register → Result (List Task) Fault
asked_of d g = few_items d >> tasks_of d g

-- what the items did, in written order: on a region's exit the last one acts first
abbrev pub in_written_order : Directive → List Did → List Did
in_written_order (directives.Exit number) dids = reverse dids
in_written_order _ dids = dids

-- the plan is what judging the directive in this state found. The directive asks at most 64 tasks, and the plan has
-- what they do, and the queue that it names, which is there. No transfer that it makes is of a block that is lent
pub record IsPlanOf (l : Limits) (d : Directive) (s : State) (p : Planned) : Type 0 where
  pub asked : asked_of d s.register ≡ Ok p.tasks
  pub few : length p.tasks ≤ 64
  pub queued : p.queue ≡ queue_in d
  pub known : queue_named (queue_in d) ≡ Ok tt
  pub judged : judge_all l 0 p.tasks s ≡ Ok p.dids
  pub free : none_lent (transfers_in d s.records.queues) s.records.loans ≡ Ok tt

-- the draft has one task more, which does what it is judged to do in what those before it leave of this state
pub record IsJudgedNext (l : Limits) (n : ℕ) (task : Task) (s : State) (xs ys : List Acted) : Type 0 where
  pub did : Did
  pub judged : judge_task l n task (state_after xs s) ≡ Ok did
  pub more : ys ≡ xs ++ record { task = task; did = did } ∷ []

-- the region holds what at most 64 items counted
abbrev pub HasFewHoldings : Region → Type 0
HasFewHoldings r = length r.holdings ≤ 64

-- ---- what a plan makes of the register and the queues

-- what a task holds that enters an item of a region
abbrev pub holding_by : Task → Did → List Holding
holding_by (Enter Structured item queue) did = record { item = item; block = block_counted did.step; aim = pointer_attached did.aim } ∷ []
holding_by _ did = []

-- what tasks hold, in written order
abbrev pub holdings_by : List Task → List Did → List Holding
holdings_by (task ∷ tasks) (did ∷ dids) = holding_by task did ++ holdings_by tasks dids
holdings_by _ _ = []

-- the register after a directive whose tasks hold these
abbrev pub register_by : Directive → List Holding → Register → Register
register_by (directives.Enter device items) holdings g = opened g.next holdings g
register_by (directives.Exit number) holdings g = closed number g
register_by _ holdings g = g

-- the queues whose first transfers a directive makes, in that order
abbrev pub steps_by : Directive → List (List Transfer) → List ℕ
steps_by (directives.Wait device queue) queues = steps_of queue queues
steps_by (directives.Step device queue) queues = queue ∷ []
steps_by _ queues = []

-- the state after the directive, from what its tasks left
abbrev pub finished : Directive → Planned → State → State
finished d p s = record (drained (steps_by d s.records.queues) s) { register = register_by d (holdings_by p.tasks p.dids) s.register }

-- the state after the verdict on a directive
abbrev pub state_by : Bool → Verdict → State → State
state_by full (Makes e) s = after full e [] s
state_by full Idle s = s
