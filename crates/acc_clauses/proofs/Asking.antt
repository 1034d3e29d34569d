-- What a directive asks, and the verdict on it.
use Rattle.std.proofs.Common.{ℕ, zero, suc, ◌≡◌, ◌<◌, ◌≤◌, refl, sym, ap, subst, ◌∙◌, true, false, List, [], ◌∷◌, ◌++◌, length, length-append, get_or, arith, Option, None, Result, Ok, Err, inl, inr}
use Rattle.std.specs.Prelude.{nat_lt, map, reverse, ⊤, MatchResult, OnOk}
use Rattle.std.proofs.lemmas.Bool.Decides.{nat_tests}
use Rattle.std.proofs.lemmas.List.{length-map, length-reverse}
use Rattle.std.specs.List.{list_all, list_any, AllByRecursion}
use Rattle.acc_clauses.specs.Words.{Directive, Holding, Task, Did, Fault}
use Rattle.acc_base.specs.declared.directives.Directive.TheVariants.{Enter, Exit, EnterData, ExitData, Update, Wait, Step}
use Rattle.acc_base.specs.declared.tasks.Task.TheVariants.{ExitRegion}
use Rattle.acc_base.specs.Results.{◌>>◌}
use Rattle.acc_base.specs.Limits.{Limits}
use Rattle.acc_base.specs.Records.{State}
use Rattle.acc_base.specs.Register.{Register}
use Rattle.acc_base.specs.Acting.{judge_all}
use Rattle.acc_base.specs.Walk.{enter_task, enter_data_task, exit_task, move_task, leave_tasks}
use Rattle.acc_base.specs.Queues.{queue_named}
use Rattle.acc_base.specs.Tasks.{queue_of}
use Rattle.acc_base.specs.Loans.{none_lent}
use Rattle.acc_base.specs.Judge.{Verdict, item_limit, item_count, few_items, device_named, own_device, tasks_with, holdings_left, queue_in, transfers_in, verdict_of, directive_verdict, plan_of}
use Rattle.acc_base.proofs.Results.{refused_not}
use Rattle.acc_base.proofs.Elements.{found_has}
use Rattle.acc_clauses.specs.declared.acted.Acted.{Acted}
use Rattle.acc_clauses.specs.Overlays.{AreUnmixed, AreQueuesNamed, enters, tasks_in, dids_in}
use Rattle.acc_clauses.specs.Planned.{HasFewHoldings, IsPlanOf, asked_of, holding_by, holdings_by}

-- ---- tasks of one kind

all_map : {X : Type 0} (f : X → Task) (xs : List X) → ((x : X) → enters (f x) ≡ true) → list_all enters (map f xs) ≡ true
all_map f [] all = refl
all_map f (x ∷ xs) all = rw (all x, all_map f xs all) refl

none_map : {X : Type 0} (f : X → Task) (xs : List X) → ((x : X) → enters (f x) ≡ false) → list_any enters (map f xs) ≡ false
none_map f [] none = refl
none_map f (x ∷ xs) none = rw (none x, none_map f xs none) refl

-- tasks that are made alike name the same queue
queue_map : {X : Type 0} (f : X → Task) (queue : Option ℕ) (xs : List X) → ((x : X) → queue_of (f x) ≡ queue) → AllByRecursion (λ (t : Task). queue_of t ≡ queue) (map f xs)
queue_map f queue [] each = tt
queue_map f queue (x ∷ xs) each = (each x, queue_map f queue xs each)

-- the exit from a region asks as much as it holds
length-leave : (holdings : List Holding) → length (leave_tasks holdings) ≡ length holdings
length-leave holdings = length-map (reverse holdings) ExitRegion ∙ length-reverse holdings

-- ---- what holds of the tasks of a directive

-- at most 64 tasks, all of one kind, which name the directive's queue
pub record AreTasksOf (d : Directive) (tasks : List Task) : Type 0 where
  pub few : length tasks ≤ 64
  pub unmixed : AreUnmixed tasks
  pub queues : AllByRecursion (λ (t : Task). queue_of t ≡ queue_in d) tasks

tasks_fit : (d : Directive) (holdings : List Holding) → item_count d ≤ 64 → length holdings ≤ 64 → AreTasksOf d (tasks_with d holdings)
tasks_fit (Enter device items) holdings few held = record { few = omega (arith, few, length-map items enter_task); unmixed = inl (all_map enter_task items (λ x. refl)); queues = queue_map enter_task None items (λ x. refl) }
tasks_fit (Exit number) holdings few held = record { few = omega (arith, held, length-leave holdings); unmixed = inr (none_map ExitRegion (reverse holdings) (λ x. refl)); queues = queue_map ExitRegion None (reverse holdings) (λ x. refl) }
tasks_fit (EnterData device items queue) holdings few held = let f = enter_data_task queue in record { few = omega (arith, few, length-map items f); unmixed = inl (all_map f items (λ x. refl)); queues = queue_map f queue items (λ x. refl) }
tasks_fit (ExitData device items finalize queue) holdings few held = let f = exit_task finalize queue in record { few = omega (arith, few, length-map items f); unmixed = inr (none_map f items (λ x. refl)); queues = queue_map f queue items (λ x. refl) }
tasks_fit (Update device items if_present queue) holdings few held = let f = move_task if_present queue in record { few = omega (arith, few, length-map items f); unmixed = inr (none_map f items (λ x. refl)); queues = queue_map f queue items (λ x. refl) }
tasks_fit _ holdings few held = record { few = omega arith; unmixed = inl refl; queues = tt }

-- so does the one that a directive leaves
few_left : (d : Directive) (g : Register) (holdings : List Holding) → AllByRecursion HasFewHoldings g.regions → holdings_left d g ≡ Ok holdings → length holdings ≤ 64
few_left d g holdings all e = grind (arith, nat_tests, found_has)

-- a directive that does not name too many items names few
few_checked : (d : Directive) → few_items d ≡ Ok tt → item_count d ≤ 64
few_checked d e = let few : nat_lt item_limit (item_count d) ≡ false = refused_not _ _ e in grind (arith, nat_tests)

-- what a directive asks is what it asks of what the region holds that it leaves
pub record IsAskedWith (d : Directive) (g : Register) (tasks : List Task) : Type 0 where
  pub holdings : List Holding
  pub few : few_items d ≡ Ok tt
  pub left : holdings_left d g ≡ Ok holdings
  pub are : tasks_with d holdings ≡ tasks

pub asked_with : (d : Directive) (g : Register) (tasks : List Task) → asked_of d g ≡ Ok tasks → IsAskedWith d g tasks
asked_with d g tasks e = grind (arith, nat_tests)

pub left_fit : (d : Directive) (g : Register) (holdings : List Holding) → AllByRecursion HasFewHoldings g.regions → few_items d ≡ Ok tt → holdings_left d g ≡ Ok holdings → AreTasksOf d (tasks_with d holdings)
left_fit d g holdings all few e = tasks_fit d holdings (few_checked d few) (few_left d g holdings all e)

pub asked_fit : (d : Directive) (g : Register) (tasks : List Task) → AllByRecursion HasFewHoldings g.regions → asked_of d g ≡ Ok tasks → AreTasksOf d tasks
asked_fit d g tasks all e = let is = asked_with d g tasks e in subst (AreTasksOf d) is.are (left_fit d g is.holdings all is.few is.left)

-- where a directive's queue is there, so are those of its tasks
pub queues_there : (queue : Option ℕ) (tasks : List Task) → queue_named queue ≡ Ok tt → AllByRecursion (λ (t : Task). queue_of t ≡ queue) tasks → AreQueuesNamed tasks
queues_there queue [] known all = tt
queues_there queue (t ∷ ts) known all = (ap queue_named all.0 ∙ known, queues_there queue ts known all.1)

-- so is that of each of them
pub queue_at_turn : (tasks : List Task) (i : ℕ) (d : Task) → i < length tasks → AreQueuesNamed tasks → queue_named (queue_of (get_or tasks i d)) ≡ Ok tt
queue_at_turn [] i d within all = absurd (omega (arith, within))
queue_at_turn (t ∷ ts) zero d within all = all.0
queue_at_turn (t ∷ ts) (suc i) d within all = queue_at_turn ts i d (omega (arith, within)) all.1

-- ---- the verdict

-- the verdict of a directive whose tasks did this, where no transfer that it makes is of a block that is lent
abbrev verdict_free : ℕ → Directive → State → List Did → Result Verdict Fault
verdict_free n d s dids = none_lent (transfers_in d s.records.queues) s.records.loans >> Ok (verdict_of n d s dids)

-- the directive names no other device than that of the limits
abbrev IsOwn : Limits → Directive → Type 0
IsOwn l d = own_device l.number (device_named d) ≡ Ok tt

-- a region that is not open is refused first
pub plan_closed : (l : Limits) (d : Directive) (s : State) (fault : Fault) → few_items d ≡ Ok tt → IsOwn l d → holdings_left d s.register ≡ Err fault → plan_of l d s ≡ Err fault
unfolding plan_of directive_verdict
plan_closed l d s fault few own left = rw (few, own, left) refl

-- then a queue that is not there
pub plan_unqueued : (l : Limits) (d : Directive) (s : State) (holdings : List Holding) (fault : Fault) → few_items d ≡ Ok tt → IsOwn l d → holdings_left d s.register ≡ Ok holdings → queue_named (queue_in d) ≡ Err fault → plan_of l d s ≡ Err fault
unfolding plan_of directive_verdict
plan_unqueued l d s holdings fault few own left q = rw (few, own, left, q) refl

-- then what its tasks are refused for
pub plan_refused : (l : Limits) (d : Directive) (s : State) (holdings : List Holding) (fault : Fault) → few_items d ≡ Ok tt → IsOwn l d → holdings_left d s.register ≡ Ok holdings → queue_named (queue_in d) ≡ Ok tt
    → judge_all l 0 (tasks_with d holdings) s ≡ Err fault → plan_of l d s ≡ Err fault
unfolding plan_of directive_verdict
plan_refused l d s holdings fault few own left q refused = rw (few, own, left, q, refused) refl

plan_judged : (l : Limits) (d : Directive) (s : State) (holdings : List Holding) (dids : List Did) → few_items d ≡ Ok tt → IsOwn l d → holdings_left d s.register ≡ Ok holdings → queue_named (queue_in d) ≡ Ok tt
    → judge_all l 0 (tasks_with d holdings) s ≡ Ok dids → plan_of l d s ≡ verdict_free l.number d s dids
unfolding plan_of directive_verdict
plan_judged l d s holdings dids few own left q judged = rw (few, own, left, q, judged) refl

-- then a block that is lent of a transfer that it makes; else it is the verdict of what its tasks do
pub plan_told : (l : Limits) (d : Directive) (s : State) (holdings : List Holding) (dids : List Did) (r : Result ⊤ Fault) → few_items d ≡ Ok tt → IsOwn l d → holdings_left d s.register ≡ Ok holdings → queue_named (queue_in d) ≡ Ok tt
    → judge_all l 0 (tasks_with d holdings) s ≡ Ok dids → r ≡ none_lent (transfers_in d s.records.queues) s.records.loans → MatchResult r (λ _. plan_of l d s ≡ Ok (verdict_of l.number d s dids)) (λ fault. plan_of l d s ≡ Err fault)
plan_told l d s holdings dids (Ok x) few own left q judged free = plan_judged l d s holdings dids few own left q judged ∙ rw (← free) refl
plan_told l d s holdings dids (Err fault) few own left q judged lent = plan_judged l d s holdings dids few own left q judged ∙ rw (← lent) refl

-- what is asked of what the region holds that is left
pub asked_left : (d : Directive) (g : Register) (holdings : List Holding) → few_items d ≡ Ok tt → holdings_left d g ≡ Ok holdings → asked_of d g ≡ Ok (tasks_with d holdings)
asked_left d g holdings few left = rw (few, left) refl

-- the plan of these tasks is the directive's, where no transfer that it makes is of a block that is lent
pub planned : (l : Limits) (d : Directive) (s : State) (holdings : List Holding) (xs : List Acted) (q : Option ℕ) (r : Result ⊤ Fault) → q ≡ queue_in d → asked_of d s.register ≡ Ok (tasks_with d holdings) → tasks_in xs ≡ tasks_with d holdings → length (tasks_with d holdings) ≤ 64
    → queue_named (queue_in d) ≡ Ok tt → judge_all l 0 (tasks_with d holdings) s ≡ Ok (dids_in xs) → r ≡ none_lent (transfers_in d s.records.queues) s.records.loans → OnOk r (IsPlanOf l d s (record { tasks = tasks_in xs; dids = dids_in xs; queue = q }))
planned l d s holdings xs q (Err fault) queued asked same few known judged free = tt
planned l d s holdings xs q (Ok x) queued asked same few known judged free = record {
  asked = rw same asked;
  few = rw same few;
  queued = queued;
  known = known;
  judged = rw same judged;
  free = sym free;
}

pub ruleset event_laws = (plan_closed, asked_left)

-- ---- what a region holds

-- where each task holds one item, as many are held
held_each : {X : Type 0} (f : X → Task) → ((x : X) (did : Did) → length (holding_by (f x) did) ≡ 1) → (items : List X) (xs : List Acted) → map f items ≡ tasks_in xs → length (holdings_by (tasks_in xs) (dids_in xs)) ≡ length xs
held_each f one [] [] e = refl
held_each f one [] (x ∷ xs) e = cc
held_each f one (i ∷ items) [] e = cc
held_each f one (i ∷ items) (x ∷ xs) e =
    let head : f i ≡ x.task = cc in
    let rest : map f items ≡ tasks_in xs = cc in
    let here : length (holding_by x.task x.did) ≡ 1 = subst (λ (t : Task). length (holding_by t x.did) ≡ 1) head (one i x.did) in
    omega (arith, here, held_each f one items xs rest, length-append (holding_by x.task x.did) (holdings_by (tasks_in xs) (dids_in xs)))

-- where none does, nothing is held
held_none : {X : Type 0} (f : X → Task) → ((x : X) (did : Did) → holding_by (f x) did ≡ []) → (items : List X) (xs : List Acted) → map f items ≡ tasks_in xs → holdings_by (tasks_in xs) (dids_in xs) ≡ []
held_none f none [] [] e = refl
held_none f none [] (x ∷ xs) e = cc
held_none f none (i ∷ items) [] e = cc
held_none f none (i ∷ items) (x ∷ xs) e =
    let head : f i ≡ x.task = cc in
    let rest : map f items ≡ tasks_in xs = cc in
    let here : holding_by x.task x.did ≡ [] = subst (λ (t : Task). holding_by t x.did ≡ []) head (none i x.did) in
    ap (λ hs. hs ++ holdings_by (tasks_in xs) (dids_in xs)) here ∙ held_none f none items xs rest

-- what is held by the tasks of a directive: each item of a region's entry, and nothing else
abbrev pub held_of : Directive → ℕ → ℕ
held_of (Enter device items) count = count
held_of _ count = 0

pub held_by : (d : Directive) (left : List Holding) (xs : List Acted) → tasks_with d left ≡ tasks_in xs → length (holdings_by (tasks_in xs) (dids_in xs)) ≡ held_of d (length xs)
held_by (Enter device items) left xs e = held_each enter_task (λ x did. refl) items xs e
held_by (Exit number) left xs e = ap (λ (hs : List Holding). length hs) (held_none ExitRegion (λ x did. refl) (reverse left) xs e)
held_by (EnterData device items queue) left xs e = ap (λ (hs : List Holding). length hs) (held_none (enter_data_task queue) (λ x did. refl) items xs e)
held_by (ExitData device items finalize queue) left xs e = ap (λ (hs : List Holding). length hs) (held_none (exit_task finalize queue) (λ x did. refl) items xs e)
held_by (Update device items if_present queue) left xs e = ap (λ (hs : List Holding). length hs) (held_none (move_task if_present queue) (λ x did. refl) items xs e)
held_by (Wait device queue) left [] e = refl
held_by (Wait device queue) left (x ∷ xs) e = cc
held_by (Step device queue) left [] e = refl
held_by (Step device queue) left (x ∷ xs) e = cc
