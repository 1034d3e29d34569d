-- No rule but the table's own refuses for lack of tickets, of regions or of memory.
use Rattle.std.proofs.Common.{◌≡◌, ◌<◌, ◌≤◌, ◌⊎◌, inl, inr, ℕ, suc, Bool, true, false, cond, List, [], ◌∷◌, Option, Some, None, Result, Ok, Err, refl, subst, arith, rules}
use Rattle.std.proofs.lemmas.Bool.Decides.{nat_tests}
use Rattle.std.specs.Prelude.{⊤, ok_or, nat_le, ◌==◌, MatchResult}
use Rattle.acc_base.specs.declared.items.Section.{Section}
use Rattle.acc_base.specs.declared.items.RegionClause.{RegionClause}
use Rattle.acc_base.specs.declared.calls.Call.{Call}
use Rattle.acc_base.specs.declared.calls.Call.TheVariants.{Do, HostWrite, Lend, Gather}
use Rattle.acc_base.specs.declared.directives.Directive.{Directive}
use Rattle.acc_base.specs.declared.directives.Directive.TheVariants as directives
use Rattle.acc_base.specs.declared.events.Event.{Event}
use Rattle.acc_base.specs.declared.events.Event.TheVariants.{Lent as LentOut}
use Rattle.acc_base.specs.declared.events.Step.{Step}
use Rattle.acc_base.specs.declared.events.Step.TheVariants as steps
use Rattle.acc_base.specs.declared.faults.Fault.{Fault}
use Rattle.acc_base.specs.declared.faults.Fault.TheVariants.{Memory, Lent, NoTickets, NoRegion, NoAllowance, NoQueue, NotPresent, NoDevice}
use Rattle.acc_base.specs.declared.loans.Loan.{Loan}
use Rattle.acc_base.specs.declared.mappings.Counter.{Counter}
use Rattle.acc_base.specs.declared.mappings.Found.{Found}
use Rattle.acc_base.specs.declared.mappings.Found.TheVariants.{Inside, Absent}
use Rattle.acc_base.specs.declared.mappings.Range.{Range}
use Rattle.acc_base.specs.declared.regions.Holding.{Holding}
use Rattle.acc_base.specs.declared.transfers.Transfer.{Transfer}
use Rattle.acc_base.specs.declared.transfers.TheConstants.{QUEUE_COUNT}
use Rattle.acc_base.specs.declared.tasks.Task.{Task}
use Rattle.acc_base.specs.declared.tasks.Task.TheVariants as tasks
use Rattle.acc_base.specs.Results.{◌>>=◌, ◌>>◌, refuse_if}
use Rattle.acc_base.specs.Limits.{Limits, limits_on}
use Rattle.acc_base.specs.Section.{device_memory}
use Rattle.acc_base.specs.Ranges.{dynamic_of, ends_by}
use Rattle.acc_base.specs.Blocks.{rounded, place_for}
use Rattle.acc_base.specs.Records.{Records, State}
use Rattle.acc_base.specs.Register.{Register, holdings_at}
use Rattle.acc_base.specs.Clauses.{pointer_checked, born_at, enter_absent, enter_row, leave_row, exit_row, move_row}
use Rattle.acc_base.specs.Tasks.{recounted}
use Rattle.acc_base.specs.Queues.{queue_named}
use Rattle.acc_base.specs.Transfers.{room_for}
use Rattle.acc_base.specs.Loans.{Leased, is_lent, not_lent, none_lent}
use Rattle.acc_base.specs.Steps.{judge_row, judge_step, pointer_aimed}
use Rattle.acc_base.specs.Bytes.{step_state}
use Rattle.acc_base.specs.Detaching.{block_with}
use Rattle.acc_base.specs.Pointers.{target_of, attach_there, judge_attach}
use Rattle.acc_base.specs.Acting.{attach_if, judge_aim, judge_task, judge_all}
use Rattle.acc_base.specs.Walk.{leave_tasks}
use Rattle.acc_base.specs.Judge.{Verdict, Makes, Idle, few_items, tasks_of, directive_verdict, host_write_event, lend_there, lend_event, gather_event}
use Rattle.acc_base.specs.Devices.{view, device_of_region, open_regions}
use Rattle.acc_base.specs.Calls.{World, event_count, ticket, trace_room, device_for, device_there, verdict_on, loan_on, judge}
use Rattle.acc_table.specs.Calls.{MayWantMemory, IsRefusal}
use Rattle.acc_table.specs.Counts.{is_entry, is_shortage}

-- it is no lack of tickets, of regions or of memory
abbrev IsOther : Fault → Type 0
IsOther Memory = ⊥
IsOther (NoTickets left) = ⊥
IsOther (NoAllowance left) = ⊥
IsOther _ = ⊤

-- if it is a refusal, it is another one
abbrev Tells : {A : Type 0} → Result A Fault → Type 0
Tells (Ok x) = ⊤
Tells (Err fault) = IsOther fault

-- a step and what follows it refuse for no such lack
bind_tells : {A B : Type 0} (r : Result A Fault) (f : A → Result B Fault) → Tells r → ((x : A) → Tells (f x))
    → Tells (r >>= f)
bind_tells (Ok x) f h k = k x
bind_tells (Err fault) f h k = h

-- a check and what follows it refuse for no such lack
then_tells : {B : Type 0} (r : Result ⊤ Fault) (s : Result B Fault) → Tells r → Tells s → Tells (r >> s)
then_tells (Ok x) s h k = k
then_tells (Err fault) s h k = h

-- a choice refuses for no such lack where both sides do
either_tells : {A : Type 0} (b : Bool) (r s : Result A Fault) → Tells r → Tells s → Tells (cond b r s)
either_tells true r s h k = h
either_tells false r s h k = k

-- how a judgement is made of others
ruleset telling = (then_tells, bind_tells, either_tells)

-- ---- one item

-- a birth refuses for no such lack, whether there is a place for it or not
born_tells : (n : ℕ) (section : Section) (w : Records) (place : Option ℕ) → Tells (born_at place n section w)
born_tells n section w None = tt
born_tells n section w (Some place) = tt

-- the row of an absent section refuses for no such lack
absent_tells : (clause : RegionClause) (l : Limits) (n : ℕ) (section : Section) (w : Records)
    → Tells (enter_absent clause l n section w)
absent_tells clause l n section w = grind (arith, nat_tests, born_tells n section w (place_for (device_memory l) w.blocks (rounded section.len)))

-- an entry refuses for no such lack, wherever its section lies
enter_tells : (found : Found) (l : Limits) (counter : Counter) (clause : RegionClause) (n : ℕ) (section : Section)
    (w : Records) → Tells (enter_row found l counter clause n section w)
enter_tells (Inside block offset) l counter clause n section w = search (rules, telling)
enter_tells Absent l counter clause n section w = absent_tells clause l n section w
enter_tells _ l counter clause n section w = tt

-- an exit from a region refuses for no such lack
leave_tells : (block : Option ℕ) (change : Range → Range) (w : Records) → Tells (leave_row block change w)
leave_tells None change w = tt
leave_tells (Some block) change w = tt

-- an item of `exit data` refuses for no such lack, wherever its section lies
exit_tells : (found : Found) (change : Range → Range) (n : ℕ) (w : Records) → Tells (exit_row found change n w)
exit_tells (Inside block offset) change n w = either_tells (dynamic_of block w.ranges == 0) (Ok steps.Nothing) (Ok (steps.Dropped block (ends_by change block w.ranges))) tt tt
exit_tells _ change n w = tt

-- an item of `update` refuses for no such lack, wherever its section lies
move_tells : (found : Found) (if_present : Bool) (n : ℕ) → Tells (move_row found if_present n)
move_tells Absent if_present n = either_tells if_present (Ok steps.Nothing) (Err (NotPresent n)) tt tt
move_tells _ if_present n = tt

-- the check of a pointer refuses for no such lack
pointer_tells : (l : Limits) (n : ℕ) (named : Option ℕ) → Tells (pointer_checked l n named)
pointer_tells l n None = tt
pointer_tells l n (Some pointer) = search (rules, telling)

-- what the clause tables say of an item refuses for no such lack
row_tells : (l : Limits) (n : ℕ) (task : Task) (w : Records) → Tells (judge_row l n task w)
unfolding judge_row
row_tells l n (tasks.Enter counter item queue) w = search (rules, telling, pointer_tells, enter_tells)
row_tells l n (tasks.ExitRegion holding) w = leave_tells holding.block (recounted (tasks.ExitRegion holding)) w
row_tells l n (tasks.ExitData finalize item queue) w = search (rules, telling, pointer_tells, exit_tells)
row_tells l n (tasks.Move if_present item queue) w = search (rules, telling, move_tells)

-- nor does that for a transfer, where there is one and it has a queue
transfer_tells : (queue_cap : ℕ) (queue : Option ℕ) (t : Option Transfer) (queues : List (List Transfer))
    → Tells (room_for queue_cap queue t queues)
transfer_tells queue_cap (Some q) (Some t) queues = search (rules, telling)
transfer_tells queue_cap _ _ queues = tt

-- nor does a check that a block is not lent
lent_tells : (block : Option ℕ) (loans : List Loan) → Tells (not_lent block loans)
lent_tells None loans = tt
lent_tells (Some block) loans = either_tells (is_lent block loans) (Err (Lent block)) (Ok tt) tt tt

-- nor does one that no block of some transfers is
all_lent_tells : (transfers : List Transfer) (loans : List Loan) → Tells (none_lent transfers loans)
all_lent_tells [] loans = tt
all_lent_tells (t ∷ ts) loans = then_tells (not_lent (Some t.block) loans) (none_lent ts loans) (lent_tells (Some t.block) loans) (all_lent_tells ts loans)

-- the step of an item refuses for no such lack
step_tells : (l : Limits) (n : ℕ) (task : Task) (w : Records) → Tells (judge_step l n task w)
unfolding judge_step
step_tells l n task w = search (rules, telling, row_tells, lent_tells, transfer_tells)

-- an attachment refuses for no such lack
attach_tells : (l : Limits) (n pointer : ℕ) (s : State) → Tells (judge_attach l n pointer s)
unfolding judge_attach
attach_tells l n pointer s = go (block_with pointer s.records.ranges) (target_of pointer s)
  where
    go : (block target : Option ℕ) → Tells (attach_there l n pointer block target s)
    go None target = tt
    go (Some block) None = tt
    go (Some block) (Some target) = search (rules, telling, lent_tells)

-- what becomes of an item's pointer refuses for no such lack
aim_tells : (l : Limits) (n : ℕ) (task : Task) (step : Step) (s : State) → Tells (judge_aim l n task step s)
unfolding judge_aim
aim_tells l n (tasks.Enter counter item queue) step s = go (pointer_aimed (tasks.Enter counter item queue) step)
  where
    go : (named : Option ℕ) → Tells (attach_if l n named (step_state (tasks.Enter counter item queue) step s))
    go None = tt
    go (Some pointer) = attach_tells l n pointer (step_state (tasks.Enter counter item queue) step s)
aim_tells l n _ step s = tt

-- what one item asks refuses for no such lack
task_tells : (l : Limits) (n : ℕ) (task : Task) (s : State) → Tells (judge_task l n task s)
unfolding judge_task
task_tells l n task s = search (rules, telling, step_tells, aim_tells)

-- ---- all items

-- what all items ask refuses for no such lack
all_tells : (l : Limits) (n : ℕ) (asked : List Task) (s : State) → Tells (judge_all l n asked s)
unfolding judge_all
all_tells l n [] s = tt
all_tells l n (task ∷ others) s = search (rules, telling, task_tells, all_tells l (suc n) others)

-- ---- a call

-- a look for a region refuses for no such lack
region_tells : (number : ℕ) (held : Option (List Holding)) → Tells (ok_or held (NoRegion number) >>= λ holdings. Ok (leave_tasks holdings))
region_tells number None = tt
region_tells number (Some holdings) = tt

-- what a directive asks refuses for no such lack
asked_tells : (directive : Directive) (g : Register) → Tells (tasks_of directive g)
asked_tells (directives.Exit number) g = region_tells number (holdings_at number g.regions)
asked_tells _ g = tt

-- a look for a queue refuses for no such lack
named_tells : (queue : Option ℕ) → Tells (queue_named queue)
named_tells None = tt
named_tells (Some q) = either_tells (nat_le QUEUE_COUNT q) (Err (NoQueue q)) (Ok tt) tt tt

-- a directive refuses for no such lack
directive_tells : (l : Limits) (d : ℕ) (directive : Directive) (s : State) → Tells (directive_verdict l d directive s)
unfolding directive_verdict
directive_tells l d directive s = search (rules, telling, asked_tells, named_tells, all_tells, all_lent_tells)

-- a loan of a section refuses for no such lack, wherever it lies
there_tells : (found : Found) (d region : ℕ) (section : Section) (s : State) → Tells (lend_there found d region section s)
there_tells (Inside block offset) d region section s = then_tells (not_lent (Some block) s.records.loans) (Ok (LentOut d region section block s.register.serial)) (lent_tells (Some block) s.records.loans) tt
there_tells _ d region section s = tt

-- nor does a look for a device
device_tells : (w : World) (d : ℕ) → Tells (device_there w d)
device_tells w d = either_tells (nat_le w.limits.devices d) (Err (NoDevice d)) (Ok tt) tt tt

-- ---- a call

-- what a call is judged by where there are a ticket and a region left
abbrev rest_of : World → Call Leased → Result Verdict Fault
rest_of w (Do directive) = few_items directive >> (trace_room w >> (device_there w (device_for directive w.state) >> verdict_on w (device_for directive w.state) directive))
rest_of w (HostWrite addr bytes) = trace_room w >> (host_write_event w.limits addr bytes >>= λ e. Ok (Makes e))
rest_of w (Lend region section) = trace_room w >> (loan_on w (device_of_region region w.state) region section >>= λ e. Ok (Makes e))
rest_of w (Gather lease) = trace_room w >> (gather_event (limits_on lease.device w.limits) lease (view lease.device w.state) >>= λ e. Ok (Makes e))

-- it refuses for no such lack
rest_tells : (w : World) (call : Call Leased) → Tells (rest_of w call)
unfolding host_write_event lend_event gather_event
rest_tells w (Do directive) = search (rules, telling, device_tells, directive_tells)
rest_tells w (Lend region section) = search (rules, telling, there_tells)
rest_tells w _ = search (rules, telling)

-- there are no tickets left; or it is an entry, and no region is
abbrev pub HasNoneLeft : World → Call Leased → Type 0
HasNoneLeft w call = (w.limits.tickets ≤ event_count w.history) ⊎ ((is_entry call ≡ true) × (w.limits.regions ≤ open_regions w.state))

-- it is no refusal, or another one, or none are left
abbrev MayTell : World → Call Leased → Result Verdict Fault → Type 0
MayTell w call (Err Memory) = ⊥
MayTell w call (Err (NoTickets left)) = HasNoneLeft w call
MayTell w call (Err (NoAllowance left)) = HasNoneLeft w call
MayTell w call _ = ⊤

other_told : (w : World) (call : Call Leased) (r : Result Verdict Fault) → Tells r → MayTell w call r
other_told w call (Ok verdict) h = tt
other_told w call (Err Memory) h = absurd h
other_told w call (Err (NoTickets left)) h = absurd h
other_told w call (Err (NoAllowance left)) h = absurd h
other_told w call (Err _) h = tt

-- a test whose refusal may be returned, and what follows it
tested : (w : World) (call : Call Leased) (b : Bool) (fault : Fault) (r : Result Verdict Fault)
    → (b ≡ true → MayTell w call (Err fault)) → MayTell w call r → MayTell w call (refuse_if b fault >> r)
tested w call true fault r h k = h refl
tested w call false fault r h k = k

-- so may what follows the test for a ticket
ticket_told : (w : World) (call : Call Leased) (r : Result Verdict Fault) → MayTell w call r → MayTell w call (ticket w >> r)
ticket_told w call r h =
    tested w call (nat_le w.limits.tickets (event_count w.history)) (NoTickets 0) r (λ full. inl (grind (arith, nat_tests))) h

told : (w : World) (call : Call Leased) → MayTell w call (judge w call)
unfolding judge
told w (Do (directives.Enter device items)) =
    let call : Call Leased = Do (directives.Enter device items) in
    let rest : MayTell w call (rest_of w call) = other_told w call (rest_of w call) (rest_tells w call) in
    ticket_told w call _ (tested w call (nat_le w.limits.regions (open_regions w.state)) (NoAllowance 0) (rest_of w call) (λ full. inr (refl, grind (arith, nat_tests))) rest)
told w (Do directive) = ticket_told w (Do directive) _ (other_told w (Do directive) (rest_of w (Do directive)) (rest_tells w (Do directive)))
told w call = ticket_told w call _ (other_told w call (rest_of w call) (rest_tells w call))

-- where a call is refused for lack of a ticket or a region, there are none left
pub refused_short : (w : World) (call : Call Leased) (fault : Fault) → IsRefusal w call fault → is_shortage fault ≡ true → HasNoneLeft w call
refused_short w call fault refusal short = by (judge w call) (told w call) refusal
  where
    none : (first : Fault) → MayTell w call (Err first) → fault ≡ first → HasNoneLeft w call
    none first h is = of first h (subst (λ x. is_shortage x ≡ true) is short)
      where
        of : (first : Fault) → MayTell w call (Err first) → is_shortage first ≡ true → HasNoneLeft w call
        of (NoTickets left) h s = h
        of (NoAllowance left) h s = h
        of _ h s = absurd cc

    by : (r : Result Verdict Fault) → MayTell w call r
        → MatchResult r (λ verdict. MayWantMemory verdict fault) (λ first. fault ≡ first) → HasNoneLeft w call
    by (Ok (Makes e)) h is = let s : is_shortage Memory ≡ true = subst (λ x. is_shortage x ≡ true) is short in absurd cc
    by (Ok Idle) h is = absurd is
    by (Err first) h is = none first h is

-- so with a ticket and a region left it is refused for something else
pub refused_other : (w : World) (call : Call Leased) (fault : Fault) → event_count w.history < w.limits.tickets
    → (is_entry call ≡ true → open_regions w.state < w.limits.regions) → IsRefusal w call fault → is_shortage fault ≡ false
refused_other w call fault ticket region refusal = go (is_shortage fault) refl
  where
    some : HasNoneLeft w call → ⊥
    some (inl full) = omega arith
    some (inr full) = let room = region full.0 in omega (arith, room, full.1)

    go : (b : Bool) → is_shortage fault ≡ b → b ≡ false
    go false is = refl
    go true is = absurd (some (refused_short w call fault refusal is))

-- a call for which a table needs memory is one that makes an event
pub memory_made : (w : World) (call : Call Leased) → IsRefusal w call Memory → (e : Event) × (judge w call ≡ Ok (Makes e))
memory_made w call refusal = by (judge w call) refl (told w call) refusal
  where
    by : (r : Result Verdict Fault) → judge w call ≡ r → MayTell w call r
        → MatchResult r (λ verdict. MayWantMemory verdict Memory) (λ fault. Memory ≡ fault) → (e : Event) × (judge w call ≡ Ok (Makes e))
    by (Ok (Makes e)) is h x = (e, is)
    by (Ok Idle) is h x = absurd x
    by (Err Memory) is h x = absurd h
    by (Err _) is h x = absurd cc
