-- How a directive that was judged becomes an event, and what is refused before its items are judged.
use Rattle.std.specs.Prelude.{ℕ, ◌≡◌, ◌++◌, ◌∷◌, [], Bool, true, false, List, length, Option, Some, option_map, Result, Ok, Err, MatchResult, ⊤}
use Rattle.acc_clauses.specs.Words.{Section, Directive, Loan, Did, Event, Fault}
use Rattle.acc_base.specs.declared.calls.Call.TheVariants.{Lend, Gather}
use Rattle.acc_base.specs.declared.directives.Directive.TheVariants.{Enter, Exit, EnterData, ExitData, Update, Wait, Step}
use Rattle.acc_base.specs.declared.events.Event.TheVariants as events
use Rattle.acc_base.specs.Results.{◌>>◌}
use Rattle.acc_base.specs.Acting.{after}
use Rattle.acc_base.specs.Records.{State}
use Rattle.acc_base.specs.Queues.{head_of}
use Rattle.acc_base.specs.Waits.{steps_of}
use Rattle.acc_base.specs.Clauses.{in_host}
use Rattle.acc_base.specs.Loans.{Leased}
use Rattle.acc_base.specs.Judge.{Verdict, Makes, Idle, few_items, verdict_of, gathered, gather_event}
use Rattle.acc_base.specs.Limits.{limits_on}
use Rattle.acc_base.specs.Devices.{view, device_of_region}
use Rattle.acc_base.specs.Calls.{World, judge, ticket, allowance, trace_room, device_for, device_there}
use Rattle.acc_clauses.specs.Lending.{IsLoanPlanned}
use Rattle.acc_clauses.specs.Contents.{Contents}
use Rattle.acc_clauses.specs.Planned.{Planned}
use Rattle.acc_table.specs.declared.calls.Reply.{Reply}
use Rattle.acc_table.specs.declared.making.Kind.{Kind}
use Rattle.acc_table.specs.declared.making.Kind.TheVariants as kinds
use Rattle.acc_table.specs.declared.calls.Reply.TheVariants as replies
use Rattle.acc_table.specs.Calls.{reply_of, MayWantMemory}

-- the number that the event of a directive has from the state before it, and 0 where it has none. There is no event of
-- the step of an empty queue
abbrev pub number_told : Directive → State → Option ℕ
number_told (Enter device items) s = Some s.register.next
number_told (Wait device queue) s = Some (length (steps_of queue s.records.queues))
number_told (Step device queue) s = option_map (λ t. t.block) (head_of queue s.records.queues)
number_told d s = Some 0

-- the kind of a directive
abbrev pub kind_of : Directive → Kind
kind_of (Enter device items) = kinds.Enter
kind_of (Exit number) = kinds.Exit
kind_of (EnterData device items queue) = kinds.EnterData
kind_of (ExitData device items finalize queue) = kinds.ExitData
kind_of (Update device items if_present queue) = kinds.Update
kind_of (Wait device queue) = kinds.Wait
kind_of (Step device queue) = kinds.Step

-- the event of a directive on a device, with this number, and whose items did this, in written order
abbrev pub event_told : ℕ → Directive → ℕ → List Did → Event
event_told d (Enter device items) n did = events.Entered d n items did
event_told d (Exit number) n did = events.Left d number did
event_told d (EnterData device items queue) n did = events.EnteredData d items queue did
event_told d (ExitData device items finalize queue) n did = events.ExitedData d items finalize queue did
event_told d (Update device items if_present queue) n did = events.Updated d items if_present queue did
event_told d (Wait device queue) n did = events.Waited d queue n
event_told d (Step device queue) n did = events.Stepped d queue n

-- of what the items of an event did, what stands in memory of its own: a list of one has its element in itself
abbrev pub apart_of : List Did → List Did
apart_of (did ∷ []) = []
apart_of dids = dids

-- the reply to a directive whose event has this number
abbrev pub reply_told : Directive → ℕ → Reply
reply_told (Enter device items) n = replies.Entered n
reply_told (Wait device queue) n = replies.Drained n
reply_told d n = replies.Done

-- the refusals of a directive that come before those of its items
unfoldable pub admitted : World → Directive → Result ⊤ Fault
admitted w d = do
  ticket w
  allowance w d
  few_items d
  trace_room w
  device_there w (device_for d w.state)

-- the refusals of a write of the host into this section
unfoldable pub write_admitted : World → Section → Result ⊤ Fault
write_admitted w section = do
  ticket w
  trace_room w
  in_host w.limits 0 section

-- the verdict on lending the block of a section, or what it is refused for
abbrev pub IsLoanJudged : World → ℕ → Section → Result Loan Fault → Type 0
IsLoanJudged w region section result =
    let d : ℕ = device_of_region region w.state in
    MatchResult result (λ loan. IsLoanPlanned (limits_on d w.limits) region section (view d w.state) loan × (judge w (Lend region section) ≡ Ok (Makes (events.Lent d region section loan.block loan.serial)))) (λ fault. judge w (Lend region section) ≡ Err fault)

-- the verdict on a lease that is brought back, or what it is refused for
abbrev pub IsLeaseJudged : World → Leased → Result ⊤ Fault → Type 0
IsLeaseJudged w lease result = MatchResult result (λ _. (gather_event (limits_on lease.device w.limits) lease (view lease.device w.state) ≡ Ok (gathered w.limits.full lease)) × (judge w (Gather lease) ≡ Ok (Makes (gathered w.limits.full lease)))) (λ fault. judge w (Gather lease) ≡ Err fault)

-- the verdict on a directive for which this was planned
abbrev pub planned_verdict : Directive → Planned → Contents → Verdict
planned_verdict d p c = verdict_of c.limits.number d c.state p.dids

-- the fault is what a judgement refuses, or lack of memory where it refuses nothing and there is something to do
abbrev pub MayBeToldOf : Result Verdict Fault → Fault → Type 0
MayBeToldOf judged fault = MatchResult judged (λ verdict. MayWantMemory verdict fault) (λ refusal. fault ≡ refusal)

-- what a device and a trace hold is as before; only room may have been made
pub record IsAsBefore (old new : Contents) (before after_it : List Event) : Type 0 where
  pub limits : new.limits ≡ old.limits
  pub state : new.state ≡ old.state
  pub trace : after_it ≡ before

-- a device and a trace after an event, for which a call brought these bytes and got this reply
pub record IsMadeInto (e : Event) (brought : List ℕ) (answered : Reply) (old new : Contents) (before after_it : List Event) : Type 0 where
  pub reply : answered ≡ reply_of e old.state
  pub limits : new.limits ≡ old.limits
  pub state : new.state ≡ after old.limits.full e brought old.state
  pub trace : after_it ≡ before ++ e ∷ []

-- the event is that of a loan
abbrev pub is_loan : Event → Bool
is_loan (events.Lent device region section block serial) = true
is_loan _ = false

-- a device and a trace after what a directive came to
abbrev pub IsCommitted : Verdict → Reply → Contents → Contents → List Event → List Event → Type 0
IsCommitted (Makes e) reply old new before after_it = IsMadeInto e [] reply old new before after_it
IsCommitted Idle reply old new before after_it = (reply ≡ replies.Idle) × IsAsBefore old new before after_it
