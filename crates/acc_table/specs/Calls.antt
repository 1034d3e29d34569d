-- What a call may do, and the reply to it.
use Rattle.std.specs.Prelude.{◌≡◌, MatchResult}
use Rattle.acc_clauses.specs.Words.{Call, Event, Fault}
use Rattle.acc_base.specs.declared.events.Event.TheVariants as events
use Rattle.acc_base.specs.declared.faults.Fault.TheVariants.{Memory}
use Rattle.acc_base.specs.Loans.{Leased}
use Rattle.acc_base.specs.Records.{State}
use Rattle.acc_base.specs.Walk.{loan_at}
use Rattle.acc_base.specs.Devices.{view, device_in}
use Rattle.acc_base.specs.Calls.{World, judge, world_after}
use Rattle.acc_base.specs.Judge.{Verdict, Makes, Idle, leased}
use Rattle.acc_table.specs.declared.calls.Reply.{Reply}
use Rattle.acc_table.specs.declared.calls.Reply.TheVariants as replies

-- the reply to an event, by its device's view before: a region's number, a wait's count, or a lease with the block's
-- bytes
abbrev pub reply_of : Event → State → Reply
reply_of (events.Entered device number items did) s = replies.Entered number
reply_of (events.Waited device queue count) s = replies.Drained count
reply_of (events.Lent device region section block serial) s = replies.Lease (leased device (loan_at serial block section s.records.ranges) s)
reply_of _ s = replies.Done

-- the reply in a world, by what the device of the event had
abbrev pub reply_in : Event → World → Reply
reply_in e w = reply_of e (view (device_in e) w.state)

-- the reply is that of the event, and the world is that after it; where there was nothing to do, the world is the same
abbrev pub IsCarriedOut : World → Call Leased → Verdict → Reply → World → Type 0
IsCarriedOut w call (Makes e) reply v = (reply ≡ reply_in e w) × (v ≡ world_after call e w)
IsCarriedOut w call Idle reply v = (reply ≡ replies.Idle) × (v ≡ w)

-- the call was accepted, and carried out
abbrev pub IsDone : World → Call Leased → Reply → World → Type 0
IsDone w call reply v = MatchResult (judge w call) (λ verdict. IsCarriedOut w call verdict reply v) (λ fault. ⊥)

-- where there is something to do, memory may be lacking for it
abbrev pub MayWantMemory : Verdict → Fault → Type 0
MayWantMemory (Makes e) fault = fault ≡ Memory
MayWantMemory Idle fault = ⊥

-- the fault is the call's first refusal, or lack of memory where there is none
abbrev pub IsRefusal : World → Call Leased → Fault → Type 0
IsRefusal w call fault = MatchResult (judge w call) (λ verdict. MayWantMemory verdict fault) (λ refusal. fault ≡ refusal)
