-- What a session of the code is, and what it leaves where there is no memory.
use Rattle.std.specs.Prelude.{◌≡◌, ◌⊎◌, true, Result, Ok, Err}
use Rattle.acc_base.specs.declared.faults.Fault.{Fault}
use Rattle.acc_base.specs.declared.faults.Fault.TheVariants.{Memory}
use Rattle.acc_base.specs.declared.calls.Call.{Call}
use Rattle.acc_base.specs.Loans.{Leased}
use Rattle.acc_base.specs.Calls.{judge}
use Rattle.acc_table.specs.declared.calls.Reply.{Reply}
use Rattle.acc_table.specs.declared.calls.Reply.TheVariants as replies
use Rattle.acc_script.specs.declared.print.effects.Effect.{Effect}
use Rattle.acc_script.specs.declared.print.effects.Effect.TheVariants.{Nothing, EmptyQueue, Refused}
use Rattle.acc_script.specs.declared.sessions.Session.{Session}
use Rattle.acc_read.specs.Statements.{Meaning, Kernel}
use Rattle.acc_script.specs.Scripts.{SessionState, called, IsLentFrom, turned, makes_event, run_takes_memory}

-- a session as its table's world, its arrays and its current device
abbrev pub session_state : Session → SessionState
session_state session = record { world = session.table; layout = session.arrays; device = session.device }

-- nothing changed, but the block of a kernel may be lent
abbrev pub IsStateLeft : SessionState → Meaning → SessionState → Type 0
IsStateLeft old (Kernel region kernel over) new = (new ≡ old) ⊎ IsLentFrom old region over new
IsStateLeft old _ new = new ≡ old

-- a statement that needs memory to run, and the state that it leaves where there is none
abbrev pub MayWant : SessionState → Meaning → SessionState → Type 0
MayWant old meaning new = (run_takes_memory old meaning ≡ true) × IsStateLeft old meaning new

-- a statement was run; or it needs memory, there was none, and it fails for nothing else
abbrev pub Performs : SessionState → Meaning → SessionState → Result Effect Fault → Type 0
Performs old meaning new (Ok effect) = turned old meaning ≡ record { state = new; effect = effect }
Performs old meaning new (Err fault) = (fault ≡ Memory) × MayWant old meaning new

-- what an accepted call has to print
abbrev pub effect_of : Reply → Effect
effect_of replies.Idle = EmptyQueue
effect_of _ = Nothing

-- what a refused call has to print; lack of memory is no refusal
abbrev pub refusal_of : Fault → Result Effect Fault
refusal_of Memory = Err Memory
refusal_of fault = Ok (Refused fault)

-- a call was made; or it is one that makes an event, there was no memory for it, and nothing changed
abbrev pub CallsFor : SessionState → Call Leased → SessionState → Result Effect Fault → Type 0
CallsFor old call new (Ok effect) = called old call (judge old.world call) ≡ record { state = new; effect = effect }
CallsFor old call new (Err fault) = (fault ≡ Memory) × (makes_event (judge old.world call) ≡ true) × (new ≡ old)
