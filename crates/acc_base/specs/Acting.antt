-- What an item does, its step and what becomes of its pointer: judged, and done. And what a directive and an event
-- leave of the state.
use Rattle.std.specs.Prelude.{ℕ, suc, Bool, List, [], ◌∷◌, map, Option, Some, None, Result, Ok}
use Rattle.acc_base.specs.Words.{Aim, Task, Step, Did, Event, Fault}
use Rattle.acc_base.specs.declared.attachments.Aim.TheVariants as aims
use Rattle.acc_base.specs.declared.tasks.Task.TheVariants.{Enter, ExitRegion, ExitData, Move}
use Rattle.acc_base.specs.declared.events.Event.TheVariants.{HostWritten, Lent, Gathered}
use Rattle.acc_base.specs.Results.{◌>>=◌}
use Rattle.acc_base.specs.Limits.{Limits, recorded}
use Rattle.acc_base.specs.Records.{Memory, State}
use Rattle.acc_base.specs.Steps.{pointer_aimed, judge_step}
use Rattle.acc_base.specs.Waits.{drained}
use Rattle.acc_base.specs.Walk.{asked_in, done_in, stepped_in, loaned, register_after}
use Rattle.acc_base.specs.Bytes.{memory_changed, step_state, host_after_write}
use Rattle.acc_base.specs.Detaching.{detach_if, judge_release}
use Rattle.acc_base.specs.Pointers.{judge_attach, aimed}

-- ---- one item

-- attaching a pointer, if there is one
abbrev pub attach_if : Limits → ℕ → Option ℕ → State → Result Aim Fault
attach_if l n None s = Ok aims.None
attach_if l n (Some pointer) s = judge_attach l n pointer s

-- what becomes of the pointer of the item at place n, whose step is this. On entry it is attached in what the step
-- left; on exit it is detached before the step
unfoldable pub judge_aim : Limits → ℕ → Task → Step → State → Result Aim Fault
judge_aim l n (Enter counter item queue) step s = attach_if l n (pointer_aimed (Enter counter item queue) step) (step_state (Enter counter item queue) step s)
judge_aim l n (ExitRegion holding) step s = Ok (judge_release holding.aim s.records)
judge_aim l n (ExitData finalize item queue) step s = Ok (detach_if finalize (pointer_aimed (ExitData finalize item queue) step) s.records)
judge_aim l n (Move if_present item queue) step s = Ok aims.None

-- its refusal, or what it does
unfoldable pub judge_task : Limits → ℕ → Task → State → Result Did Fault
judge_task l n task s = do
  step ← judge_step l n task s.records
  aim ← judge_aim l n task step s
  Ok (record { step = step; aim = aim })

-- the state after it
unfoldable pub act_state : Task → Did → State → State
act_state (Enter counter item queue) did s = aimed did.aim (step_state (Enter counter item queue) did.step s)
act_state (ExitRegion holding) did s = step_state (ExitRegion holding) did.step (aimed did.aim s)
act_state (ExitData finalize item queue) did s = step_state (ExitData finalize item queue) did.step (aimed did.aim s)
act_state (Move if_present item queue) did s = step_state (Move if_present item queue) did.step (aimed did.aim s)

-- ---- all items of a directive: each is judged in what those before it left

unfoldable pub judge_all : Limits → ℕ → List Task → State → Result (List Did) Fault
judge_all l n [] s = Ok []
judge_all l n (task ∷ tasks) s = do
  did ← judge_task l n task s
  dids ← judge_all l (suc n) tasks (act_state task did s)
  Ok (did ∷ dids)

-- the state after them, one after the other
unfoldable pub act_all_state : List Task → List Did → State → State
act_all_state (task ∷ tasks) (did ∷ dids) s = act_all_state tasks dids (act_state task did s)
act_all_state _ _ s = s

-- ---- an event

-- what an event writes into host memory beside the transfers that it makes, from the bytes that its call brought
abbrev pub host_after : Event → List ℕ → List ℕ → List ℕ
host_after (HostWritten addr len bytes) brought host = host_after_write addr len brought host
host_after _ brought host = host

-- what an event leaves of the blocks' bytes beside the transfers that it makes. Those of a lent block are in its lease
-- until a call brings them back; with full traces a copy of them stays
abbrev pub memories_after : Bool → Event → List ℕ → List Memory → List Memory
memories_after full (Lent device region section block serial) brought memories = map (memory_changed block (recorded full)) memories
memories_after full (Gathered device serial block bytes) brought memories = map (memory_changed block (λ _. brought)) memories
memories_after full _ brought memories = memories

-- the state after an event, and with the bytes that its call brought, under full or counted traces
unfoldable pub after : Bool → Event → List ℕ → State → State
after full e brought s =
    let acted : State = drained (stepped_in e s.records.queues) (act_all_state (asked_in e s.register) (done_in e) s) in
    record { records = loaned e acted.records; register = register_after e s.register; host = host_after e brought acted.host; memories = memories_after full e brought acted.memories }
