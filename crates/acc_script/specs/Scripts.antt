-- What a script does and prints, line by line, and how it ends.
use Rattle.std.specs.Prelude.{◌≡◌, ℕ, ◌+◌, Bool, true, false, ◌&&◌, ◌||◌, List, [], ◌∷◌, Option, Some, None, Result, Ok, Err, is_some, ◌==◌, if◌then◌else◌, ⊤}
use Rattle.acc_base.specs.declared.calls.Call.{Call}
use Rattle.acc_base.specs.declared.calls.Call.TheVariants.{Do, HostWrite, Lend, Gather}
use Rattle.acc_base.specs.declared.events.Event.{Event}
use Rattle.acc_base.specs.declared.faults.Fault.{Fault}
use Rattle.acc_base.specs.declared.faults.Fault.TheVariants.{OutOfHost}
use Rattle.acc_base.specs.declared.faults.ScriptFault.{ScriptFault}
use Rattle.acc_base.specs.declared.faults.ScriptFault.TheVariants.{Unclosed}
use Rattle.acc_base.specs.declared.items.Section.{Section}
use Rattle.acc_base.specs.Limits.{Limits}
use Rattle.acc_base.specs.Loans.{Leased}
use Rattle.acc_base.specs.Calls.{World, new_world, judge, world_after, device_there}
use Rattle.acc_base.specs.Devices.{view, open_regions}
use Rattle.acc_base.specs.Judge.{Verdict, Makes, Idle}
use Rattle.acc_base.specs.Ranges.{where_is}
use Rattle.acc_base.specs.Pointers.{device_address_of}
use Rattle.acc_table.specs.declared.calls.Reply.{Reply}
use Rattle.acc_table.specs.declared.calls.Reply.TheVariants as replies
use Rattle.acc_table.specs.Calls.{reply_in}
use Rattle.acc_table.specs.Queries.{is_inside, host_read_of, device_read_of, newest_of}
use Rattle.acc_script.specs.declared.print.effects.Effect.{Effect}
use Rattle.acc_script.specs.declared.print.effects.Effect.TheVariants.{Nothing, EmptyQueue, Refused, HostBytes, DeviceBytes, Presence, Place, Reported}
use Rattle.acc_script.specs.declared.runs.Status.{Status}
use Rattle.acc_script.specs.declared.runs.Status.TheVariants as statuses
use Rattle.acc_read.specs.Reading.{◌>>=◌}
use Rattle.acc_read.specs.Lines.{lines_of}
use Rattle.acc_read.specs.Layout.{ArrayLayout, no_arrays, with_array}
use Rattle.acc_read.specs.declared.kernels.ScriptKernel.{ScriptKernel}
use Rattle.acc_read.specs.Statements.{Meaning, Blank, Declare, Direct, Select, Kernel, Write, Show, Peek, Present, Address, Report, takes_memory, line_at}
use Rattle.acc_script.specs.Texts.{refusal_text, report_text}
use Rattle.acc_script.specs.Kernels.{source_of, kernel_run}
use Rattle.acc_script.specs.Shown.{idle_text, read_text, presence_text, place_text}

-- a table's world, the arrays of the script, and the number of the device that its lines are for
pub record SessionState : Type 0 where
  pub world : World
  pub layout : ArrayLayout
  pub device : ℕ

-- a new table, and no array; the first device is the current one
abbrev pub new_session : Limits → SessionState
new_session limits = record { world = new_world limits; layout = no_arrays limits.host; device = 0 }

-- ---- a statement

-- a state after a statement, and what there is to print
pub record Turned : Type 0 where
  pub state : SessionState
  pub effect : Effect

-- what there is to print, in a state that stays
abbrev pub answered : SessionState → Effect → Turned
answered s effect = record { state = s; effect = effect }

-- the state after an event of a call
abbrev pub session_after : Call Leased → Event → SessionState → SessionState
session_after call event s = record { world = world_after call event s.world; layout = s.layout; device = s.device }

-- a call changes the world where the table makes an event of it; the step of an empty queue is accepted and makes none
abbrev pub called : SessionState → Call Leased → Result Verdict Fault → Turned
called s call (Ok (Makes event)) = record { state = session_after call event s; effect = Nothing }
called s call (Ok Idle) = answered s EmptyQueue
called s call (Err fault) = answered s (Refused fault)

-- the call that brings a lease back, with the bytes of its section as a kernel leaves them
abbrev pub back_from : ScriptKernel → List ℕ → Leased → Call Leased
back_from kernel src lease = Gather (kernel_run kernel lease src)

-- a kernel, with the lease that the call for its loan replied, brings it back; its block stays lent where that is
-- refused
abbrev pub gathered : SessionState → ScriptKernel → List ℕ → Reply → Turned
gathered s kernel src (replies.Lease lease) =
    called s (back_from kernel src lease) (judge s.world (back_from kernel src lease))
gathered s kernel src _ = answered s Nothing

-- a kernel with what the call for its loan comes to, which is never that there is nothing to do
abbrev pub on_loan : SessionState → ScriptKernel → List ℕ → Call Leased → Result Verdict Fault → Turned
on_loan s kernel src call (Ok (Makes event)) =
    gathered (session_after call event s) kernel src (reply_in event s.world)
on_loan s kernel src call (Ok Idle) = answered s Nothing
on_loan s kernel src call (Err fault) = answered s (Refused fault)

-- a state after another with the loan of a section in a region, which the table accepts, and nothing else
abbrev pub IsLentFrom : SessionState → ℕ → Section → SessionState → Type 0
IsLentFrom old region over new =
    (event : Event)
    × (judge old.world (Lend region over) ≡ Ok (Makes event))
    × (new ≡ session_after (Lend region over) event old)

-- a kernel over a section, with the bytes of its source: where host memory does not have these, nothing is lent
abbrev pub launched : SessionState → ℕ → ScriptKernel → Section → Option (List ℕ) → Turned
launched s region kernel over None = answered s (Refused (OutOfHost 1))
launched s region kernel over (Some src) = on_loan s kernel src (Lend region over) (judge s.world (Lend region over))

-- the host's bytes of a section can be shown where host memory has them
abbrev pub shown : Section → Option (List ℕ) → Effect
shown section None = Refused (OutOfHost 0)
shown section (Some bytes) = HostBytes section

-- another device is the current one, where it is there
abbrev pub selected : SessionState → ℕ → Result ⊤ Fault → Turned
selected s device (Ok there) =
    record { state = record { world = s.world; layout = s.layout; device = device }; effect = Nothing }
selected s device (Err fault) = answered s (Refused fault)

-- a state and a statement, as the state after it and what there is to print
abbrev pub turned : SessionState → Meaning → Turned
turned s Blank = answered s Nothing
turned s (Declare name array) =
    record { state = record { world = s.world; layout = with_array name array s.layout; device = s.device }; effect = Nothing }
turned s (Direct directive) = called s (Do directive) (judge s.world (Do directive))
turned s (Select device) = selected s device (device_there s.world device)
turned s (Kernel region kernel over) =
    launched s region kernel over (host_read_of (source_of kernel) s.world.state.host)
turned s (Write addr bytes) = called s (HostWrite addr bytes) (judge s.world (HostWrite addr bytes))
turned s (Show section) = answered s (shown section (host_read_of section s.world.state.host))
turned s (Peek section) = answered s (DeviceBytes s.device section)
turned s (Present section) = answered s (Presence (is_inside (where_is section (view s.device s.world.state).records.ranges)))
turned s (Address addr) = answered s (Place (device_address_of addr (view s.device s.world.state).records))
turned s Report = answered s Reported

-- a call comes to an event
abbrev pub makes_event : Result Verdict Fault → Bool
makes_event (Ok (Makes event)) = true
makes_event (Ok Idle) = false
makes_event (Err fault) = false

-- a statement needs memory to run where it declares an array, or makes a call that makes an event. A kernel's call is
-- for its loan, once host memory has the bytes of its source
abbrev pub run_takes_memory : SessionState → Meaning → Bool
run_takes_memory s (Declare name array) = true
run_takes_memory s (Direct directive) = makes_event (judge s.world (Do directive))
run_takes_memory s (Kernel region kernel over) =
    is_some (host_read_of (source_of kernel) s.world.state.host) && makes_event (judge s.world (Lend region over))
run_takes_memory s (Write addr bytes) = makes_event (judge s.world (HostWrite addr bytes))
run_takes_memory s _ = false

-- what the line of a number prints
abbrev pub effect_text : ℕ → World → Effect → List ℕ
effect_text number w Nothing = []
effect_text number w EmptyQueue = idle_text
effect_text number w (Refused fault) = refusal_text number fault
effect_text number w (HostBytes section) = read_text (host_read_of section w.state.host)
effect_text number w (DeviceBytes device section) = read_text (device_read_of section (view device w.state))
effect_text number w (Presence present) = presence_text present
effect_text number w (Place place) = place_text place
effect_text number w Reported = report_text w

-- what there is to print is a refusal
abbrev pub is_refused : Effect → Bool
is_refused (Refused fault) = true
is_refused _ = false

-- ---- a line

-- what a line asks for in a state, or its fault: the innermost open region is the one that was entered last
abbrev pub meaning_in : SessionState → List ℕ → Result Meaning ScriptFault
meaning_in s line = line_at s.layout s.device (newest_of s.world.state.devices) line

-- a line after it ran in a state, or its fault
unfoldable pub line_turned : SessionState → List ℕ → Result Turned ScriptFault
line_turned s line = do
  meaning ← meaning_in s line
  Ok (turned s meaning)

-- a statement needs memory to be read or to run
abbrev pub needs_memory : SessionState → Meaning → Bool
needs_memory s meaning = takes_memory meaning || run_takes_memory s meaning

-- what was read is no fault, and needs memory
abbrev pub meaning_wants : SessionState → Result Meaning ScriptFault → Bool
meaning_wants s (Ok meaning) = needs_memory s meaning
meaning_wants s (Err kind) = false

-- the line is not at fault, and what it asks for needs memory
abbrev pub line_wants : SessionState → List ℕ → Bool
line_wants s line = meaning_wants s (meaning_in s line)

-- what the line of a number prints, once it was run
abbrev pub line_text : ℕ → Turned → List ℕ
line_text number turn = effect_text number turn.state.world turn.effect

-- ---- all lines

-- the last line was run, and some line was refused or none. Or a line is at fault, or the end of the input, with the
-- number behind that of the last line
pub data Ending : Type 0 where
  Ended : (refused : Bool) → Ending
  Faulty : (number : ℕ) (kind : ScriptFault) → Ending

-- the text of each line that was run, whether it needs memory, and the ending
pub record Transcript : Type 0 where
  pub texts : List (List ℕ)
  pub wanting : List Bool
  pub ending : Ending

-- the line of a number, and the lines after it
abbrev pub noted : ℕ → Bool → Result Turned ScriptFault → (Turned → Transcript) → Transcript
noted number wanting (Err kind) others = record { texts = []; wanting = []; ending = Faulty number kind }
noted number wanting (Ok turn) others = record {
  texts = line_text number turn ∷ (others turn).texts;
  wanting = wanting ∷ (others turn).wanting;
  ending = (others turn).ending;
}

-- the end of the input behind all lines: at fault where a region is open
abbrev pub ended : ℕ → SessionState → Bool → Ending
ended number s refused = if open_regions s.world.state == 0 then Ended refused else Faulty number Unclosed

-- the lines from that of a number on; refused says whether one before was
abbrev pub transcript_from : ℕ → SessionState → Bool → List (List ℕ) → Transcript
transcript_from number s refused [] = record { texts = []; wanting = []; ending = ended number s refused }
transcript_from number s refused (line ∷ lines) =
    noted number (line_wants s line) (line_turned s line)
    (λ turn. transcript_from (number + 1) turn.state (refused || is_refused turn.effect) lines)

-- an input as a script on a new table of these limits
unfoldable pub transcript : Limits → List ℕ → Transcript
transcript limits input = transcript_from 1 (new_session limits) false (lines_of input)

-- the status of a script of which some line was refused, or none
abbrev pub status_of : Bool → Status
status_of true = statuses.Refused
status_of false = statuses.Clean
