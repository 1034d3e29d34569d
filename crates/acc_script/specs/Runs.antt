-- What a run of a script reads, writes and returns.
use Rattle.std.specs.Prelude.{◌≡◌, ◌⊎◌, ℕ, Bool, true, false, List, slice_index_or, take, Option, Result, Ok, Err, ⊤}
use Rattle.std.specs.List.{concat}
use Rattle.acc_base.specs.declared.faults.Fault.{Fault}
use Rattle.acc_base.specs.declared.faults.Fault.TheVariants.{Memory, Script, Read, Write}
use Rattle.acc_base.specs.Limits.{Limits}
use Rattle.acc_script.specs.declared.runs.Status.{Status}
use Rattle.acc_script.specs.Told.{Given, Taken, GaveAll, FailedOrPassed, Took, TookFront}
use Rattle.acc_script.specs.Ends.{input_limit, GaveSome}
use Rattle.acc_script.specs.Scripts.{SessionState, Turned, is_refused, line_turned, line_wants, line_text, Transcript, Ended, Faulty, transcript, status_of}

-- a text was written, or the sink failed and took a front of it
abbrev pub Printed : Option Taken → Option Taken → List ℕ → Result ⊤ Fault → Type 0
Printed old new text (Ok done) = Took old new text
Printed old new text (Err Write) = TookFront old new text
Printed old new text (Err _) = ⊥

-- ---- a line

-- a line was run, and what it printed was written
pub record RanLine (number : ℕ) (s : SessionState) (line : List ℕ) (old new : Option Taken) (after : SessionState)
    (refused : Bool) : Type 0 where
  pub turn : Turned
  pub is : line_turned s line ≡ Ok turn
  pub state : after ≡ turn.state
  pub refused_is : refused ≡ is_refused turn.effect
  pub wrote : Took old new (line_text number turn)

-- a line was run, and what it printed could not be written
pub record LostLine (number : ℕ) (s : SessionState) (line : List ℕ) (old new : Option Taken) : Type 0 where
  pub turn : Turned
  pub is : line_turned s line ≡ Ok turn
  pub wrote : TookFront old new (line_text number turn)

-- a line was run; or it is at fault, it needs memory and there was none, or its text could not be written
abbrev pub LineRuns : ℕ → SessionState → List ℕ → Option Taken → Option Taken → SessionState → Result Bool Fault → Type 0
LineRuns number s line old new after (Ok refused) = RanLine number s line old new after refused
LineRuns number s line old new after (Err Memory) = (line_wants s line ≡ true) × (new ≡ old)
LineRuns number s line old new after (Err (Script at kind)) =
    (at ≡ number) × (line_turned s line ≡ Err kind) × (new ≡ old)
LineRuns number s line old new after (Err Write) = LostLine number s line old new
LineRuns number s line old new after (Err _) = ⊥

-- ---- a script

-- what the lines before one that needs memory print was written, and there was no memory for that line
abbrev pub WantedMemory : Transcript → Option Taken → Option Taken → Type 0
WantedMemory t old new =
    (lines : ℕ) × (slice_index_or t.wanting lines false ≡ true) × Took old new (concat (take lines t.texts))

-- what was written is all of the transcript, or what stands before a line at fault or without memory, or a front
abbrev pub LinesPlayed : Transcript → Option Taken → Option Taken → Result Status Fault → Type 0
LinesPlayed t old new (Ok status) =
    (refused : Bool) × (t.ending ≡ Ended refused) × (status ≡ status_of refused) × Took old new (concat t.texts)
LinesPlayed t old new (Err (Script number kind)) = (t.ending ≡ Faulty number kind) × Took old new (concat t.texts)
LinesPlayed t old new (Err Memory) = WantedMemory t old new
LinesPlayed t old new (Err Write) = TookFront old new (concat t.texts)
LinesPlayed t old new (Err _) = ⊥

-- the same; or there was no memory for a table, and nothing was written
abbrev pub Played : Transcript → Option Taken → Option Taken → Result Status Fault → Type 0
Played t old new (Ok status) = LinesPlayed t old new (Ok status)
Played t old new (Err Memory) = (new ≡ old) ⊎ WantedMemory t old new
Played t old new (Err fault) = LinesPlayed t old new (Err fault)

-- ---- a run

-- the source met its end and did not fail, and what it gave in this call was run as a script
abbrev pub RanAll : Limits → Option Given → Option Given → Option Taken → Option Taken → Result Status Fault → Type 0
RanAll limits given gave taken took result =
    (input : List ℕ) × GaveAll given gave input × Played (transcript limits input) taken took result

-- a run read its whole input and played it; or it could not read the input, or found no memory for it, and wrote
-- nothing
abbrev pub Ran : Limits → Option Given → Option Given → Option Taken → Option Taken → Result Status Fault → Type 0
Ran limits given gave taken took (Ok status) = RanAll limits given gave taken took (Ok status)
Ran limits given gave taken took (Err (Script number kind)) =
    RanAll limits given gave taken took (Err (Script number kind))
Ran limits given gave taken took (Err Memory) =
    RanAll limits given gave taken took (Err Memory) ⊎ (GaveSome given gave × (took ≡ taken))
Ran limits given gave taken took (Err Read) = FailedOrPassed input_limit given gave × (took ≡ taken)
Ran limits given gave taken took (Err Write) = RanAll limits given gave taken took (Err Write)
Ran limits given gave taken took (Err _) = ⊥
