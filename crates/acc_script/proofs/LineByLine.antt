-- One more line of a script.
use Rattle.std.proofs.Common.{◌≡◌, ℕ, suc, ◌+◌, ◌<◌, Bool, true, false, List, [], ◌∷◌, length, take, Option, Result, Ok, Err, refl, sym, ap, subst}
use Rattle.std.specs.Prelude.{◌||◌, IsOkAnd, IsTrue}
use Rattle.std.specs.List.{concat}
use Rattle.std.proofs.lemmas.List.{nil_from_length}
use Rattle.acc_base.specs.declared.faults.Fault.{Fault}
use Rattle.acc_base.specs.declared.faults.Fault.TheVariants.{Memory, Script, Write}
use Rattle.acc_base.specs.declared.faults.ScriptFault.{ScriptFault}
use Rattle.acc_base.specs.declared.faults.ScriptFault.TheVariants.{Unclosed}
use Rattle.acc_base.specs.Devices.{open_regions}
use Rattle.acc_script.specs.declared.print.effects.Effect.{Effect}
use Rattle.acc_script.specs.declared.runs.Status.{Status}
use Rattle.acc_script.specs.Told.{Taken, Took, TookFront}
use Rattle.acc_read.specs.Lines.{lines_of}
use Rattle.acc_read.specs.Reading.{◌>>=◌}
use Rattle.acc_read.specs.Statements.{Meaning, takes_memory}
use Rattle.acc_script.specs.Sessions.{MayWant}
use Rattle.acc_script.specs.Scripts.{SessionState, Turned, turned, is_refused, meaning_in, line_turned, meaning_wants, line_wants, line_text, Transcript, Faulty, noted, transcript_from, status_of}
use Rattle.acc_script.specs.Runs.{RanLine, LostLine, LineRuns, LinesPlayed}
use Rattle.acc_script.proofs.Takes.{not_zero}
use Rattle.acc_script.proofs.Fronts.{Took_then, took_on, front_more, front_then, took_nothing}

-- ---- a line

-- a line that was run
abbrev some_turn : Turned → Result Turned ScriptFault
some_turn turn = Ok turn

-- a line that says a statement runs as the statement does
turn_is : (s : SessionState) (line : List ℕ) (meaning : Meaning) (turn : Turned) → meaning_in s line ≡ Ok meaning
    → turned s meaning ≡ turn → line_turned s line ≡ Ok turn
unfolding line_turned
turn_is s line meaning turn said is = rw said (ap some_turn is)

-- a line that says something was run
pub line_ran : (number : ℕ) (s after : SessionState) (line : List ℕ) (old written new : Option Taken) (meaning : Meaning)
    (effect : Effect) (refused : Bool)
    → meaning_in s line ≡ Ok meaning → turned s meaning ≡ record { state = after; effect = effect }
    → refused ≡ is_refused effect → Took old written (line_text number (record { state = after; effect = effect }))
    → Took written new [] → RanLine number s line old new after refused
line_ran number s after line old written new meaning effect refused said is refused_is wrote kept =
    let turn : Turned = record { state = after; effect = effect } in
    record { turn = turn; is = turn_is s line meaning _ said is; state = refl; refused_is = refused_is; wrote = took_on old written new (line_text number turn) wrote kept }

-- a line that was run and whose text could not be written
pub line_lost : (number : ℕ) (s after : SessionState) (line : List ℕ) (old new : Option Taken) (meaning : Meaning)
    (effect : Effect)
    → meaning_in s line ≡ Ok meaning → turned s meaning ≡ record { state = after; effect = effect }
    → TookFront old new (line_text number (record { state = after; effect = effect }))
    → LostLine number s line old new
line_lost number s after line old new meaning effect said is wrote =
    record { turn = record { state = after; effect = effect }; is = turn_is s line meaning _ said is; wrote = wrote }

-- a line that was read and could not run, since there was no memory for it
pub line_wanted : (number : ℕ) (s after left : SessionState) (line : List ℕ) (old : Option Taken) (meaning : Meaning)
    (fault : Fault) → meaning_in s line ≡ Ok meaning → (fault ≡ Memory) × MayWant s meaning left
    → LineRuns number s line old old after (Err fault)
line_wanted number s after left line old meaning fault said h =
    rw (h.0, said) (either (takes_memory meaning) h.1.0, refl)
  where
    either : (a : Bool) {b : Bool} → b ≡ true → (a || b) ≡ true
    either true k = refl
    either false k = k

-- a line that could not be read, since there was no memory for it
pub line_unread : (number : ℕ) (s after : SessionState) (line : List ℕ) (old : Option Taken)
    → IsOkAnd (meaning_in s line) (λ meaning. IsTrue (takes_memory meaning)) → LineRuns number s line old old after (Err Memory)
line_unread number s after line old h = (by (meaning_in s line) h, refl)
  where
    by : (r : Result Meaning ScriptFault) → IsOkAnd r (λ meaning. IsTrue (takes_memory meaning)) → meaning_wants s r ≡ true
    by (Ok meaning) k = rw k refl
    by (Err kind) k = absurd k

-- a line that needs memory is one that runs
wanting_runs : (s : SessionState) (line : List ℕ) → line_wants s line ≡ true → (turn : Turned) × (line_turned s line ≡ Ok turn)
unfolding line_turned
wanting_runs s line h = by (meaning_in s line) h
  where
    by : (r : Result Meaning ScriptFault) → meaning_wants s r ≡ true
        → (turn : Turned) × ((r >>= (λ meaning. Ok (turned s meaning))) ≡ Ok turn)
    by (Ok meaning) k = (turned s meaning, refl)
    by (Err kind) k = absurd cc

-- ---- all lines

-- what the lines that are left come to is what all lines come to
abbrev pub PlaysOn : Transcript → Transcript → Option Taken → Option Taken → Type 0
PlaysOn all left old new = (last : Option Taken) (result : Result Status Fault) → LinesPlayed left new last result → LinesPlayed all old last result

-- so is what follows a line that was run, behind that line
behind_line : (number : ℕ) (wanting : Bool) (turn : Turned) (others : Turned → Transcript) (a b c : Option Taken)
    (result : Result Status Fault) → Took a b (line_text number turn) → LinesPlayed (others turn) b c result
    → LinesPlayed (noted number wanting (Ok turn) others) a c result
behind_line number wanting turn others a b c (Ok status) p h =
    (h.0, h.1, h.2, Took_then a b c (line_text number turn) (concat (others turn).texts) p h.3)
behind_line number wanting turn others a b c (Err (Script at kind)) p h =
    (h.0, Took_then a b c (line_text number turn) (concat (others turn).texts) p h.1)
behind_line number wanting turn others a b c (Err Memory) p h =
    (suc h.0, h.1, Took_then a b c (line_text number turn) (concat (take h.0 (others turn).texts)) p h.2)
behind_line number wanting turn others a b c (Err Write) p h =
    front_then a b c (line_text number turn) (concat (others turn).texts) p h
behind_line number wanting turn others a b c (Err _) p h = absurd h

module _ (all : Transcript) (number : ℕ) (s : SessionState) (refused : Bool) (lines : List (List ℕ)) (a b : Option Taken) (plays : PlaysOn all (transcript_from number s refused lines) a b) where
  -- what these lines come to, where they are others
  comes_to : (same : List (List ℕ)) (c : Option Taken) (result : Result Status Fault) → lines ≡ same
      → LinesPlayed (transcript_from number s refused same) b c result → LinesPlayed all a c result
  comes_to same c result e h = plays c result (subst (λ (ls : List (List ℕ)). LinesPlayed (transcript_from number s refused ls) b c result) (sym e) h)

  -- no line is left, and no region is open
  pub ends_well : lines ≡ [] → open_regions s.world.state ≡ 0 → LinesPlayed all a b (Ok (status_of refused))
  ends_well none no_region = comes_to [] b (Ok (status_of refused)) none (refused, rw no_region refl, refl, took_nothing b)

  -- no line is left, and a region is open
  pub ends_unclosed : lines ≡ [] → 0 < open_regions s.world.state
      → LinesPlayed all a b (Err (Script number Unclosed))
  ends_unclosed none some_region = comes_to [] b (Err (Script number Unclosed)) none (rw (not_zero (open_regions s.world.state) some_region) refl, took_nothing b)

  module _ (line : List ℕ) (others : List (List ℕ)) (first : lines ≡ line ∷ others) (c : Option Taken) where
    -- what a line leaves of the transcript
    abbrev after_line : Turned → Transcript
    after_line turn = transcript_from (number + 1) turn.state (refused || is_refused turn.effect) others

    -- what these lines come to, by what the first of them does
    comes_by : (did : Result Turned ScriptFault) (last : Option Taken) (result : Result Status Fault)
        → line_turned s line ≡ did → LinesPlayed (noted number (line_wants s line) did after_line) b last result
        → LinesPlayed all a last result
    comes_by did last result is h = comes_to (line ∷ others) last result first (subst (λ (r : Result Turned ScriptFault). LinesPlayed (noted number (line_wants s line) r after_line) b last result) (sym is) h)

    -- the line was run
    pub line_on : (after : SessionState) (is : Bool) → RanLine number s line b c after is
        → PlaysOn all (transcript_from (number + 1) after (refused || is) others) a c
    line_on after is ran last result h =
        let said = subst (λ (x : Bool). LinesPlayed (transcript_from (number + 1) after (refused || x) others) c last result) ran.refused_is h in
        let left = subst (λ (x : SessionState). LinesPlayed (transcript_from (number + 1) x (refused || is_refused ran.turn.effect) others) c last result) ran.state said in
        comes_by (Ok ran.turn) last result ran.is (behind_line number (line_wants s line) ran.turn after_line b c last result ran.wrote left)

    -- nothing was written
    nothing : c ≡ b → Took b c []
    nothing same = subst (λ (x : Option Taken). Took b x []) (sym same) (took_nothing b)

    -- the line ends the run
    pub line_ends : (after : SessionState) (e : Fault) → LineRuns number s line b c after (Err e)
        → LinesPlayed all a c (Err e)
    line_ends after Memory f =
        let ran = wanting_runs s line f.0 in
        comes_by (Ok ran.0) c (Err Memory) ran.1 (0, f.0, nothing f.1)
    line_ends after (Script at kind) f =
        comes_by (Err kind) c (Err (Script at kind)) f.1 (ap (λ (n : ℕ). Faulty n kind) (sym f.0), nothing f.2)
    line_ends after Write f = comes_by (Ok f.turn) c (Err Write) f.is (front_more b c (line_text number f.turn) (concat (after_line f.turn).texts) f.wrote)
    line_ends after _ f = absurd f

-- an empty input has no line
pub lines_none : (rest : List ℕ) → length rest ≡ 0 → lines_of rest ≡ []
unfolding lines_of
lines_none rest e = ap lines_of (nil_from_length rest e)
