-- What texts stand in a buffer.
use Rattle.std.specs.Prelude.{ℕ, ◌≡◌, ◌⊎◌, Result, List, ◌++◌, length, drop, nat_le, Option, None, Some, Ok, Err, MatchBool, codes}
use Rattle.std.specs.Fmt.{decimal}
use Rattle.std.specs.List.{concat}
use Rattle.acc_base.specs.declared.faults.Fault.TheVariants.{Memory, Script}
use Rattle.acc_base.specs.Faults.{fault_text}
use Rattle.lamwiest_c.specs.declared.statuses.Refusal.{Refusal}
use Rattle.lamwiest_c.specs.declared.statuses.Refusal.TheVariants.{Ended, BadClause, BadLength, Absent, BadVersion, OfTable}
use Rattle.lamwiest_c.specs.declared.tables.RawLimits.{RawLimits}
use Rattle.acc_script.specs.Scripts.{Transcript, Ending, Ended as EndedAt, Faulty, transcript}
use Rattle.lamwiest_c.specs.Begins.{limits_in, AreWithinBounds, IsNotBegun}
use Rattle.lamwiest_c.specs.Answers.{Told}

-- the text is at the front of a buffer that has room for it, and the other bytes stay. A shorter one stays whole. The
-- text's length goes to C
abbrev pub IsPut : List ℕ → List ℕ → List ℕ → Told → Type 0
IsPut text old new T =
    MatchBool (nat_le (length text) (length old))
    (T (Ok (length text)) × (new ≡ text ++ drop (length text) old))
    (T (Err (BadLength (length text))) × (new ≡ old))

-- the same, where memory may be lacking for the text before that
abbrev pub IsShown : List ℕ → List ℕ → List ℕ → Told → Type 0
IsShown text old new T = (T (Err (OfTable Memory)) × (new ≡ old)) ⊎ IsPut text old new T

-- what a refusal says
abbrev pub text_of : Refusal → List ℕ
text_of Ended = codes "32 Ended"
text_of (BadClause item) = codes "33 BadClause item " ++ decimal item
text_of (BadLength len) = codes "34 BadLength len " ++ decimal len
text_of Absent = codes "35 Absent"
text_of (BadVersion library) = codes "36 BadVersion library " ++ decimal library
text_of (OfTable fault) = fault_text fault

-- the text of a refusal, if there is one
abbrev pub IsShownIfAny : Option Refusal → List ℕ → List ℕ → Told → Type 0
IsShownIfAny None old new T = T (Err Absent) × (new ≡ old)
IsShownIfAny (Some refusal) old new T = IsShown (text_of refusal) old new T

-- how a script ended: by its last line, or at a line at fault
abbrev pub told_at_end : Ending → Result ℕ Refusal
told_at_end (EndedAt refused) = Ok 0
told_at_end (Faulty line kind) = Err (OfTable (Script line kind))

-- what a script prints is at the front of a buffer that has room for it, its length is told, and how it ended. A shorter
-- buffer stays whole
abbrev pub IsScriptPut : Transcript → List ℕ → List ℕ → ℕ → ℕ → Told → Type 0
IsScriptPut t old new was len T =
    MatchBool (nat_le (length (concat t.texts)) (length old))
    (T (told_at_end t.ending) × (new ≡ concat t.texts ++ drop (length (concat t.texts)) old) × (len ≡ length (concat t.texts)))
    (T (Err (BadLength (length (concat t.texts)))) × (new ≡ old) × (len ≡ was))

-- a script was run on a new table of these limits; or a limit is out of its bounds, or memory was lacking
abbrev pub IsPlayed : RawLimits → List ℕ → List ℕ → List ℕ → ℕ → ℕ → Told → Type 0
IsPlayed l script old new was len T =
    (AreWithinBounds l × IsScriptPut (transcript (limits_in l) script) old new was len T)
    ⊎ ((refusal : Refusal) × T (Err refusal) × (new ≡ old) × (len ≡ was) × IsNotBegun l refusal)
