-- Reading that may fail: one step after the other, with the first fault that is met.
use Rattle.std.specs.Prelude.{◌≡◌, ℕ, List, Result, Ok, Err, MatchResult}
use Rattle.acc_base.specs.declared.faults.ScriptFault.{ScriptFault}
use Rattle.acc_read.specs.declared.troubles.Trouble.{Trouble}
use Rattle.acc_read.specs.declared.troubles.Trouble.TheVariants as trouble

infixl 10 ◌>>=◌
-- a step, and then another with what it gave, unless it met a fault
abbrev pub ◌>>=◌ : {A B : Type 0} → Result A ScriptFault → (A → Result B ScriptFault) → Result B ScriptFault
(Ok x) >>= f = f x
(Err kind) >>= f = Err kind

-- what was read is what a definition reads, as `view` sees it; or both meet one fault
abbrev pub Reads : {X Y : Type 0} → (view : X → Y) → Result X ScriptFault → Result Y ScriptFault → Type 0
Reads view (Ok x) read = read ≡ Ok (view x)
Reads view (Err fault) read = read ≡ Err fault

-- the same behind whatever was read and kept before, of which that is kept as well; `view` sees the text after it
abbrev pub ReadsBehind : {X A : Type 0} → (view : X → List ℕ) → (old new : A → Type 0) → Result X ScriptFault
    → (A → Result (A × List ℕ) ScriptFault) → Type 0
ReadsBehind {A = A} view old new result read = (before : A) → old before → MatchResult result
    (λ x. (after : A) × (read before ≡ Ok (after, view x)) × new after) (λ fault. read before ≡ Err fault)

-- a fact where there was no memory, and another of the fault of a line
abbrev pub MatchTrouble : Trouble → Type 0 → (ScriptFault → Type 0) → Type 0
MatchTrouble trouble.Memory P Q = P
MatchTrouble (trouble.Line kind) P Q = Q kind
