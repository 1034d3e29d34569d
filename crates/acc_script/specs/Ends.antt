-- What reading to the end, and writing all of some bytes, comes to.
use Rattle.std.specs.Prelude.{ℕ, Bool, ◌≤◌, List, length, Option, Result, Ok, Err, MatchBool}
use Rattle.std.specs.Global.{Vec}
use Rattle.acc_base.specs.declared.faults.Fault.{Fault}
use Rattle.acc_base.specs.declared.faults.Fault.TheVariants.{Memory, Read}
use Rattle.acc_script.specs.Told.{Given, Taken, Gave, GaveAll, FailedOrPassed, Took, TookFront}

-- how many bytes an input may have
abbrev pub input_limit : ℕ
input_limit = 16777216

-- a source gave some bytes, no more than the limit, and did not fail
abbrev pub GaveSome : Option Given → Option Given → Type 0
GaveSome old new = (bytes : List ℕ) × Gave old new bytes × (length bytes ≤ input_limit)

-- all that the source gave, if the limit allows it; what it gave until there was no memory; or it failed or gave more
abbrev pub ReadAll : Option Given → Option Given → Result (Vec ℕ) Fault → Type 0
ReadAll old new (Ok all) = GaveAll old new all.items × (length all.items ≤ input_limit)
ReadAll old new (Err Memory) = GaveSome old new
ReadAll old new (Err Read) = FailedOrPassed input_limit old new
ReadAll old new (Err _) = ⊥

-- the sink took all of the bytes, or failed and took a front of them
abbrev pub Wrote : Option Taken → Option Taken → List ℕ → Bool → Type 0
Wrote old new bytes done = MatchBool done (Took old new bytes) (TookFront old new bytes)
