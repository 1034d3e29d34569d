-- Results in a row: the first refusal is the result.
use Rattle.std.specs.Prelude.{Bool, if◌then◌else◌, Result, Ok, Err, ⊤}
use Rattle.acc_base.specs.declared.faults.Fault.{Fault}

infixl 10 ◌>>=◌ ◌>>◌
-- what follows a result is asked of its value
abbrev pub ◌>>=◌ : {A B : Type 0} → Result A Fault → (A → Result B Fault) → Result B Fault
(Ok x) >>= f = f x
(Err fault) >>= f = Err fault

-- what follows a test that passed
abbrev pub ◌>>◌ : {B : Type 0} → Result ⊤ Fault → Result B Fault → Result B Fault
(Ok x) >> r = r
(Err fault) >> r = Err fault

abbrev pub refuse_if : Bool → Fault → Result ⊤ Fault
refuse_if b fault = if b then Err fault else Ok tt
