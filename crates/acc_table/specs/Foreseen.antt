-- What is told of a directive that is judged, and not carried out.
use Rattle.std.specs.Prelude.{◌≡◌, ◌⊎◌, ⊤, List, [], Result, Ok, Err}
use Rattle.acc_clauses.specs.Words.{Did, Fault}
use Rattle.acc_base.specs.declared.faults.Fault.TheVariants.{Memory}
use Rattle.acc_base.specs.Walk.{did_in}
use Rattle.acc_base.specs.Judge.{Verdict, Makes, Idle}

-- whether it can be done, or what it is refused for
abbrev pub test_of : Result Verdict Fault → Result ⊤ Fault
test_of (Ok verdict) = Ok tt
test_of (Err fault) = Err fault

-- what each item would do, in written order
abbrev pub dids_of : Verdict → List Did
dids_of (Makes e) = did_in e
dids_of Idle = []

-- that is told, or the refusal; where there is none, memory may be lacking to tell it
abbrev pub AreForeseen : Result Verdict Fault → Result (List Did) Fault → Type 0
AreForeseen (Err fault) result = result ≡ Err fault
AreForeseen (Ok verdict) result = (result ≡ Ok (dids_of verdict)) ⊎ (result ≡ Err Memory)
