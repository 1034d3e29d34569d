-- What a call came to: its reply, or the call that came back with what it was refused for.
use Rattle.std.specs.Prelude.{◌≡◌, ⊤, Result, Err}
use Rattle.acc_base.specs.declared.calls.Call.{Call}
use Rattle.acc_base.specs.declared.faults.Fault.{Fault}
use Rattle.acc_base.specs.declared.calls.Call.TheVariants.{Gather}
use Rattle.acc_base.specs.Loans.{Leased}
use Rattle.acc_table.specs.declared.calls.Reply.{Reply}

-- the call came back with this fault
abbrev pub IsBack : Result Reply (Call Leased × Fault) → Fault → Type 0
IsBack outcome fault = (call : Call Leased) × (outcome ≡ Err (call, fault))

-- the call brings a lease back
abbrev pub IsGather : Call Leased → Type 0
IsGather (Gather lease) = ⊤
IsGather _ = ⊥
