-- Where a table has no memory for a call, the call is one that makes an event. No refusal of the definitions is lack of
-- memory.
use Rattle.std.proofs.Common.{◌≡◌, true, refl}
use Rattle.acc_base.specs.declared.calls.Call.{Call}
use Rattle.acc_base.specs.declared.faults.Fault.TheVariants.{Memory}
use Rattle.acc_base.specs.Loans.{Leased}
use Rattle.acc_base.specs.Calls.{World, judge}
use Rattle.acc_table.specs.Calls.{IsRefusal}
use Rattle.acc_table.proofs.Telling.{memory_made}
use Rattle.acc_script.specs.Scripts.{makes_event}

-- a call for which a table has no memory is one that makes an event
pub memory_accepted : (w : World) (call : Call Leased) → IsRefusal w call Memory → makes_event (judge w call) ≡ true
memory_accepted w call refusal = let made = memory_made w call refusal in rw made.1 refl
