-- A call that was refused.
use Rattle.std.proofs.Common.{◌≡◌, Result, Ok, Err, refl}
use Rattle.std.specs.Prelude.{MatchResult}
use Rattle.acc_base.specs.declared.calls.Call.{Call}
use Rattle.acc_base.specs.declared.faults.Fault.{Fault}
use Rattle.acc_base.specs.declared.faults.Fault.TheVariants.{Memory}
use Rattle.acc_base.specs.Loans.{Leased}
use Rattle.acc_base.specs.Judge.{Verdict, Makes, Idle}
use Rattle.acc_base.specs.Calls.{World, judge}
use Rattle.acc_table.specs.Calls.{MayWantMemory, IsRefusal}
use Rattle.acc_script.specs.Scripts.{SessionState}
use Rattle.acc_script.specs.Sessions.{CallsFor, refusal_of}
use Rattle.acc_script.proofs.Accepted.{memory_accepted}

-- a refusal that is no lack of memory is that of the definitions
pub refused_by : (w : World) (call : Call Leased) (fault : Fault) → (fault ≡ Memory → ⊥) → IsRefusal w call fault
    → judge w call ≡ Err fault
refused_by w call fault other refusal = by (judge w call) refusal
  where
    by : (r : Result Verdict Fault) → MatchResult r (λ verdict. MayWantMemory verdict fault) (λ first. fault ≡ first)
        → r ≡ Err fault
    by (Ok (Makes e)) h = absurd (other h)
    by (Ok Idle) h = absurd h
    by (Err first) h = rw h refl

-- a call that was refused is printed, or there was no memory for it
pub refused_call : (old new : SessionState) (call : Call Leased) (fault : Fault) → IsRefusal old.world call fault → new ≡ old
    → CallsFor old call new (refusal_of fault)
refused_call old new call fault refusal same = by fault refusal
  where
    by : (f : Fault) → IsRefusal old.world call f → CallsFor old call new (refusal_of f)
    by Memory h = (refl, memory_accepted old.world call h, same)
    by f h = rw (refused_by old.world call f (λ e. absurd cc) h, same) refl
