-- One call of a caller on the table behind the lock.
use Rattle.std.specs.Prelude.{◌≡◌, false, MatchResult}
use Rattle.acc_base.specs.declared.calls.Call.{Call}
use Rattle.acc_base.specs.declared.faults.Fault.{Fault}
use Rattle.acc_base.specs.Loans.{Leased}
use Rattle.acc_base.specs.Calls.{World}
use Rattle.acc_table.specs.declared.calls.Reply.{Reply}
use Rattle.acc_table.specs.Calls.{IsDone, IsRefusal}
use Rattle.acc_table.specs.Counts.{is_shortage}
use Rattle.acc_runtime.specs.Shares.{Shares, IsEnough, enough_for, after_call}

-- the caller's shares allowed the call, the table carried it out, and the shares are those after it
pub record IsActed (p : Shares) (w : World) (call : Call Leased) (reply : Reply) (q : Shares) (v : World) : Type 0 where
  pub enough : IsEnough call p
  pub done : IsDone w call reply v
  pub shares : q ≡ after_call call reply p

-- the caller's own shares refused the call; or they allowed it and the table refused it, and not for lack of tickets or
-- regions
abbrev pub IsDenied : Shares → World → Call Leased → Fault → Type 0
IsDenied p w call fault = MatchResult (enough_for call p) (λ _. IsRefusal w call fault × (is_shortage fault ≡ false)) (λ first. fault ≡ first)
