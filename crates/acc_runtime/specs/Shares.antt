-- What a caller may still do, and what it did; and how a call moves that.
use Rattle.std.specs.Prelude.{ℕ, ◌≡◌, ◌<◌, ◌+◌, ◌-◌, ◌==◌, ◌&&◌, true, if◌then◌else◌, Result, ⊤}
use Rattle.acc_base.specs.declared.calls.Call.{Call}
use Rattle.acc_base.specs.declared.faults.Fault.{Fault}
use Rattle.acc_base.specs.declared.faults.Fault.TheVariants.{NoTickets, NoAllowance}
use Rattle.acc_base.specs.Results.{◌>>◌, refuse_if}
use Rattle.acc_base.specs.Loans.{Leased}
use Rattle.acc_table.specs.declared.calls.Reply.{Reply}
use Rattle.acc_table.specs.Counts.{is_entry, is_exit, answers_idle}

-- how many more regions a caller may have open, how many more events it may make, and how many it made
pub record Shares : Type 0 where
  pub allowance : ℕ
  pub tickets : ℕ
  pub made : ℕ

-- the shares allow a call: there is a ticket, and for an entry a region
pub record IsEnough (call : Call Leased) (shares : Shares) : Type 0 where
  pub ticket : 0 < shares.tickets
  pub region : is_entry call ≡ true → 0 < shares.allowance

-- what a caller's own shares refuse a call for: lack of a ticket comes before lack of a region
abbrev pub enough_for : Call Leased → Shares → Result ⊤ Fault
enough_for call shares = refuse_if (shares.tickets == 0) (NoTickets 0) >> refuse_if (is_entry call && shares.allowance == 0) (NoAllowance 0)

-- an entry takes one region of the allowance, and an exit gives one back
abbrev pub allowance_after : Call Leased → ℕ → ℕ
allowance_after call allowance = if is_entry call then allowance - 1 else (if is_exit call then allowance + 1 else allowance)

-- the shares after an event of a call
abbrev pub after_event : Call Leased → Shares → Shares
after_event call shares = record { allowance = allowance_after call shares.allowance; tickets = shares.tickets - 1; made = shares.made + 1 }

-- the shares after an accepted call: where there was nothing to do, as before
abbrev pub after_call : Call Leased → Reply → Shares → Shares
after_call call reply shares = if answers_idle reply then shares else after_event call shares
