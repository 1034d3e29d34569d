-- What a call takes of the tickets and of the regions that may be open.
use Rattle.std.specs.Prelude.{◌+◌, ◌≡◌, Bool, true, false, if◌then◌else◌}
use Rattle.acc_clauses.specs.Words.{Call, Fault}
use Rattle.acc_base.specs.declared.calls.Call.TheVariants.{Do}
use Rattle.acc_base.specs.declared.directives.Directive.TheVariants.{Enter, Exit}
use Rattle.acc_base.specs.declared.faults.Fault.TheVariants.{NoTickets, NoAllowance}
use Rattle.acc_base.specs.Loans.{Leased}
use Rattle.acc_base.specs.Devices.{open_regions}
use Rattle.acc_base.specs.Calls.{World, event_count}
use Rattle.acc_table.specs.declared.calls.Reply.{Reply}
use Rattle.acc_table.specs.declared.calls.Reply.TheVariants as replies

-- the call enters a data region
abbrev pub is_entry : Call Leased → Bool
is_entry (Do (Enter device items)) = true
is_entry _ = false

-- the call exits from a data region
abbrev pub is_exit : Call Leased → Bool
is_exit (Do (Exit number)) = true
is_exit _ = false

-- there was nothing to do
abbrev pub answers_idle : Reply → Bool
answers_idle replies.Idle = true
answers_idle _ = false

-- the refusal is for lack of a ticket, or of one more region
abbrev pub is_shortage : Fault → Bool
is_shortage (NoTickets left) = true
is_shortage (NoAllowance left) = true
is_shortage _ = false

-- an accepted call is one event, unless there was nothing to do; an entry opens one region, and an exit closes one
pub record IsCountedOnce (call : Call Leased) (reply : Reply) (w v : World) : Type 0 where
  pub limits : v.limits ≡ w.limits
  pub events : event_count v.history ≡ event_count w.history + (if answers_idle reply then 0 else 1)
  pub regions : open_regions v.state + (if is_exit call then 1 else 0) ≡ open_regions w.state + (if is_entry call then 1 else 0)
  pub idle : answers_idle reply ≡ true → v ≡ w
