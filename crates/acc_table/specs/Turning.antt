-- How one turn is made. No public clause cites this module.
use Rattle.std.specs.Prelude.{ℕ, ◌≡◌, ◌≤◌, Bool, true, false, List, [], ◌∷◌, filter, length, Result, Ok, Err}
use Rattle.acc_clauses.specs.Words.{Call, Fault}
use Rattle.acc_base.specs.Loans.{Leased}
use Rattle.acc_base.specs.Calls.{World}
use Rattle.acc_table.specs.declared.calls.Turn.{Turn}
use Rattle.acc_table.specs.declared.calls.Turn.TheVariants as turns
use Rattle.acc_table.specs.declared.calls.Reply.{Reply}
use Rattle.acc_table.specs.declared.calls.Reply.TheVariants as replies
use Rattle.acc_table.specs.Calls.{IsDone, IsRefusal}
use Rattle.acc_table.specs.Turns.{asked_by, kept_by, lent_by, refuse_back}

-- the turn asks for a loan
abbrev pub is_lend : Turn → Bool
is_lend (turns.Lend region section) = true
is_lend _ = false

-- how many of the turns ask for a loan
abbrev pub lends_in : List Turn → ℕ
lends_in turns = length (filter is_lend turns)

-- the call of the turn was replied to so; the list is without a lease that came back, and has none that is replied
pub record IsTurnMade (w : World) (leases : List Leased) (turn : Turn) (reply : Reply) (next : World) (kept : List Leased) : Type 0 where
  pub call : Call Leased
  pub asked : asked_by turn leases ≡ Ok call
  pub done : IsDone w call reply next
  pub kept_is : kept ≡ kept_by turn leases
  pub idle : reply ≡ replies.Idle → kept ≡ leases
  pub few : length (lent_by reply) ≤ lends_in (turn ∷ [])

-- the fault is a refusal of what a turn asks, or lack of memory where it has none
abbrev pub IsRefusalOf : World → Result (Call Leased) Fault → Fault → Type 0
IsRefusalOf w (Ok call) fault = IsRefusal w call fault
IsRefusalOf w (Err unknown) fault = refuse_back w unknown ≡ Err fault

-- the turn was refused, and nothing changed
pub record IsTurnRefused (w : World) (leases : List Leased) (turn : Turn) (fault : Fault) (next : World) (kept : List Leased) : Type 0 where
  pub told : IsRefusalOf w (asked_by turn leases) fault
  pub same : next ≡ w
  pub same_leases : kept ≡ leases

-- the outcome of a turn before its answer is listed
abbrev pub IsTurnTaken : World → List Leased → Turn → Result Reply Fault → World → List Leased → Type 0
IsTurnTaken w leases turn (Ok reply) next kept = IsTurnMade w leases turn reply next kept
IsTurnTaken w leases turn (Err fault) next kept = IsTurnRefused w leases turn fault next kept
