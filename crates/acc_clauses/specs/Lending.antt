-- Lending a block, and taking it back: what is planned, and what it leaves of a state.
use Rattle.std.specs.Prelude.{ℕ, ◌≡◌, Bool, map, Ok}
use Rattle.acc_clauses.specs.Words.{Section, Loan}
use Rattle.acc_base.specs.declared.events.Event.TheVariants.{Lent}
use Rattle.acc_base.specs.Limits.{Limits, recorded}
use Rattle.acc_base.specs.Register.{numbered}
use Rattle.acc_base.specs.Records.{State}
use Rattle.acc_base.specs.Loans.{Leased, with_loan, without_loan}
use Rattle.acc_base.specs.Bytes.{memory_changed}
use Rattle.acc_base.specs.Walk.{loan_at}
use Rattle.acc_base.specs.Judge.{lend_event}

-- the loan is that of a section in a region that is open on the device of these limits, which is not refused
pub record IsLoanPlanned (l : Limits) (region : ℕ) (section : Section) (s : State) (loan : Loan) : Type 0 where
  pub event : lend_event l l.number region section s ≡ Ok (Lent l.number region section loan.block loan.serial)
  pub loan_is : loan ≡ loan_at loan.serial loan.block section s.records.ranges

-- the state after a loan: the bytes of its block are in the lease, and with full traces a copy stays
abbrev pub lent_state : Bool → Loan → State → State
lent_state full loan s = record {
  records = record s.records { loans = with_loan loan s.records.loans };
  register = numbered s.register;
  host = s.host;
  memories = map (memory_changed loan.block (recorded full)) s.memories;
}

-- the state after a lease came back: its bytes are the block's
abbrev pub gathered_state : Leased → State → State
gathered_state lease s = record {
  records = record s.records { loans = without_loan lease.block s.records.loans };
  register = s.register;
  host = s.host;
  memories = map (memory_changed lease.block (λ _. lease.bytes)) s.memories;
}
