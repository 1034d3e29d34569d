-- How a lease comes by the bytes that were written through its section.
use Rattle.std.specs.Prelude.{ℕ, List}
use Rattle.std.specs.Borrow.{Lends, MutBor, Fml, u8, Array}
use Rattle.acc_base.specs.Loans.{Leased}
use Rattle.acc_lend.specs.Loans.{with_section}
use Rattle.acc_lend.specs.contracts.leases.Lease.{the_row}

-- the lease ends with what was last behind the reference as its section
abbrev pub LendsSection : MutBor Leased → MutBor (List ℕ) → Fml
LendsSection lease bytes = Lends the_row (Array u8 0) lease bytes (with_section lease.now)
