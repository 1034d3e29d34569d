-- What is behind a handle.
use Rattle.std.specs.Prelude.{List}
use Rattle.acc_base.specs.Loans.{Leased}
use Rattle.acc_base.specs.Calls.{World}

-- a table, and the leases of the blocks that it has lent, in the order in which they were lent
pub record DataEnvironment : Type 0 where
  pub world : World
  pub leases : List Leased
