-- When two tables have the same.
use Rattle.std.specs.Prelude.{◌≡◌}
use Rattle.acc_base.specs.Calls.{World}

-- the limits are the same, and so is all in memory and on record. What led there may differ
pub record IsSame (a b : World) : Type 0 where
  pub limits : b.limits ≡ a.limits
  pub state : b.state ≡ a.state
