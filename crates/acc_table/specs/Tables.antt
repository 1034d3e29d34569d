-- What a table keeps from call to call.
use Rattle.std.specs.Prelude.{ℕ, ◌≤◌, ◌*◌, ◌+◌, List}
use Rattle.acc_base.specs.declared.events.Event.{Event}
use Rattle.acc_base.specs.Limits.{Limits, IsWithinBounds}
use Rattle.acc_base.specs.Accounts.{IsAccounted}
use Rattle.acc_base.specs.Devices.{Whole, view}
use Rattle.acc_base.specs.Calls.{Base, World, event_count}

-- the world of these limits, of a base, of what the devices have, and of a trace
abbrev pub world_of : Limits → Base → Whole → List Event → World
world_of l base state trace = record { limits = l; history = record { base = base; trace = trace }; state = state }

-- the limits are within their bounds, the world is accounted for, and an event made one region, one loan and 64 births
-- at most
pub record IsTableSound (w : World) : Type 0 where
  pub bounds : IsWithinBounds w.limits
  pub accounted : IsAccounted w
  pub births : (d : ℕ) → (view d w.state).records.births ≤ 64 * event_count w.history
  pub regions : w.state.next ≤ event_count w.history + 1
  pub serials : w.state.serial ≤ event_count w.history + 1
