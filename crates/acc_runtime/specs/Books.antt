-- How the books of the shares fit a table, and what one caller's shares imply for it.
use Rattle.std.specs.Prelude.{ℕ, ◌+◌, ◌≡◌, ◌≤◌}
use Rattle.std.specs.List.{AllByRecursion}
use Rattle.acc_base.specs.declared.mappings.Range.{Range}
use Rattle.acc_base.specs.Limits.{Limits}
use Rattle.acc_base.specs.Devices.{view, open_regions}
use Rattle.acc_base.specs.Calls.{World, event_count}
use Rattle.acc_table.specs.Laws.{IsLawful}
use Rattle.acc_runtime.specs.Shares.{Shares}

-- the limits that a runtime tells are those of its types, whose ledgers have a region for each that may be open, and a
-- ticket and an event for each ticket
pub record IsTyped (l : Limits) (regions tickets events : ℕ) (config : Limits) : Type 0 where
  pub limits : config ≡ l
  pub limit : config.regions ≡ regions
  pub uses : config.tickets ≡ tickets
  pub times : config.tickets ≡ events

-- there are shares of so many regions, tickets and events in all, and the books of what all callers have say this
pub record IsBooked (regions tickets events : ℕ) (all : Shares) (w : World) : Type 0 where
  -- a region of the ledger for each that may be open; a ticket and an event for each ticket
  pub limit : w.limits.regions ≡ regions
  pub uses : w.limits.tickets ≡ tickets
  pub times : w.limits.tickets ≡ events
  -- the allowances of all callers and the open regions make up all regions
  pub allowance : all.allowance + open_regions w.state ≡ w.limits.regions
  -- the tickets of all callers and the events make up all tickets
  pub tickets_left : all.tickets + event_count w.history ≡ w.limits.tickets
  -- the events are what all callers made
  pub made : all.made ≡ event_count w.history

-- what the shares of one caller imply for the table of a runtime of these limits, where there are so many regions and
-- tickets in all
pub record IsSettled (l : Limits) (regions tickets : ℕ) (p : Shares) (w : World) : Type 0 where
  -- the table keeps all laws
  pub lawful : IsLawful w
  -- its limits are those of the runtime
  pub limits : w.limits ≡ l
  pub limit : w.limits.regions ≡ regions
  pub uses : w.limits.tickets ≡ tickets
  -- the allowance is none of an open region, and the tickets are none of an event
  pub allowance : p.allowance + open_regions w.state ≤ w.limits.regions
  pub tickets_left : p.tickets + event_count w.history ≤ w.limits.tickets
  -- what the caller made is among the events
  pub made : p.made ≤ event_count w.history
  -- with all tickets, left or used by this caller, there are no other events
  pub alone : p.made + p.tickets ≡ tickets → event_count w.history ≡ p.made
  -- with the whole allowance no region is open on any device, and every structured counter of each device is zero
  pub none_open : p.allowance ≡ regions → open_regions w.state ≡ 0
  pub none_counted : p.allowance ≡ regions → (d : ℕ) → AllByRecursion (λ (r : Range). r.structured ≡ 0) (view d w.state).records.ranges
