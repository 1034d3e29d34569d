-- How a table begins.
use Rattle.std.specs.Prelude.{ℕ, ◌≡◌, ◌≤◌, ◌⊎◌, ◌==◌, if◌then◌else◌, [], Option, Some, Result, Ok, Err}
use Rattle.acc_base.specs.declared.faults.Fault.TheVariants.{Memory, BadConfig}
use Rattle.acc_base.specs.Limits.{Limits, limits_of, IsWithinBounds}
use Rattle.acc_base.specs.Calls.{new_world}
use Rattle.lamwiest_c.specs.declared.statuses.Refusal.{Refusal}
use Rattle.lamwiest_c.specs.declared.statuses.Refusal.TheVariants.{OfTable}
use Rattle.lamwiest_c.specs.declared.tables.RawLimits.{RawLimits}
use Rattle.lamwiest_c.specs.Environments.{DataEnvironment}
use Rattle.lamwiest_c.specs.Answers.{Told}

-- a limit, or what it is by default where it is 0
abbrev pub or_default : ℕ → ℕ → ℕ
or_default limit default = if limit == 0 then default else limit

-- the limits of a table, as C writes them
abbrev pub limits_in : RawLimits → Limits
limits_in l = limits_of (or_default l.host 65536) (or_default l.device 65536) (or_default l.regions 64) (or_default l.tickets 1099511627776) (or_default l.counter_max 4294967295) (or_default l.queue_cap 256) (or_default l.trace_cap 262144) (l.full == 1) (or_default l.devices 1)

-- each is within its bounds
abbrev pub AreWithinBounds : RawLimits → Type 0
AreWithinBounds l = IsWithinBounds (limits_in l) × (l.full ≤ 1)

-- a new table, which has lent nothing
abbrev pub new_environment : Limits → DataEnvironment
new_environment l = record { world = new_world l; leases = [] }

-- the limits, where each is within its bounds
abbrev pub IsConfig : RawLimits → Result Limits Refusal → Type 0
IsConfig l (Ok limits) = (limits ≡ limits_in l) × AreWithinBounds l
IsConfig l (Err refusal) = (refusal ≡ OfTable BadConfig) × ¬ AreWithinBounds l

-- a limit is out of its bounds, or there was no memory
abbrev pub IsNotBegun : RawLimits → Refusal → Type 0
IsNotBegun l refusal = ((refusal ≡ OfTable BadConfig) × ¬ AreWithinBounds l) ⊎ ((refusal ≡ OfTable Memory) × AreWithinBounds l)

-- a new table of these limits, or why there is none
abbrev pub IsBegunAs : RawLimits → Result DataEnvironment Refusal → Type 0
IsBegunAs l (Ok e) = (e ≡ new_environment (limits_in l)) × AreWithinBounds l
IsBegunAs l (Err refusal) = IsNotBegun l refusal

-- the handle has a new table of these limits, or stays as it is, and C gets the refusal
abbrev pub IsBegun : RawLimits → Option DataEnvironment → Option DataEnvironment → Told → Type 0
IsBegun l old new T =
    (T (Ok 0) × (new ≡ Some (new_environment (limits_in l))) × AreWithinBounds l)
    ⊎ ((refusal : Refusal) × T (Err refusal) × (new ≡ old) × IsNotBegun l refusal)
