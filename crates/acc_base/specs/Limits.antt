-- The limits of a table, the bounds that each of them keeps, and whether its trace stores bytes.
use Rattle.std.specs.Prelude.{ℕ, ◌≡◌, ◌+◌, ◌*◌, ◌<◌, ◌≤◌, ◌%◌, ◌^◌, Bool, if◌then◌else◌, List, []}
use Rattle.acc_base.specs.declared.addresses.TheConstants.{DEVICE_BASE, MEMORY_MAX}

pub record Limits : Type 0 where
  pub host : ℕ
  -- the number of the device that these are the limits of; those of a whole table are those of its first device
  pub number : ℕ
  pub device : ℕ
  pub regions : ℕ
  pub tickets : ℕ
  pub counter_max : ℕ
  pub queue_cap : ℕ
  pub trace_cap : ℕ
  -- the trace is a full one: it stores the bytes that calls bring, and not only how many
  pub full : Bool
  -- how many devices there are, each with a memory of the size `device`
  pub devices : ℕ

-- the limits of a table
abbrev pub limits_of : (host device regions tickets counter_max queue_cap trace_cap : ℕ) (full : Bool) (devices : ℕ) → Limits
limits_of host device regions tickets counter_max queue_cap trace_cap full devices = record {
  host = host;
  number = 0;
  device = device;
  regions = regions;
  tickets = tickets;
  counter_max = counter_max;
  queue_cap = queue_cap;
  trace_cap = trace_cap;
  full = full;
  devices = devices;
}

-- what is stored of bytes, or of memories: a full trace has all of them, a counted one none
abbrev pub recorded : {A : Type 0} → Bool → List A → List A
recorded full xs = if full then xs else []

-- where the memory of a device begins: each device has its own addresses
abbrev pub base_on : ℕ → ℕ
base_on d = (d + 1) * DEVICE_BASE

-- the limits as one device has them
abbrev pub limits_on : ℕ → Limits → Limits
limits_on d l = record l { number = d }

-- the number of bytes may be the size of a memory
abbrev pub IsSize : ℕ → Type 0
IsSize bytes = (16 ≤ bytes) × (bytes ≤ MEMORY_MAX) × (bytes % 16 ≡ 0)

-- the number is from 1 to a greatest one
abbrev pub IsFromOne : ℕ → ℕ → Type 0
IsFromOne most n = (1 ≤ n) × (n ≤ most)

pub record IsWithinBounds (l : Limits) : Type 0 where
  pub host : IsSize l.host
  pub number : l.number < 4
  pub device : IsSize l.device
  pub regions : IsFromOne 65536 l.regions
  pub tickets : IsFromOne (2 ^ 40) l.tickets
  pub counter_max : IsFromOne 4294967295 l.counter_max
  pub queue_cap : IsFromOne 4096 l.queue_cap
  pub trace_cap : IsFromOne 16777216 l.trace_cap
  pub devices : IsFromOne 4 l.devices
