-- What a query of C finds.
use Rattle.std.specs.Prelude.{ℕ, ◌≡◌, ◌<◌, ◌≤◌, ◌+◌, ◌-◌, Bool, if◌then◌else◌, nat_le, List, length, Option, None, Some, option_map, Result, Ok, Err, MatchOption}
use Rattle.acc_base.specs.declared.addresses.TheConstants.{HOST_BASE}
use Rattle.acc_base.specs.declared.faults.Fault.TheVariants.{OutOfHost}
use Rattle.acc_base.specs.Blocks.{rounded}
use Rattle.acc_base.specs.declared.attachments.Attachment.{Attachment}
use Rattle.acc_base.specs.declared.mappings.Counters.{Counters}
use Rattle.acc_base.specs.declared.mappings.Ended.{Ended}
use Rattle.acc_base.specs.declared.mappings.Hole.{Hole}
use Rattle.acc_base.specs.declared.mappings.Found.{Found}
use Rattle.acc_base.specs.declared.mappings.Found.TheVariants.{Inside}
use Rattle.acc_base.specs.Ranges.{where_is}
use Rattle.acc_base.specs.Records.{Records}
use Rattle.acc_base.specs.Limits.{Limits, limits_on}
use Rattle.acc_base.specs.Section.{device_memory}
use Rattle.acc_base.specs.Devices.{view, open_regions}
use Rattle.acc_base.specs.Holes.{IsNextHole}
use Rattle.acc_base.specs.Calls.{World, event_count}
use Rattle.acc_table.specs.declared.calls.Mapped.{Mapped}
use Rattle.acc_table.specs.Queries.{mapped_from}
use Rattle.lamwiest_c.specs.declared.statuses.TheConstants.{ENDED, ABSENT}
use Rattle.lamwiest_c.specs.declared.statuses.Refusal.{Refusal}
use Rattle.lamwiest_c.specs.declared.statuses.Refusal.TheVariants.{OfTable}
use Rattle.lamwiest_c.specs.declared.lookups.RawAttached.{RawAttached}
use Rattle.lamwiest_c.specs.declared.lookups.RawEnded.{RawEnded}
use Rattle.lamwiest_c.specs.declared.lookups.RawHole.{RawHole}
use Rattle.lamwiest_c.specs.declared.lookups.RawLeft.{RawLeft}
use Rattle.lamwiest_c.specs.declared.queries.RawCounters.{RawCounters}
use Rattle.lamwiest_c.specs.declared.queries.RawMapped.{RawMapped}
use Rattle.lamwiest_c.specs.declared.tables.RawLimits.{RawLimits}
use Rattle.lamwiest_c.specs.Environments.{DataEnvironment}
use Rattle.lamwiest_c.specs.Answers.{Told, section_at}

-- the bytes stand in the buffer, where there are some; else the buffer stays as it was, and C gets a refusal
abbrev pub IsCopied : Option (List ℕ) → Refusal → List ℕ → List ℕ → Told → Type 0
IsCopied None refusal old new T = T (Err refusal) × (new ≡ old)
IsCopied (Some bytes) refusal old new T = T (Ok (length bytes)) × (new ≡ bytes)

-- where an array of so many bytes comes in host memory of this size, behind others that take so many bytes of it
abbrev pub array_at : ℕ → ℕ → ℕ → Result ℕ Refusal
array_at used len host = if nat_le (rounded used + len) host then Ok (HOST_BASE + rounded used) else Err (OfTable (OutOfHost 0))

-- ---- queries, which return a status alone

-- what was found stands in its place, or nothing was, and what stood there stays
abbrev pub IsFoundOrAbsent : {A : Type 0} → Option A → ℕ → A → A → Type 0
IsFoundOrAbsent None status old new = (status ≡ ABSENT) × (new ≡ old)
IsFoundOrAbsent (Some x) status old new = (status ≡ 0) × (new ≡ x)

-- the handle stays as it is; the query of it has a result, or the handle has no table
abbrev pub IsAskedOf : {A : Type 0} → Option DataEnvironment → Option DataEnvironment → (DataEnvironment → Option A) → ℕ → A → A → Type 0
IsAskedOf {A} handle same ask status old new =
    (same ≡ handle) × MatchOption handle ((status ≡ ENDED) × (new ≡ old)) (λ e. IsFoundOrAbsent (ask e) status old new)

-- yes or no as a number
abbrev pub number_of_bool : Bool → ℕ
number_of_bool b = if b then 1 else 0

-- the mapped range in which a section was found
abbrev pub range_found : Found → ℕ → Records → Option Mapped
range_found (Inside block offset) start w = mapped_from (start - offset) w
range_found _ start w = None

-- the mapped range that a host address is in
abbrev pub range_at : ℕ → Records → Option Mapped
range_at address w = range_found (where_is (section_at address 1) w.ranges) address w

-- counters as C sees them
abbrev pub raw_counters : Counters → RawCounters
raw_counters c = record { structured = c.structured; dynamic = c.dynamic }

-- an attached pointer as C sees it
abbrev pub raw_attached : Attachment → RawAttached
raw_attached a = record { pointer = a.pointer; count = a.count; block = a.block }

-- a block whose mapping has ended, as C sees it
abbrev pub raw_ended : Ended → RawEnded
raw_ended e = record { place = e.place; size = e.size; pins = e.pins }

-- a mapped range as C sees it
abbrev pub raw_mapped : Mapped → RawMapped
raw_mapped m = record { start = m.start; len = m.len; place = m.place; structured = m.structured; dynamic = m.dynamic; lent = number_of_bool m.lent }

-- the limits of a table as C sees them
abbrev pub raw_limits : Limits → RawLimits
raw_limits l = record { host = l.host; device = l.device; regions = l.regions; tickets = l.tickets; counter_max = l.counter_max; queue_cap = l.queue_cap; trace_cap = l.trace_cap; full = number_of_bool l.full; devices = l.devices }

-- how many more events and open regions there may be
unfoldable pub left_of : World → RawLeft
left_of w = record { tickets = w.limits.tickets - event_count w.history; regions = w.limits.regions - open_regions w.state }

-- a hole as C sees it
abbrev pub raw_hole : Hole → RawHole
raw_hole h = record { place = h.place; size = h.size }

-- the hole of a device of least place at or above a device address, and none on a device that is not there
pub record IsHoleOf (e : DataEnvironment) (device from : ℕ) (h : Option Hole) : Type 0 where
  pub there : device < e.world.limits.devices → IsNextHole from (device_memory (limits_on device e.world.limits)) (view device e.world.state).records.blocks h
  pub none : e.world.limits.devices ≤ device → h ≡ None

abbrev pub IsHoleAsked : Option DataEnvironment → Option DataEnvironment → ℕ → ℕ → ℕ → RawHole → RawHole → Type 0
IsHoleAsked handle same device from status old new =
    (same ≡ handle) × MatchOption handle ((status ≡ ENDED) × (new ≡ old)) (λ e. (h : Option Hole) × IsHoleOf e device from h × IsFoundOrAbsent (option_map raw_hole h) status old new)
