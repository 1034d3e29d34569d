-- What the queries of a table return.
use Rattle.std.specs.Prelude.{ℕ, ◌-◌, ◌<◌, ◌≤◌, Bool, true, false, ◌||◌, if◌then◌else◌, ◌==◌, ◌&&◌, List, [], ◌∷◌, length, take, drop, find, max, Option, Some, None, IsSome, option_map}
use Rattle.std.specs.List.{AllByRecursion}
use Rattle.acc_clauses.specs.Words.{Section, Range, Block, Counters, Loan, Found}
use Rattle.acc_base.specs.declared.mappings.Found.TheVariants.{Inside}
use Rattle.acc_base.specs.declared.attachments.Attachment.{Attachment}
use Rattle.acc_base.specs.declared.regions.Holding.{Holding}
use Rattle.acc_base.specs.Section.{covers, is_empty, is_within, host_memory, host_base}
use Rattle.acc_base.specs.Ranges.{where_is, range_from, dynamic_of, structured_of}
use Rattle.acc_base.specs.Blocks.{place_of}
use Rattle.acc_base.specs.Loans.{is_lent}
use Rattle.acc_base.specs.Records.{Records, State}
use Rattle.acc_base.specs.Bytes.{bytes_of}
use Rattle.acc_base.specs.Register.{region_at, newest_region, holdings_at}
use Rattle.acc_base.specs.Devices.{OneDevice, Whole, view, device_of_region}
use Rattle.acc_table.specs.declared.calls.Mapped.{Mapped}

-- the section lies inside one mapped range
abbrev pub is_inside : Found → Bool
is_inside (Inside block offset) = true
is_inside _ = false

-- the counters of the range that a section is inside
abbrev pub counters_inside : Found → List Range → Option Counters
counters_inside (Inside block offset) ranges = Some (record { structured = structured_of block ranges; dynamic = dynamic_of block ranges })
counters_inside _ ranges = None

-- the counters of the range that a section of these records is inside
abbrev pub counters_of_section : Section → Records → Option Counters
counters_of_section s w = counters_inside (where_is s w.ranges) w.ranges

-- a range as it is reported, with the device address of its block, and whether that is lent
abbrev pub mapped_as : List Block → List Loan → Range → Mapped
mapped_as blocks loans r = record { start = r.section.start; len = r.section.len; place = place_of r.block blocks; structured = r.structured; dynamic = r.dynamic; lent = is_lent r.block loans }

-- the mapped range of least start at or above an address
abbrev pub mapped_from : ℕ → Records → Option Mapped
mapped_from address w = option_map (mapped_as w.blocks w.loans) (range_from address w.ranges)

-- the answer starts at or above an address, as no mapped range does that starts lower; there is none where each starts
-- below the address
abbrev pub IsLeastFrom : ℕ → List Range → Option Mapped → Type 0
IsLeastFrom address ranges None = AllByRecursion (λ r. r.section.start < address) ranges
IsLeastFrom address ranges (Some m) = (address ≤ m.start) × AllByRecursion (λ r. address ≤ r.section.start → m.start ≤ r.section.start) ranges

-- the attached pointer of least address that begins in a section inside one range, with its counter
abbrev pub attached_inside : Found → Section → List Attachment → Option Attachment
attached_inside (Inside block offset) s attached = find (λ a. a.block == block && covers s a.pointer) attached
attached_inside _ s attached = None

-- the same, of these records
abbrev pub first_attached : Section → Records → Option Attachment
first_attached s w = attached_inside (where_is s w.ranges) s w.attached

-- the bytes of a section of host memory; an empty one has none, wherever it starts
abbrev pub host_read_of : Section → List ℕ → Option (List ℕ)
host_read_of s host = if is_empty s || is_within s (host_memory (length host)) then Some (take s.len (drop (s.start - host_base) host)) else None

-- the bytes of a block from an offset on; none while it is lent
abbrev pub device_read_in : Found → ℕ → State → Option (List ℕ)
device_read_in (Inside block offset) len state = if is_lent block state.records.loans then None else Some (take len (drop offset (bytes_of block state.memories)))
device_read_in _ len state = None

-- the bytes on the device of a section that is inside a mapped range, whose block is not lent
abbrev pub device_read_of : Section → State → Option (List ℕ)
device_read_of s state = device_read_in (where_is s state.records.ranges) s.len state

-- ---- the open regions of all devices

-- what an open region holds, on the device on which it is open, in the written order of its items
abbrev pub holdings_of : ℕ → Whole → Option (List Holding)
holdings_of number w = holdings_at number (view (device_of_region number w) w).register.regions

-- the later of two regions, by their numbers, which rise
abbrev pub later : Option ℕ → Option ℕ → Option ℕ
later None other = other
later (Some number) None = Some number
later (Some number) (Some next) = Some (max number next)

-- the number of the open region that was entered last, on whichever of these devices
abbrev pub newest_of : List OneDevice → Option ℕ
newest_of [] = None
newest_of (x ∷ xs) = later (newest_region x.regions) (newest_of xs)

-- a region of the number is open on a device
abbrev pub IsOpenOn : ℕ → ℕ → Whole → Type 0
IsOpenOn number d w = IsSome (region_at number (view d w).register.regions)

-- the region is open, and each that is open on any device was entered before it; without one, none is open on any
abbrev pub IsLastEntered : Whole → Option ℕ → Type 0
IsLastEntered w None = (d number : ℕ) → IsOpenOn number d w → ⊥
IsLastEntered w (Some n) = IsOpenOn n (device_of_region n w) w × ((d number : ℕ) → IsOpenOn number d w → number ≤ n)
