-- What the mapped ranges of all devices have of the bytes that the host wrote.
use Rattle.std.specs.Prelude.{ℕ, suc, ◌≡◌, ◌-◌, Bool, not, ◌==◌, List, [], ◌∷◌, ◌++◌, map, filter, take, drop, length}
use Rattle.acc_base.specs.declared.items.Section.{Section}
use Rattle.acc_base.specs.declared.attachments.Attachment.{Attachment}
use Rattle.acc_base.specs.declared.mappings.Range.{Range}
use Rattle.acc_base.specs.Records.{State}
use Rattle.acc_base.specs.Bytes.{bytes_of}
use Rattle.acc_base.specs.Devices.{OneDevice, Whole, view}
use Rattle.acc_stale.specs.declared.known.Mapped.{Mapped}
use Rattle.acc_stale.specs.declared.writes.Part.{Part}
use Rattle.acc_stale.specs.Known.{Known, device_outdated}
use Rattle.acc_stale.specs.Events.{overlap, placed_in, mapped_at, pointers_of}

-- what one range has: where it lies, the attached pointers of its block, the bytes that the host wrote there, and those
-- of the device
pub record TakenPart : Type 0 where
  pub mapped : Mapped
  pub attached : List Attachment
  pub written : List ℕ
  pub own : List ℕ

-- what the host wrote, and a range has
abbrev pub both_in : ℕ → List ℕ → Range → Section
both_in addr bytes r = overlap (record { start = addr; len = length bytes }) r.section

abbrev pub has_part : ℕ → List ℕ → Range → Bool
has_part addr bytes r = not ((both_in addr bytes r).len == 0)

abbrev pub part_of : ℕ → ℕ → List ℕ → State → Range → TakenPart
part_of d addr bytes s r =
    let both : Section = both_in addr bytes r in
    record { mapped = mapped_at (placed_in d r.block s) both; attached = pointers_of r.block s.records.attached; written = take both.len (drop (both.start - addr) bytes); own = take both.len (drop (both.start - r.section.start) (bytes_of r.block s.memories)) }

-- the ranges of one device that have part of it, by rising address
abbrev pub parts_in : ℕ → ℕ → List ℕ → State → List Range → List TakenPart
parts_in d addr bytes s ranges = map (part_of d addr bytes s) (filter (has_part addr bytes) ranges)

-- those of the devices from a number on
abbrev pub parts_on : ℕ → ℕ → List ℕ → Whole → List OneDevice → List TakenPart
parts_on d addr bytes w [] = []
parts_on d addr bytes w (x ∷ xs) = parts_in d addr bytes (view d w) x.records.ranges ++ parts_on (suc d) addr bytes w xs

-- a part as it is told
abbrev pub told_part : Part → TakenPart
told_part p = record { mapped = mapped_at p.block p.section; attached = p.attached.items; written = p.written.now; own = p.own.now }

-- these are all parts of the bytes that the host wrote into a section
pub record AreParts (parts : List Part) (section : Section) (bytes : List ℕ) (w : Whole) : Type 0 where
  pub len : section.len ≡ length bytes
  pub all : map told_part parts ≡ parts_on 0 section.start bytes w w.devices

-- the parts made behind, one after the other
abbrev pub part_outdated : TakenPart → Known → Known
part_outdated p k = device_outdated p.mapped p.attached p.written p.own k

abbrev pub all_outdated : List TakenPart → Known → Known
all_outdated [] k = k
all_outdated (p ∷ ps) k = all_outdated ps (part_outdated p k)
