-- How the present table keeps its ranges and regions. No public clause cites this module.
use Rattle.std.specs.Prelude.{ℕ, ◌≡◌, ◌^◌, ◌<◌, List, filter, map, nat_le, Option, Some, None, option_map}
use Rattle.std.specs.declared.alloc.Global.{Global}
use Rattle.std.specs.declared.vec.Vec.{Vec}
use Rattle.std.specs.List.{AllByRecursion}
use Rattle.acc_base.specs.declared.items.Section.{Section}
use Rattle.acc_base.specs.declared.mappings.Range.{Range}
use Rattle.acc_base.specs.declared.regions.Holding.{Holding}
use Rattle.acc_base.specs.declared.mappings.Found.TheVariants.{Absent}
use Rattle.acc_base.specs.Ranges.{range_of, range_from, where_is_apart}
use Rattle.acc_base.specs.Register.{Region}
use Rattle.acc_index.specs.Indexed.{IndexState, value_at}
use Rattle.acc_ordered.specs.Listing.{KeyValue}
use Rattle.acc_present.specs.declared.ranges.Mapping.{Mapping}
use Rattle.acc_present.specs.Present.{AreMapped}

-- ---- the ranges

-- the range of an entry, whose key is its start
abbrev pub range_in : KeyValue Mapping → Range
range_in e = record { section = record { start = e.key; len = e.value.len }; block = e.value.block; structured = e.value.structured; dynamic = e.value.dynamic }

-- the ranges of some entries
abbrev pub ranges_in : List (KeyValue Mapping) → List Range
ranges_in entries = map range_in entries

-- what an entry has of a range beside its key
abbrev pub mapping_of : Range → Mapping
mapping_of r = record { len = r.section.len; block = r.block; structured = r.structured; dynamic = r.dynamic }

-- the key of the entry is an address
abbrev pub IsAtAddress : KeyValue Mapping → Type 0
IsAtAddress e = e.key < 2 ^ 64

-- ---- the start of each block's range

-- the start that is kept for a block
abbrev pub start_in : IndexState ℕ → ℕ → Option ℕ
start_in starts block = value_at block starts.entries

-- the start of the range that is mapped to a block
abbrev pub start_at : ℕ → List Range → Option ℕ
start_at block ranges = option_map (λ r. r.section.start) (range_of block ranges)

-- the ranges are mapped, each at an address, and the start of each block's range is kept
pub record IsIndexed (entries : List (KeyValue Mapping)) (starts : ℕ → Option ℕ) : Type 0 where
  pub mapped : AreMapped (ranges_in entries)
  pub at_addresses : AllByRecursion IsAtAddress entries
  pub agrees : (block : ℕ) → starts block ≡ start_at block (ranges_in entries)

-- ---- a search

-- the ranges that begin at an address or behind it
abbrev pub ranges_from : ℕ → List Range → List Range
ranges_from k rs = filter (λ r. nat_le k r.section.start) rs

-- the first of the ranges that are left, which say what all say
abbrev pub IsNext : Section → List ℕ → List Range → Option Range → Type 0
IsNext s blocks rs None = where_is_apart s blocks rs ≡ Absent
IsNext s blocks rs (Some r) = (range_from r.section.start rs ≡ Some r) × (where_is_apart s blocks rs ≡ where_is_apart s blocks (ranges_from r.section.start rs))

-- ---- the open regions

-- the open regions, how many places are kept for others that are gone, how many more can be added without allocating,
-- and how many holdings of the next one
pub record RegisterState : Type 0 where
  pub regions : List Region
  pub gone : ℕ
  pub room : ℕ
  pub holdings : ℕ

-- the region of a number with what it holds
abbrev pub region_in : ℕ × Vec Holding Global → Region
region_in e = record { number = e.0; holdings = e.1.items }

-- the regions of some numbers
abbrev pub regions_in : List (ℕ × Vec Holding Global) → List Region
regions_in entries = map region_in entries
