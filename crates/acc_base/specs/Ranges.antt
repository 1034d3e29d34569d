-- The mapped ranges, and where a section lies among them (OpenACC 3.3, section 2.6).
use Rattle.std.specs.Prelude.{ℕ, ◌+◌, ◌-◌, ◌≡◌, ◌<◌, Bool, not, ◌&&◌, false, if◌then◌else◌, nat_le, nat_lt, ◌==◌, List, [], ◌∷◌, map, Option, Some, None, find, filter, unwrap_or, option_map}
use Rattle.std.specs.List.{list_all, list_any, Contains, AllByRecursion}
use Rattle.acc_base.specs.Words.{Section, Range, Counter, Found}
use Rattle.acc_base.specs.declared.mappings.Counter.TheVariants.{Structured, Dynamic}
use Rattle.acc_base.specs.declared.mappings.Found.TheVariants.{Empty, Inside, Partly, Absent}
use Rattle.acc_base.specs.Section.{is_empty, is_within, is_apart, IsWithin, IsApart}

-- ---- where a section lies, by sets of addresses

-- the range has each address of the section, which begins at this offset of it
pub record IsAround (s : Section) (ranges : List Range) (block offset : ℕ) (r : Range) : Type 0 where
  pub mapped : Contains ranges r
  pub within : IsWithin s r.section
  pub block_is : r.block ≡ block
  pub offset_is : r.section.start + offset ≡ s.start

-- no address of the section is mapped
abbrev pub IsClear : Section → List Range → Type 0
IsClear s ranges = AllByRecursion (λ r. IsApart s r.section) ranges

-- no one range has each address of the section
abbrev pub IsInNone : Section → List Range → Type 0
IsInNone s ranges = AllByRecursion (λ r. ¬ IsWithin s r.section) ranges

-- inside one range, absent, or partly present, as its addresses say
abbrev pub IsPlacedAt : Section → List Range → Found → Type 0
IsPlacedAt s ranges Empty = s.len ≡ 0
IsPlacedAt s ranges (Inside block offset) = (0 < s.len) × ((r : Range) × IsAround s ranges block offset r)
IsPlacedAt s ranges Absent = (0 < s.len) × IsClear s ranges
IsPlacedAt s ranges Partly = (0 < s.len) × IsInNone s ranges × ¬ IsClear s ranges

-- ---- the same, as a test

-- the range that has each address of the section
abbrev pub range_around : Section → List Range → Option Range
range_around s ranges = find (λ r. is_within s r.section) ranges

abbrev pub found_in : Section → Option Range → Found → Found
found_in s (Some r) otherwise = Inside r.block (s.start - r.section.start)
found_in s None otherwise = otherwise

-- empty, inside one range, absent where it is apart from every range, else partly present
abbrev pub where_is : Section → List Range → Found
where_is s ranges =
    if is_empty s
    then Empty
    else found_in s (range_around s ranges) (if list_all (λ r. is_apart s r.section) ranges then Absent else Partly)

-- the ranges but for those that are mapped to these blocks
abbrev pub without_ranges : List ℕ → List Range → List Range
without_ranges blocks ranges = filter (λ r. not (list_any (λ b. b == r.block) blocks)) ranges

-- where a section lies once the mappings to these blocks have ended
abbrev pub where_is_apart : Section → List ℕ → List Range → Found
where_is_apart s blocks ranges = where_is s (without_ranges blocks ranges)

-- ---- what the ranges say of a block

-- the range that is mapped to a block
abbrev pub range_of : ℕ → List Range → Option Range
range_of block ranges = find (λ r. r.block == block) ranges

-- the dynamic reference counter of that range (OpenACC 3.3, section 2.6.7)
abbrev pub dynamic_of : ℕ → List Range → ℕ
dynamic_of block ranges = unwrap_or (option_map (λ r. r.dynamic) (range_of block ranges)) 0

-- and its structured one
abbrev pub structured_of : ℕ → List Range → ℕ
structured_of block ranges = unwrap_or (option_map (λ r. r.structured) (range_of block ranges)) 0

-- one of a range's two reference counters
abbrev pub counter_in : Counter → Range → ℕ
counter_in Structured r = r.structured
counter_in Dynamic r = r.dynamic

-- one of the two reference counters of the range that is mapped to a block
abbrev pub counter_of : Counter → ℕ → List Range → ℕ
counter_of counter block ranges = unwrap_or (option_map (counter_in counter) (range_of block ranges)) 0

-- the host address at which that range begins
abbrev pub start_of : ℕ → List Range → ℕ
start_of block ranges = unwrap_or (option_map (λ r. r.section.start) (range_of block ranges)) 0

-- the range of least start at or above an address
abbrev pub range_from : ℕ → List Range → Option Range
range_from address ranges = find (λ r. nat_le address r.section.start) ranges

-- neither counter of the range is above zero
abbrev pub is_unused : Range → Bool
is_unused r = (r.structured == 0) && (r.dynamic == 0)

-- the change leaves the range of a block without a counter above zero
abbrev pub ends_by : (Range → Range) → ℕ → List Range → Bool
ends_by change block ranges = unwrap_or (option_map (λ r. is_unused (change r)) (range_of block ranges)) false

-- ---- changes

-- the ranges with one more, by rising start
abbrev pub with_range : Range → List Range → List Range
with_range new [] = new ∷ []
with_range new (r ∷ rs) = if nat_lt new.section.start r.section.start then new ∷ r ∷ rs else r ∷ with_range new rs

-- the ranges without that of a block
abbrev pub without_range : ℕ → List Range → List Range
without_range block ranges = filter (λ r. not (r.block == block)) ranges

-- the ranges with a change to that of a block
abbrev pub changed_at : ℕ → (Range → Range) → List Range → List Range
changed_at block change ranges = map (λ r. if r.block == block then change r else r) ranges

-- a new range that nothing has counted
abbrev pub bare_range : Section → ℕ → Range
bare_range s block = record { section = s; block = block; structured = 0; dynamic = 0 }

-- the range with one of its counters one higher
abbrev pub risen : Counter → Range → Range
risen Structured r = record r { structured = r.structured + 1 }
risen Dynamic r = record r { dynamic = r.dynamic + 1 }

-- the range with one of its counters one lower; zero stays zero
abbrev pub fallen : Counter → Range → Range
fallen Structured r = record r { structured = r.structured - 1 }
fallen Dynamic r = record r { dynamic = r.dynamic - 1 }

-- the range with its dynamic counter at zero
abbrev pub cleared : Range → Range
cleared r = record r { dynamic = 0 }
