-- The holes of a device: blocks and holes are the device, with no address in two of them.
use Rattle.std.specs.Prelude.{ℕ, suc, ◌≡◌, ◌+◌, ◌<◌, ◌≤◌, ◌⊎◌, ◌↔◌, List, [], ◌∷◌, ◌++◌, length, map, max, Contains, Option, None, Some}
use Rattle.acc_base.specs.Words.{Section, Block, Free, Hole}
use Rattle.acc_base.specs.Section.{Spans, Covers, end_of}
use Rattle.acc_base.specs.Blocks.{size_of, used_bytes, IsVacant, Fits}

-- ---- lists of ranges, each its place and its size in bytes

-- the address is in one of the ranges
abbrev pub IsIn : List (ℕ × ℕ) → ℕ → Type 0
IsIn [] a = ⊥
IsIn (h ∷ t) a = Spans h.0 h.1 a ⊎ IsIn t a

-- no two of the ranges share an address
abbrev pub IsDisjoint : List (ℕ × ℕ) → Type 0
IsDisjoint [] = Unit {0}
IsDisjoint (h ∷ t) = ((a : ℕ) → Spans h.0 h.1 a → IsIn t a → ⊥) × IsDisjoint t

-- the ranges are not empty, lie from `low` on and below `high`, rise, and no two of them touch
abbrev pub IsRising : ℕ → List (ℕ × ℕ) → ℕ → Type 0
IsRising low [] high = Unit {0}
IsRising low (h ∷ t) high = (low ≤ h.0) × (0 < h.1) × (h.0 + h.1 ≤ high) × IsRising (h.0 + h.1 + 1) t high

-- the sum of the sizes
abbrev pub total : List (ℕ × ℕ) → ℕ
total [] = 0
total (h ∷ t) = h.1 + total t

-- the greatest of the sizes; 0 where there is none
abbrev pub greatest : List (ℕ × ℕ) → ℕ
greatest [] = 0
greatest (h ∷ t) = max h.1 (greatest t)

-- ---- one hole, by addresses

-- all of its addresses are vacant, and those beside it are not
pub record IsHole (memory : Section) (blocks : List Block) (h : Hole) : Type 0 where
  pub some : 0 < h.size
  pub vacant : Fits memory blocks h.size h.place
  pub before : (a : ℕ) → suc a ≡ h.place → ¬ IsVacant memory blocks a
  pub behind : ¬ IsVacant memory blocks (h.place + h.size)

-- the hole of least place at or above an address, where there is one
abbrev pub IsNextHole : ℕ → Section → List Block → Option Hole → Type 0
IsNextHole from memory blocks None = (h : Hole) → IsHole memory blocks h → ¬ (from ≤ h.place)
IsNextHole from memory blocks (Some h) = IsHole memory blocks h × (from ≤ h.place) × ((g : Hole) → IsHole memory blocks g → from ≤ g.place → h.place ≤ g.place)

-- ---- blocks and holes

-- the addresses that a block takes
abbrev pub taken_range : Block → ℕ × ℕ
taken_range b = (b.place, size_of b)

-- these are the holes that the blocks leave of device memory
pub record AreHoles (memory : Section) (blocks : List Block) (holes : List (ℕ × ℕ)) : Type 0 where
  -- each of them is a hole, and each hole is one of them
  pub listed : (h : Hole) → IsHole memory blocks h ↔ Contains holes (h.place, h.size)
  -- they rise, and no two of them touch
  pub rising : IsRising memory.start holes (end_of memory)
  -- no address is in two of the blocks and holes
  pub disjoint : IsDisjoint (map taken_range blocks ++ holes)
  -- an address is in one of them exactly where it is the device's
  pub whole : (a : ℕ) → IsIn (map taken_range blocks ++ holes) a ↔ Covers memory a
  -- their bytes are those of the device
  pub bytes : used_bytes blocks + total holes ≡ memory.len

-- the blocks and their holes are the device memory, with no address in two of them
abbrev pub IsDevice : Section → List Block → Type 0
IsDevice memory blocks = (holes : List (ℕ × ℕ)) × AreHoles memory blocks holes

-- what these holes come to
abbrev pub free_in : List (ℕ × ℕ) → Free
free_in holes = record { largest = greatest holes; bytes = total holes; count = length holes }

-- this is what the blocks leave of device memory
abbrev pub IsLeft : Section → List Block → Free → Type 0
IsLeft memory blocks free = (holes : List (ℕ × ℕ)) × AreHoles memory blocks holes × (free ≡ free_in holes)
