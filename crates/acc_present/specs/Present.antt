-- What contracts see of the present table: the mapped ranges, the open data regions, and the room for more (OpenACC
-- 3.3, sections 2.6.5 and 2.6.7).
use Rattle.std.specs.Prelude.{ℕ, ◌≡◌, ◌+◌, ◌*◌, ◌^◌, ◌<◌, ◌≤◌, ◌⊎◌, ⊤, List, [], length, Option, Some, None, IsSome}
use Rattle.std.specs.List.{AllByRecursion}
use Rattle.acc_base.specs.declared.mappings.Range.{Range}
use Rattle.acc_base.specs.declared.tasks.Task.{Task}
use Rattle.acc_base.specs.declared.tasks.Task.TheVariants.{Enter}
use Rattle.acc_base.specs.declared.mappings.Found.{Found}
use Rattle.acc_base.specs.declared.mappings.Found.TheVariants.{Inside, Empty, Partly, Absent}
use Rattle.acc_base.specs.Ranges.{range_of, counter_of}
use Rattle.acc_base.specs.Register.{Region, region_at}
use Rattle.acc_base.specs.Accounts.{EachPair, IsBelow}
use Rattle.acc_present.specs.declared.register.OpenRegion.{OpenRegion}

-- the limit of the reference counters, the mapped ranges by rising start, and the open regions by rising number
pub record PresentTable : Type 0 where
  pub counter_max : ℕ
  pub ranges : List Range
  pub regions : List Region

-- how many more ranges, how many more regions, and how many holdings of the next region can be added without allocating
pub record Room : Type 0 where
  pub ranges : ℕ
  pub regions : ℕ
  pub holdings : ℕ

-- how many places are kept of ranges that are gone, and of regions that are gone
pub record Gone : Type 0 where
  pub ranges : ℕ
  pub regions : ℕ

-- a present table, its room, how many more ranges there are rows for, and the places of what is gone
pub record PresentState : Type 0 where
  pub table : PresentTable
  pub room : Room
  pub rows : ℕ
  pub gone : Gone

-- nothing is mapped, and no region is open
abbrev pub new_table : ℕ → PresentTable
new_table counter_max = record { counter_max = counter_max; ranges = []; regions = [] }

-- the table with these ranges
abbrev pub with_ranges : PresentTable → List Range → PresentTable
with_ranges t ranges = record { counter_max = t.counter_max; ranges = ranges; regions = t.regions }

-- the table with these regions
abbrev pub with_regions : PresentTable → List Region → PresentTable
with_regions t regions = record { counter_max = t.counter_max; ranges = t.ranges; regions = regions }

-- a range is mapped to the block
abbrev pub HasRange : PresentTable → ℕ → Type 0
HasRange t block = IsSome (range_of block t.ranges)

-- a region of the number is open
abbrev pub HasRegion : PresentTable → ℕ → Type 0
HasRegion t number = IsSome (region_at number t.regions)

-- the counter that the task raises is below the limit
abbrev pub IsBelowLimit : ℕ → Task → ℕ → List Range → Type 0
IsBelowLimit counter_max (Enter counter item queue) block ranges = counter_of counter block ranges < counter_max
IsBelowLimit counter_max _ block ranges = ⊤

-- the range of the block can be counted by the task
pub record CanCount (counter_max : ℕ) (task : Task) (block : ℕ) (ranges : List Range) : Type 0 where
  pub there : IsSome (range_of block ranges)
  pub below : IsBelowLimit counter_max task block ranges

-- the region that an open region of the code stands for
abbrev pub region_of : OpenRegion → Region
region_of o = record { number = o.number; holdings = o.holdings.items }

-- the range in which a section lies is told with its block
abbrev pub IsToldBy : Found → Option Range → Type 0
IsToldBy (Inside block offset) None = ⊥
IsToldBy (Inside block offset) (Some range) = range.block ≡ block
IsToldBy Empty told = ⊤
IsToldBy Partly told = ⊤
IsToldBy Absent told = ⊤

-- ---- room

-- no room has shrunk
pub record IsRoomKept (old new : Room) : Type 0 where
  pub ranges : old.ranges ≤ new.ranges
  pub regions : old.regions ≤ new.regions
  pub holdings : old.holdings ≤ new.holdings

-- the room of regions has shrunk by one at most, and no other
pub record IsRegionRoomTaken (old new : Room) : Type 0 where
  pub ranges : old.ranges ≤ new.ranges
  pub regions : old.regions ≤ new.regions + 1
  pub holdings : old.holdings ≤ new.holdings

-- there is less room than for so many more ranges, so many more regions, and so many holdings
abbrev pub IsRoomMissing : ℕ → ℕ → ℕ → Room → Type 0
IsRoomMissing ranges regions holdings room = (room.ranges < ranges) ⊎ (room.regions < regions) ⊎ (room.holdings < holdings)

-- beside so many in use, so many more need memory: there is less room. Of all places fewer than a quarter are gone, or
-- these and the room are too few
pub record IsPlaceMissing (count room gone used : ℕ) : Type 0 where
  pub missing : room < count
  pub few : (3 * gone < used) ⊎ (room + gone < count)

-- so many more ranges, so many more regions, and so many holdings need memory
abbrev pub IsMemoryNeeded : ℕ → ℕ → ℕ → PresentState → Type 0
IsMemoryNeeded ranges regions holdings p =
    (p.rows < ranges)
    ⊎ IsPlaceMissing ranges p.room.ranges p.gone.ranges (length p.table.ranges)
    ⊎ IsPlaceMissing regions p.room.regions p.gone.regions (length p.table.regions)
    ⊎ (p.room.holdings < holdings)

-- ---- what holds of every present table

-- mapped ranges are not empty, rise without overlap, and have a block each of its own
pub record AreMapped (ranges : List Range) : Type 0 where
  pub some : AllByRecursion (λ r. 0 < r.section.len) ranges
  pub rising : EachPair (λ (r : Range) (t : Range). IsBelow r.section t.section) ranges
  pub own_block : EachPair (λ (r : Range) (t : Range). r.block ≡ t.block → ⊥) ranges

-- no counter of the range is above the limit
pub record IsWithinLimit (counter_max : ℕ) (r : Range) : Type 0 where
  pub structured : r.structured ≤ counter_max
  pub dynamic : r.dynamic ≤ counter_max

-- the numbers of open regions rise
abbrev pub AreNumbered : List Region → Type 0
AreNumbered regions = EachPair (λ (r : Region) (t : Region). r.number < t.number) regions

-- the ranges and regions are as above, and no counter is over its limit, which is small
pub record IsLawful (t : PresentTable) : Type 0 where
  pub limit : t.counter_max < 2 ^ 32
  pub mapped : AreMapped t.ranges
  pub counted : AllByRecursion (IsWithinLimit t.counter_max) t.ranges
  pub numbered : AreNumbered t.regions
