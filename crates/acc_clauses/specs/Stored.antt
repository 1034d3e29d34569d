-- What holds of every device beside what all devices share.
use Rattle.std.specs.Prelude.{ℕ, ◌≡◌, ◌<◌, ◌≤◌, true, List, Some, length}
use Rattle.std.specs.List.{AllByRecursion}
use Rattle.acc_clauses.specs.Words.{Section, Range, Holding}
use Rattle.acc_base.specs.Section.{is_within}
use Rattle.acc_base.specs.Ranges.{range_of}
use Rattle.acc_base.specs.Register.{Region}
use Rattle.acc_base.specs.Records.{Records}
use Rattle.acc_base.specs.Accounts.{IsSound}
use Rattle.acc_clauses.specs.Contents.{Contents}

-- the block was born, and the range that is mapped to it, if one is, has each address of the section
pub record IsHeldWithin (w : Records) (section : Section) (block : ℕ) : Type 0 where
  pub born : block ≤ w.births
  pub within : (r : Range) → range_of block w.ranges ≡ Some r → is_within section r.section ≡ true

-- so it is with the block that a holding counted
abbrev pub IsHoldingWithin : Records → Holding → Type 0
IsHoldingWithin w h = (block : ℕ) → h.block ≡ Some block → IsHeldWithin w h.item.section block

-- and with all that open regions hold
abbrev pub AreHoldingsWithin : Records → List Region → Type 0
AreHoldingsWithin w regions = AllByRecursion (λ (r : Region). AllByRecursion (IsHoldingWithin w) r.holdings) regions

-- the state is sound, and what open regions hold lies in the ranges that they counted. Fewer blocks are lent than the
-- number of the next loan
pub record AreContentsSound (c : Contents) : Type 0 where
  pub sound : IsSound c.limits c.state
  pub few : length c.state.records.loans < c.state.register.serial
  pub holdings : AreHoldingsWithin c.state.records c.state.register.regions
