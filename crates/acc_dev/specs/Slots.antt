-- An index of blocks with their slots: the entry of a block in it.
use Rattle.std.specs.List.{remove}
use Rattle.std.specs.Prelude.{ℕ, ◌≡◌, ◌<◌, List, length, slice_index_or}

-- the entry at an index is the block's
pub record IsEntry (index : List (ℕ × ℕ)) (block at : ℕ) : Type 0 where
  pub in_bounds : at < length index
  pub number : (slice_index_or index at (0, 0)).0 ≡ block

-- the slot is that of the block's entry
pub record IsSlotOf (index : List (ℕ × ℕ)) (block slot : ℕ) : Type 0 where
  pub at : ℕ
  pub entry : IsEntry index block at
  pub is : (slice_index_or index at (0, 0)).1 ≡ slot

-- the entry of a block, which had this slot, is taken out
pub record IsEntryLost (old new : List (ℕ × ℕ)) (block slot : ℕ) : Type 0 where
  pub at : ℕ
  pub entry : IsEntry old block at
  pub is : (slice_index_or old at (0, 0)).1 ≡ slot
  pub left : new ≡ remove old at
