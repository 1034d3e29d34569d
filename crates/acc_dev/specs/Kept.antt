-- How a device keeps its blocks: each in a slot of a slab, and an index of their numbers and slots. No public clause
-- cites this module.
use Rattle.std.specs.Prelude.{ℕ, ◌≡◌, ◌≢◌, ◌+◌, ◌^◌, ◌≤◌, ◌==◌, Bool, true, false, not, ◌&&◌, ◌||◌, List, [], ◌∷◌, map, length, Option, Some, None, IsSome, slice_index_or}
use Rattle.std.specs.List.{AllByRecursion, remove}
use Rattle.acc_base.specs.declared.addresses.TheConstants.{MEMORY_MAX}
use Rattle.acc_base.specs.declared.loans.Loan.{Loan}
use Rattle.acc_base.specs.declared.mappings.Block.{Block}
use Rattle.acc_base.specs.Limits.{IsFromOne}
use Rattle.acc_base.specs.declared.items.Section.{Section}
use Rattle.acc_base.specs.Blocks.{block_at}
use Rattle.acc_base.specs.Bytes.{bytes_of}
use Rattle.acc_base.specs.Loans.{Leased, loan_of, is_lent, is_loan_of}
use Rattle.acc_base.specs.Leases.{is_kept_outside}
use Rattle.acc_base.specs.Records.{Memory}
use Rattle.acc_base.specs.Holes.{taken_range}
use Rattle.acc_base.specs.Accounts.{EachPair}
use Rattle.acc_placement.specs.Space.{Space, IsCanonical, IsPartition}
use Rattle.slab.specs.Slab.{Slab, get}
use Rattle.acc_index.specs.Indexed.{IsIndexRising}
use Rattle.acc_dev.specs.Slots.{IsEntry}
use Rattle.acc_dev.specs.declared.entries.Stored.{Stored}
use Rattle.acc_dev.specs.Marks.{Mark, pins_at, is_ended_at, IsSoundMark}
use Rattle.acc_base.specs.Overwriting.{overwritten}
use Rattle.acc_dev.specs.Device.{DeviceState}

-- the addresses of a space
abbrev pub memory_of : Space → Section
memory_of holes = record { start = holes.base; len = holes.size }

-- the place that a slot has; no slot of a block is empty
abbrev pub stored_place : Option Stored → ℕ
stored_place None = 0
stored_place (Some s) = s.place

-- the length of the block of a slot
abbrev pub stored_len : Option Stored → ℕ
stored_len None = 0
stored_len (Some s) = s.len

-- the bytes that a slot has: none while its block is lent
abbrev pub stored_bytes : Option Stored → List ℕ
stored_bytes None = []
stored_bytes (Some s) = s.bytes.items

-- how many queued transfers name the block of a slot
abbrev pub stored_pins : Option Stored → ℕ
stored_pins None = 0
stored_pins (Some s) = s.pins

-- the mapping of the block of a slot has ended
abbrev pub stored_ended : Option Stored → Bool
stored_ended None = false
stored_ended (Some s) = s.ended

-- the loan of the block of a slot, if it is lent
abbrev pub stored_loan : Option Stored → Option Loan
stored_loan None = None
stored_loan (Some s) = s.loan

-- the copy of what a slot has is the same, with bytes in a vector of its own
pub record IsStoredCopy (s copy : Stored) : Type 0 where
  pub place : copy.place ≡ s.place
  pub len : copy.len ≡ s.len
  pub bytes : copy.bytes.items ≡ s.bytes.items
  pub pins : copy.pins ≡ s.pins
  pub ended : copy.ended ≡ s.ended
  pub loan : copy.loan ≡ s.loan

-- the lease brings the block of a slot of this device back
abbrev pub is_back_at : Bool → ℕ → Leased → Option Stored → Bool
is_back_at kept d lease slot = is_loan_of lease (stored_loan slot) && (stored_len slot == length lease.bytes) && (lease.device == d) && (not kept || is_kept_outside lease (stored_bytes slot))

-- the block of a number, with what its slot has
abbrev pub block_from : ℕ → Option Stored → Block
block_from number slot = record { number = number; place = stored_place slot; len = stored_len slot }

-- the bytes of a number, which its slot has
abbrev pub memory_from : ℕ → Option Stored → Memory
memory_from number slot = record { block = number; bytes = stored_bytes slot }

-- the mark of a number, which its slot has
abbrev pub mark_from : ℕ → Option Stored → Mark
mark_from number slot = record { block = number; pins = stored_pins slot; ended = stored_ended slot }

-- what the slot of an entry has
abbrev pub slot_of : List (Option Stored) → ℕ × ℕ → Option Stored
slot_of slots e = slice_index_or slots e.1 None

-- the blocks of an index
abbrev pub blocks_in : List (Option Stored) → List (ℕ × ℕ) → List Block
blocks_in slots index = map (λ e. block_from e.0 (slot_of slots e)) index

-- the bytes of the blocks of an index
abbrev pub memories_in : List (Option Stored) → List (ℕ × ℕ) → List Memory
memories_in slots index = map (λ e. memory_from e.0 (slot_of slots e)) index

-- the marks of the blocks of an index
abbrev pub marks_in : List (Option Stored) → List (ℕ × ℕ) → List Mark
marks_in slots index = map (λ e. mark_from e.0 (slot_of slots e)) index

-- loans with one before them, if there is one
abbrev pub loan_before : Option Loan → List Loan → List Loan
loan_before None loans = loans
loan_before (Some l) loans = l ∷ loans

-- the loans of the blocks of an index that are lent
abbrev pub loans_in : List (Option Stored) → List (ℕ × ℕ) → List Loan
loans_in slots [] = []
loans_in slots (e ∷ es) = loan_before (stored_loan (slot_of slots e)) (loans_in slots es)

-- the block of a slot that is lent is mapped, and its loan is the block's and lies in it
pub record IsOut (number : ℕ) (slot : Option Stored) (loan : Loan) : Type 0 where
  pub mapped : stored_ended slot ≡ false
  pub block : loan.block ≡ number
  pub within : loan.offset + loan.len ≤ stored_len slot

-- a slot that is not lent has as many bytes as its block is long
abbrev pub IsInOrOut : ℕ → Option Stored → Option Loan → Type 0
IsInOrOut number slot None = length (stored_bytes slot) ≡ stored_len slot
IsInOrOut number slot (Some loan) = IsOut number slot loan

-- what holds of the bytes and the loan of the slot of a number
abbrev pub IsBacked : ℕ → Option Stored → Type 0
IsBacked number slot = IsInOrOut number slot (stored_loan slot)

-- each block has a slot of its own, every other slot is empty, and the blocks are what is taken of the device
pub record AreSlotsKept (holes : Space) (slots : List (Option Stored)) (index : List (ℕ × ℕ)) : Type 0 where
  pub canonical : IsCanonical holes
  pub rising : IsIndexRising index
  pub distinct : EachPair (λ d e. d.1 ≡ e.1 → ⊥) index
  pub filled : AllByRecursion (λ e. IsSome (slot_of slots e)) index
  pub others_empty : (slot : ℕ) → AllByRecursion (λ e. e.1 ≡ slot → ⊥) index → slice_index_or slots slot None ≡ None
  pub lens : AllByRecursion (λ b. IsFromOne MEMORY_MAX b.len) (blocks_in slots index)
  pub marks : AllByRecursion IsSoundMark (marks_in slots index)
  pub backed : AllByRecursion (λ e. IsBacked e.0 (slot_of slots e)) index
  pub partition : IsPartition holes (map taken_range (blocks_in slots index))

-- no number is above the births, of which there are not too many
pub record AreNumbersBorn (index : List (ℕ × ℕ)) (births : ℕ) : Type 0 where
  pub below : AllByRecursion (λ e. e.0 ≤ births) index
  pub few : births ≤ 2 ^ 48

-- what the blocks of an index are without one of them
pub record IsBlockLost (s t : List (Option Stored)) (old new : List (ℕ × ℕ)) (block : ℕ) : Type 0 where
  pub at : ℕ
  pub entry : IsEntry old block at
  pub index : new ≡ remove old at
  pub blocks : blocks_in t new ≡ remove (blocks_in s old) at
  pub memories : memories_in t new ≡ remove (memories_in s old) at
  pub marks : marks_in t new ≡ remove (marks_in s old) at
  pub loans : loans_in t new ≡ loans_in s old

-- what a slot has is the block's, as contracts see it
pub record IsStoredOf (d : DeviceState) (block : ℕ) (s : Stored) : Type 0 where
  pub block_is : block_at block d.blocks ≡ Some (record { number = block; place = s.place; len = s.len })
  pub bytes : s.bytes.items ≡ bytes_of block d.memories
  pub long : is_lent block d.loans ≡ false → length s.bytes.items ≡ s.len
  pub len : IsFromOne MEMORY_MAX s.len
  pub pins : s.pins ≡ pins_at block d.marks
  pub few : s.pins ≤ 2 ^ 32
  pub ended : s.ended ≡ is_ended_at block d.marks
  pub loan : s.loan ≡ loan_of block d.loans
  pub free : s.ended ≡ true → is_lent block d.loans ≡ false

-- the slot has the same place, length, mark and loan, and these bytes from an offset on; every other slot is as it was
pub record IsRewritten (old new : Slab Stored) (slot offset : ℕ) (bytes : List ℕ) : Type 0 where
  pub filled : IsSome (get new slot)
  pub place : stored_place (get new slot) ≡ stored_place (get old slot)
  pub len : stored_len (get new slot) ≡ stored_len (get old slot)
  pub pins : stored_pins (get new slot) ≡ stored_pins (get old slot)
  pub ended : stored_ended (get new slot) ≡ stored_ended (get old slot)
  pub loan : stored_loan (get new slot) ≡ stored_loan (get old slot)
  pub bytes_are : stored_bytes (get new slot) ≡ overwritten offset bytes (stored_bytes (get old slot))
  pub others : (other : ℕ) → other ≢ slot → get new other ≡ get old other

-- the slot has the same place, length, bytes and loan, and this mark; every other slot is as it was
pub record IsRemarked (old new : Slab Stored) (slot pins : ℕ) (ended : Bool) : Type 0 where
  pub filled : IsSome (get new slot)
  pub place : stored_place (get new slot) ≡ stored_place (get old slot)
  pub len : stored_len (get new slot) ≡ stored_len (get old slot)
  pub bytes : stored_bytes (get new slot) ≡ stored_bytes (get old slot)
  pub loan : stored_loan (get new slot) ≡ stored_loan (get old slot)
  pub pins_are : stored_pins (get new slot) ≡ pins
  pub ended_is : stored_ended (get new slot) ≡ ended
  pub others : (other : ℕ) → other ≢ slot → get new other ≡ get old other

-- the slot has the same place, length and mark, and this loan and these bytes; every other slot is as it was
pub record IsRelent (old new : Slab Stored) (slot : ℕ) (loan : Option Loan) (bytes : List ℕ) : Type 0 where
  pub filled : IsSome (get new slot)
  pub place : stored_place (get new slot) ≡ stored_place (get old slot)
  pub len : stored_len (get new slot) ≡ stored_len (get old slot)
  pub pins : stored_pins (get new slot) ≡ stored_pins (get old slot)
  pub ended : stored_ended (get new slot) ≡ stored_ended (get old slot)
  pub loan_is : stored_loan (get new slot) ≡ loan
  pub bytes_are : stored_bytes (get new slot) ≡ bytes
  pub others : (other : ℕ) → other ≢ slot → get new other ≡ get old other
