-- What a device holds, and what its calls make of it.
use Rattle.std.specs.Prelude.{ℕ, suc, ◌≡◌, ◌+◌, ◌-◌, ◌/◌, ◌<◌, ◌≤◌, ◌⊎◌, Bool, true, false, List, [], ◌∷◌, ◌++◌, replicate, map, Option, Some, IsSome}
use Rattle.acc_base.specs.declared.addresses.TheConstants.{DEVICE_BASE}
use Rattle.acc_base.specs.declared.faults.Fault.{Fault}
use Rattle.acc_base.specs.declared.faults.Fault.TheVariants.{Lent, Memory as OutOfMemory}
use Rattle.acc_base.specs.declared.loans.Loan.{Loan}
use Rattle.acc_base.specs.declared.mappings.Block.{Block}
use Rattle.acc_base.specs.declared.items.Section.{Section}
use Rattle.acc_base.specs.Records.{Memory}
use Rattle.acc_base.specs.Blocks.{rounded, place_for, block_at, without_block}
use Rattle.acc_base.specs.Bytes.{fill_byte, memory_changed, memories_kept}
use Rattle.acc_base.specs.Overwriting.{overwritten}
use Rattle.acc_base.specs.Limits.{recorded, base_on}
use Rattle.acc_base.specs.Loans.{Leased, is_lent, len_of, with_loan, without_loan}
use Rattle.acc_base.specs.Accounts.{EachPair, AreBlocksApart}
use Rattle.acc_dev.specs.declared.copying.SavedBlock.{SavedBlock}
use Rattle.acc_dev.specs.Marks.{Mark, new_mark, is_ended_at, mark_changed, with_pin, without_pin, with_end, without_mark}

-- where device memory begins and how long it is, the blocks by rising number, with the bytes and the mark of each in
-- step. And the loans by rising block, how many blocks were ever born, and the births for which there is room, by their
-- lengths in order
pub record DeviceState : Type 0 where
  pub memory : Section
  pub blocks : List Block
  pub memories : List Memory
  pub marks : List Mark
  pub loans : List Loan
  pub births : ℕ
  pub room : List ℕ

-- the number of the device whose memory begins there
abbrev pub number_at : ℕ → ℕ
number_at base = base / DEVICE_BASE - 1

-- the block is one of the device's
abbrev pub HasBlock : DeviceState → ℕ → Type 0
HasBlock d block = IsSome (block_at block d.blocks)

-- the device has this number, its memory is so long, and no block was born
pub record IsNew (number size : ℕ) (d : DeviceState) : Type 0 where
  pub memory_is : d.memory ≡ record { start = base_on number; len = size }
  pub blocks_are : d.blocks ≡ []
  pub memories_are : d.memories ≡ []
  pub marks_are : d.marks ≡ []
  pub loans_are : d.loans ≡ []
  pub births_are : d.births ≡ 0

-- the same device, but for its spare room
pub record IsUnchanged (old new : DeviceState) : Type 0 where
  pub memory : new.memory ≡ old.memory
  pub blocks : new.blocks ≡ old.blocks
  pub memories : new.memories ≡ old.memories
  pub marks : new.marks ≡ old.marks
  pub loans : new.loans ≡ old.loans
  pub births : new.births ≡ old.births

-- ---- births

-- where a new block of this length lies: at the least device address at which its rounded length fits
abbrev pub birth_place : DeviceState → ℕ → Option ℕ
birth_place d len = place_for d.memory d.blocks (rounded len)

-- the new device is the old one with a block more. It has the next number and these bytes, lies at the least place, and
-- no transfer names it
pub record IsBornWith (old new : DeviceState) (len : ℕ) (bytes : List ℕ) (block : ℕ) : Type 0 where
  pub place : ℕ
  pub place_is : birth_place old len ≡ Some place
  pub block_is : block ≡ old.births + 1
  pub memory : new.memory ≡ old.memory
  pub blocks : new.blocks ≡ old.blocks ++ record { number = block; place = place; len = len } ∷ []
  pub memories : new.memories ≡ old.memories ++ record { block = block; bytes = bytes } ∷ []
  pub marks : new.marks ≡ old.marks ++ new_mark block ∷ []
  pub loans : new.loans ≡ old.loans
  pub births : new.births ≡ block

-- and its bytes are filled
abbrev pub IsBorn : DeviceState → DeviceState → ℕ → Bool → ℕ → Type 0
IsBorn old new len zero block = IsBornWith old new len (replicate len (fill_byte zero)) block

-- room was made for a birth of this length, and it is the next
abbrev pub IsNextRoom : DeviceState → ℕ → Type 0
IsNextRoom d len = (rest : List ℕ) × (d.room ≡ len ∷ rest)

-- blocks that are yet to be born, at these places and of these lengths, from this number on
abbrev pub planned_blocks : ℕ → List (ℕ × ℕ) → List Block
planned_blocks number [] = []
planned_blocks number (t ∷ ts) = record { number = number; place = t.0; len = t.1 } ∷ planned_blocks (suc number) ts

-- ---- writes, pins and ends

-- the new device is the old one with bytes from an offset of a block on
pub record IsBlockWritten (old new : DeviceState) (block offset : ℕ) (bytes : List ℕ) : Type 0 where
  pub memory : new.memory ≡ old.memory
  pub blocks : new.blocks ≡ old.blocks
  pub memories : new.memories ≡ map (memory_changed block (overwritten offset bytes)) old.memories
  pub marks : new.marks ≡ old.marks
  pub loans : new.loans ≡ old.loans
  pub births : new.births ≡ old.births
  pub room : new.room ≡ old.room

-- the new device is the old one with a change of the mark of a block
pub record IsMarked (old new : DeviceState) (block : ℕ) (change : Mark → Mark) : Type 0 where
  pub memory : new.memory ≡ old.memory
  pub blocks : new.blocks ≡ old.blocks
  pub memories : new.memories ≡ old.memories
  pub marks : new.marks ≡ map (mark_changed block change) old.marks
  pub loans : new.loans ≡ old.loans
  pub births : new.births ≡ old.births
  pub room : new.room ≡ old.room

-- one more transfer names the block
abbrev pub IsPinned : DeviceState → DeviceState → ℕ → Type 0
IsPinned old new block = IsMarked old new block with_pin

-- one transfer fewer names it
abbrev pub IsUnpinned : DeviceState → DeviceState → ℕ → Type 0
IsUnpinned old new block = IsMarked old new block without_pin

-- its mapping has ended, and it is kept
abbrev pub IsEnded : DeviceState → DeviceState → ℕ → Type 0
IsEnded old new block = IsMarked old new block with_end

-- the new device is the old one without a block, its bytes and its mark
pub record IsRetired (old new : DeviceState) (block : ℕ) : Type 0 where
  pub memory : new.memory ≡ old.memory
  pub blocks : new.blocks ≡ without_block block old.blocks
  pub memories : new.memories ≡ memories_kept new.blocks old.memories
  pub marks : new.marks ≡ without_mark block old.marks
  pub loans : new.loans ≡ old.loans
  pub births : new.births ≡ old.births
  pub room : new.room ≡ old.room

-- the bytes of a block in a vector of their own
abbrev pub memory_saved : SavedBlock → Memory
memory_saved b = record { block = b.block; bytes = b.bytes.items }

-- ---- loans

-- the new device is the old one with a loan more. The bytes of its block are gone, but for a copy where one is kept
pub record IsTakenOut (old new : DeviceState) (loan : Loan) (keep : Bool) : Type 0 where
  pub memory : new.memory ≡ old.memory
  pub blocks : new.blocks ≡ old.blocks
  pub memories : new.memories ≡ map (memory_changed loan.block (recorded keep)) old.memories
  pub marks : new.marks ≡ old.marks
  pub loans : new.loans ≡ with_loan loan old.loans
  pub births : new.births ≡ old.births
  pub room : new.room ≡ old.room

-- a loan is refused of a block that is lent, and else for lack of memory for the copy that is to be kept
abbrev pub IsLoanRefused : DeviceState → ℕ → Bool → Fault → Type 0
IsLoanRefused d block keep fault = ((is_lent block d.loans ≡ true) × (fault ≡ Lent block)) ⊎ ((is_lent block d.loans ≡ false) × (keep ≡ true) × (fault ≡ OutOfMemory))

-- the new device is the old one with the bytes of a lease for those of its block, which is no longer lent
pub record IsPutBack (old new : DeviceState) (lease : Leased) : Type 0 where
  pub memory : new.memory ≡ old.memory
  pub blocks : new.blocks ≡ old.blocks
  pub memories : new.memories ≡ map (memory_changed lease.block (λ bytes. lease.bytes)) old.memories
  pub marks : new.marks ≡ old.marks
  pub loans : new.loans ≡ without_loan lease.block old.loans
  pub births : new.births ≡ old.births
  pub room : new.room ≡ old.room

-- ---- what holds of every device

-- its blocks lie on it and apart, in the order of their births
abbrev pub HasBlocksApart : DeviceState → Type 0
HasBlocksApart d = AreBlocksApart d.memory d.blocks d.births

-- the block of the loan is there and mapped, and the section lies in it
pub record IsLoanOn (d : DeviceState) (l : Loan) : Type 0 where
  pub there : HasBlock d l.block
  pub mapped : is_ended_at l.block d.marks ≡ false
  pub within : l.offset + l.len ≤ len_of l.block d.blocks

-- loans stand by rising block, so that no block is lent twice
abbrev pub AreLoansRising : List Loan → Type 0
AreLoansRising loans = EachPair (λ (l : Loan) (m : Loan). l.block < m.block) loans
