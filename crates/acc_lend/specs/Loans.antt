-- What a lease holds: the section of a block that is lent, and all the block's bytes (OpenACC 3.3, sections 2.5 and
-- 2.6).
use Rattle.std.specs.Prelude.{ℕ, ◌≡◌, ◌+◌, ◌≤◌, List, ◌++◌, length, take, drop}
use Rattle.acc_base.specs.declared.addresses.TheConstants.{MEMORY_MAX}
use Rattle.acc_base.specs.Loans.{Leased}
-- the bytes of the section
pub use Rattle.acc_base.specs.Leases.{section_bytes as section}

-- the section lies in the block, and the block is no longer than a memory may be
pub record IsLoan (l : Leased) : Type 0 where
  pub within : l.offset + l.len ≤ length l.bytes
  pub capped : length l.bytes ≤ MEMORY_MAX

-- bytes with others in place of those from an offset on, as many in all as before
abbrev pub written_over : ℕ → List ℕ → List ℕ → List ℕ
written_over offset bytes old = take (length old) (take offset old ++ (bytes ++ drop (offset + length bytes) old))

-- the loan with these bytes as its section
abbrev pub with_section : Leased → List ℕ → Leased
with_section l bytes = record l { bytes = written_over l.offset bytes l.bytes }

-- the same loan, and each byte of the block outside its section is as it was
pub record IsKeptOutside (old new : Leased) : Type 0 where
  pub device : new.device ≡ old.device
  pub serial : new.serial ≡ old.serial
  pub block : new.block ≡ old.block
  pub offset : new.offset ≡ old.offset
  pub len : new.len ≡ old.len
  pub before : take old.offset new.bytes ≡ take old.offset old.bytes
  pub behind : drop (old.offset + old.len) new.bytes ≡ drop (old.offset + old.len) old.bytes
