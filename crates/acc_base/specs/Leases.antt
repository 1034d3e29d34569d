-- Which lease brings a block back (OpenACC 3.3, section 2.5, compute constructs).
use Rattle.std.specs.Prelude.{ℕ, ◌+◌, Bool, not, ◌&&◌, ◌||◌, ◌==◌, List, length, take, drop}
use Rattle.std.specs.Str.{bytes_eq}
use Rattle.acc_base.specs.Words.{Block, Loan}
use Rattle.acc_base.specs.Loans.{Leased, loan_of, is_loan_of, len_of}
use Rattle.acc_base.specs.Records.{Memory}
use Rattle.acc_base.specs.Bytes.{bytes_of}

-- the bytes of the section that is lent
abbrev pub section_bytes : Leased → List ℕ
section_bytes lease = take lease.len (drop lease.offset lease.bytes)

-- the lease has as many bytes as a copy of its block, and the same ones before the section and behind it
abbrev pub is_kept_outside : Leased → List ℕ → Bool
is_kept_outside lease copy = length copy == length lease.bytes && bytes_eq (take lease.offset lease.bytes) (take lease.offset copy) && bytes_eq (drop (lease.offset + lease.len) lease.bytes) (drop (lease.offset + lease.len) copy)

-- the lease's block is out under the lease's loan, and as long as it has bytes, and the device is the lease's
abbrev pub is_of_loan : ℕ → Leased → List Block → List Loan → Bool
is_of_loan d lease blocks loans = is_loan_of lease (loan_of lease.block loans) && (len_of lease.block blocks == length lease.bytes) && (lease.device == d)

-- and where a copy of the block was kept, only the section has changed
abbrev pub is_returnable : Bool → ℕ → Leased → List Block → List Loan → List Memory → Bool
is_returnable full d lease blocks loans memories = is_of_loan d lease blocks loans && (not full || is_kept_outside lease (bytes_of lease.block memories))
