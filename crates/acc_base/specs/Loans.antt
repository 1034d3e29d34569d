-- Loans: the blocks whose bytes are out in a lease, and which lease brings one back (OpenACC 3.3, sections 2.5 and
-- 2.6).
use Rattle.std.specs.Prelude.{ℕ, Bool, false, not, ◌&&◌, if◌then◌else◌, nat_lt, ◌==◌, List, [], ◌∷◌, Option, None, Some, find, filter, is_some, option_map, unwrap_or, Result, Ok, ⊤}
use Rattle.acc_base.specs.Words.{Loan, Block, Transfer, Fault}
use Rattle.acc_base.specs.declared.faults.Fault.TheVariants.{Lent}
use Rattle.acc_base.specs.Results.{◌>>◌, refuse_if}
use Rattle.acc_base.specs.Blocks.{block_at}

-- what a lease holds: the device and the serial number of its loan, the number of the block, and the bytes of the whole
-- block. And the place of the section's first byte in the block, and the section's length
pub record Leased : Type 0 where
  pub device : ℕ
  pub serial : ℕ
  pub block : ℕ
  pub offset : ℕ
  pub len : ℕ
  pub bytes : List ℕ

-- ---- the loans by rising number of their block

abbrev pub loan_of : ℕ → List Loan → Option Loan
loan_of block loans = find (λ l. l.block == block) loans

-- the block is out
abbrev pub is_lent : ℕ → List Loan → Bool
is_lent block loans = is_some (loan_of block loans)

-- the loans with one more, in its place
abbrev pub with_loan : Loan → List Loan → List Loan
with_loan new [] = new ∷ []
with_loan new (l ∷ ls) = if nat_lt new.block l.block then new ∷ l ∷ ls else l ∷ with_loan new ls

-- the loans without that of a block
abbrev pub without_loan : ℕ → List Loan → List Loan
without_loan block loans = filter (λ l. not (l.block == block)) loans

-- ---- what is refused

-- the block, if there is one, is not lent
abbrev pub not_lent : Option ℕ → List Loan → Result ⊤ Fault
not_lent None loans = Ok tt
not_lent (Some block) loans = refuse_if (is_lent block loans) (Lent block)

-- no block of these transfers is lent; the refusal names the first that is
abbrev pub none_lent : List Transfer → List Loan → Result ⊤ Fault
none_lent [] loans = Ok tt
none_lent (t ∷ ts) loans = not_lent (Some t.block) loans >> none_lent ts loans

-- ---- which lease brings a block back

-- the loan is the lease's: serial number, and place and length of the section
abbrev pub is_loan_of : Leased → Option Loan → Bool
is_loan_of lease None = false
is_loan_of lease (Some l) = l.serial == lease.serial && l.offset == lease.offset && l.len == lease.len

-- the length of a block
abbrev pub len_of : ℕ → List Block → ℕ
len_of block blocks = unwrap_or (option_map (λ b. b.len) (block_at block blocks)) 0
