-- What is left of a loan while its parts are taken in order.
use Rattle.std.specs.Prelude.{ℕ, List, ◌∷◌, ◌++◌, ◌≡◌, ◌+◌, length, Option, Some, None}
use Rattle.std.specs.Borrow.{MutBor, Fml, GName, u8, Array, follows, follows_both_if}
use mathlib.Core.Option as maybe
use Rattle.acc_lend.specs.Cuts.{lengths_from}
use Rattle.acc_base.specs.Loans.{Leased}
use Rattle.acc_lend.specs.Loans.{with_section}
use Rattle.acc_lend.specs.contracts.leases.Lease.{the_row}
use Rattle.acc_lend.specs.declared.taking.Parts.{Parts}

-- the bytes of the parts that are left
abbrev pub bytes_left : Parts → List ℕ
bytes_left parts = parts.rest.now

-- their lengths
abbrev pub cuts_left : Parts → List ℕ
cuts_left parts = lengths_from parts.len parts.later.now

-- the place of the first of them in the loan
abbrev pub next_place : Parts → ℕ
next_place parts = parts.at

-- What a part is. It has the first of the lengths and of the bytes that were left, and the parts after it have the
-- rest. It lies at the place that comes next, and the parts after it lie behind it.
pub record IsNext (cuts : List ℕ) (place : ℕ) (bytes : List ℕ) (next : ℕ × MutBor (List ℕ) × Parts) : Type 0 where
  pub at : next.0 ≡ place
  pub cut : cuts ≡ length next.1.now ∷ cuts_left next.2
  pub joined : bytes ≡ next.1.now ++ bytes_left next.2
  pub after : next_place next.2 ≡ place + length next.1.now

-- ---- what the loan ends with

-- the name of the borrow from which the parts are taken
abbrev pub parts_name : Parts → GName
parts_name parts = parts.rest.ghost_name

-- the names of the borrows of a part and of the parts after it
abbrev pub ghost_names : Option (ℕ × MutBor (List ℕ) × Parts) → maybe.Option (GName × GName)
ghost_names None = maybe.none
ghost_names (Some next) = maybe.some (next.1.ghost_name, parts_name next.2)

-- the lease ends with what was last behind the parts as its section
abbrev pub LendsParts : MutBor Leased → Parts → Fml
LendsParts lease parts = follows the_row (Array u8 0) lease.ghost_name (parts_name parts) (with_section lease.now)

-- what was left ends as the last bytes of the part and then those of the parts after it. Where there is no part, it
-- ends as it was
abbrev pub LendsPart : GName → List ℕ → Option (ℕ × MutBor (List ℕ) × Parts) → Fml
LendsPart name bytes next = follows_both_if (Array u8 0) (Array u8 0) (Array u8 0) name (ghost_names next) ◌++◌ bytes
