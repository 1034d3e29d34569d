-- The bytes that a call brought, from its stored event: full traces have all of them.
use Rattle.std.specs.Prelude.{ℕ, List, [], unwrap_or, option_map}
use Rattle.acc_base.specs.Words.{Loan, Event}
use Rattle.acc_base.specs.declared.events.Event.TheVariants.{HostWritten, Gathered}
use Rattle.acc_base.specs.Overwriting.{overwritten}
use Rattle.acc_base.specs.Loans.{loan_of}
use Rattle.acc_base.specs.Records.{State}
use Rattle.acc_base.specs.Bytes.{bytes_of}

-- the place in a lent block of the first byte of its section
abbrev pub offset_lent : ℕ → List Loan → ℕ
offset_lent block loans = unwrap_or (option_map (λ l. l.offset) (loan_of block loans)) 0

-- the bytes that the call of an event brought: a block that comes back is the copy that was kept, with those of the
-- section
abbrev pub bytes_told : Event → State → List ℕ
bytes_told (HostWritten addr len bytes) s = bytes
bytes_told (Gathered device serial block bytes) s = overwritten (offset_lent block s.records.loans) bytes (bytes_of block s.memories)
bytes_told _ s = []
