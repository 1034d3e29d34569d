-- The outcome of reading and writing the bytes of a lease.
use Rattle.std.specs.Prelude.{ℕ, ◌≡◌, ◌==◌, nat_le, List, length, slice_set, find, Option, option_map, Err, Ok, MatchOption, MatchBool}
use Rattle.std.specs.List.{position_or_len}
use Rattle.acc_base.specs.declared.faults.Fault.TheVariants.{NoLease}
use Rattle.acc_base.specs.Loans.{Leased}
use Rattle.acc_lend.specs.Loans.{section, with_section}
use Rattle.lamwiest_c.specs.declared.statuses.Refusal.TheVariants.{BadLength, OfTable}
use Rattle.lamwiest_c.specs.declared.lookups.RawLease.{RawLease}
use Rattle.lamwiest_c.specs.declared.loans.RawPlace.{RawPlace}
use Rattle.lamwiest_c.specs.Environments.{DataEnvironment}
use Rattle.lamwiest_c.specs.Answers.{Told, is_serial, lease_of}

-- a buffer as long as the lease has its bytes; another stays as it was, and C gets the length that is expected
abbrev pub IsLeaseRead : DataEnvironment → ℕ → List ℕ → List ℕ → Told → Type 0
IsLeaseRead e serial old new T =
    MatchOption (lease_of serial e)
    (T (Err (OfTable (NoLease serial))) × (new ≡ old))
    (λ lease. MatchBool (length old == lease.len) (T (Ok lease.len) × (new ≡ section lease)) (T (Err (BadLength lease.len)) × (new ≡ old)))

-- the leases, with another in place of the first of a serial number
abbrev pub leases_with : ℕ → Leased → List Leased → List Leased
leases_with serial lease leases = slice_set leases (position_or_len (is_serial serial) leases) lease

-- the bytes are written over those of the lease, where they are as many
abbrev pub IsLeaseWritten : DataEnvironment → ℕ → List ℕ → Told → DataEnvironment → Type 0
IsLeaseWritten e serial bytes T v =
    MatchOption (lease_of serial e)
    (T (Err (OfTable (NoLease serial))) × (v ≡ e))
    (λ lease. MatchBool (length bytes == lease.len)
    (T (Ok lease.len) × (v ≡ record { world = e.world; leases = leases_with serial (with_section lease bytes) e.leases }))
    (T (Err (BadLength lease.len)) × (v ≡ e)))

-- the place of the lease's bytes is told, by where they begin in its block and how many they are
abbrev pub IsLeasePlaced : DataEnvironment → ℕ → RawPlace → RawPlace → Told → Type 0
IsLeasePlaced e serial old new T =
    MatchOption (lease_of serial e)
    (T (Err (OfTable (NoLease serial))) × (new ≡ old))
    (λ lease. T (Ok lease.len) × (new.offset ≡ lease.offset) × (new.len ≡ lease.len))

-- a lease as C sees it
abbrev pub raw_lease : Leased → RawLease
raw_lease l = record { number = l.serial; device = l.device; block = l.block; offset = l.offset; len = l.len }

-- the lease of least number at or above a number: numbers rise
abbrev pub lease_from : ℕ → List Leased → Option RawLease
lease_from from leases = option_map raw_lease (find (λ l. nat_le from l.serial) leases)
