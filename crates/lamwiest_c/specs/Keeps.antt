-- How the leases of a table are kept: by serial number. No contract of a call for C cites this module.
use Rattle.std.specs.Prelude.{ℕ, ◌≡◌, ◌<◌, nat_le, if◌then◌else◌, List, [], ◌∷◌, map, Option, None, Some}
use Rattle.std.specs.List.{AllByRecursion}
use Rattle.acc_base.specs.declared.calls.Call.{Call}
use Rattle.acc_base.specs.declared.calls.Call.TheVariants.{Gather}
use Rattle.acc_base.specs.Loans.{Leased}
use Rattle.acc_base.specs.Calls.{World}
use Rattle.acc_index.specs.Indexed.{with_other}
use Rattle.acc_index.specs.declared.index.IndexEntry.{IndexEntry}
use Rattle.acc_table.specs.declared.calls.Reply.{Reply}
use Rattle.acc_table.specs.declared.calls.Reply.TheVariants as replies
use Rattle.lamwiest_c.specs.declared.environments.KeptLease.{KeptLease}
use Rattle.lamwiest_c.specs.declared.lookups.RawLease.{RawLease}
use Rattle.lamwiest_c.specs.Leases.{raw_lease}

-- leases with the numbers under which they are kept
abbrev pub Entries : Type 0
Entries = List (ℕ × KeptLease)

abbrev pub leases_in : Entries → List Leased
leases_in entries = map (λ (e : ℕ × KeptLease). e.1.lease) entries

-- the number is the lease's serial number, and below that of the next loan
abbrev pub IsLeaseKept : ℕ → ℕ × KeptLease → Type 0
IsLeaseKept next e = (e.0 ≡ e.1.lease.serial) × (e.0 < next)

abbrev pub AreLeasesKept : World → Entries → Type 0
AreLeasesKept w entries = AllByRecursion (IsLeaseKept w.state.serial) entries

abbrev pub kept : Leased → KeptLease
kept lease = record { lease = lease }

-- a lease of no bytes, which stands for one that is on its way back
abbrev pub lease_of_nothing : Leased
lease_of_nothing = record { device = 0; serial = 0; block = 0; offset = 0; len = 0; bytes = [] }

-- the lease that is replied, if one is, under its serial number
abbrev pub entries_by : Reply → Entries
entries_by (replies.Lease lease) = (lease.serial, kept lease) ∷ []
entries_by _ = []

-- the lease of a call that came back stands under this number
abbrev pub restored : Call Leased → ℕ → Entries → Entries
restored (Gather lease) serial entries = with_other serial (kept lease) entries
restored _ serial entries = entries

-- what is told of a lease that is there, if its number is at least this
abbrev pub told_of : ℕ → Option KeptLease → Option RawLease
told_of from None = None
told_of from (Some own) = if nat_le from own.lease.serial then Some (raw_lease own.lease) else None

abbrev pub told_from : ℕ → IndexEntry KeptLease → Option RawLease
told_from from e = told_of from e.value
