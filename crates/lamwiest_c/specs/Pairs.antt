-- The outcome of a call on the tables of two handles: one is copied, or both are compared.
use Rattle.std.specs.Prelude.{◌≡◌, ◌⊎◌, [], Option, None, Some, Ok, Err}
use Rattle.acc_base.specs.declared.faults.Fault.{Fault}
use Rattle.acc_base.specs.declared.faults.Fault.TheVariants.{Memory, Lent}
use Rattle.acc_table.specs.Comparing.{IsSame}
use Rattle.lamwiest_c.specs.declared.lookups.RawLease.{RawLease}
use Rattle.lamwiest_c.specs.declared.statuses.Refusal.{Refusal}
use Rattle.lamwiest_c.specs.declared.statuses.Refusal.TheVariants.{Ended, OfTable}
use Rattle.lamwiest_c.specs.Environments.{DataEnvironment}
use Rattle.lamwiest_c.specs.Answers.{Told}
use Rattle.lamwiest_c.specs.Leases.{lease_from}

-- ---- a copy

-- why there is none: the lease of least number that is out, by its block, or memory where none is out
abbrev pub fault_of_copy : Option RawLease → Fault
fault_of_copy None = Memory
fault_of_copy (Some lease) = Lent lease.block

abbrev pub refusal_of_copy : DataEnvironment → Refusal
refusal_of_copy e = OfTable (fault_of_copy (lease_from 0 e.leases))

-- it is as its source, of which no lease is out
abbrev pub IsCopy : DataEnvironment → DataEnvironment → Type 0
IsCopy e copy = (copy ≡ e) × (e.leases ≡ [])

-- the other handle has a copy of the environment, or stays as it was
abbrev pub CameOfCopy : DataEnvironment → Option DataEnvironment → Option DataEnvironment → Told → Type 0
CameOfCopy e old new T =
    (T (Ok 0) × (new ≡ Some e) × (e.leases ≡ []))
    ⊎ (T (Err (refusal_of_copy e)) × (new ≡ old))

-- the same of a handle, which has an environment or nothing
abbrev pub IsCopiedInto : Option DataEnvironment → Option DataEnvironment → Option DataEnvironment → Told → Type 0
IsCopiedInto None old new T = T (Err Ended) × (new ≡ old)
IsCopiedInto (Some e) old new T = CameOfCopy e old new T

-- ---- a comparison

-- 1 where both tables have the same, else 0; or memory was lacking
abbrev pub CameOfComparison : DataEnvironment → DataEnvironment → Told → Type 0
CameOfComparison a b T =
    T (Err (OfTable Memory))
    ⊎ (T (Ok 1) × IsSame a.world b.world)
    ⊎ (T (Ok 0) × ¬ IsSame a.world b.world)

-- the same of two handles
abbrev pub AreCompared : Option DataEnvironment → Option DataEnvironment → Told → Type 0
AreCompared None other T = T (Err Ended)
AreCompared (Some a) None T = T (Err Ended)
AreCompared (Some a) (Some b) T = CameOfComparison a b T
