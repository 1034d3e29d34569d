-- The outcome of a call. Each definition is given how the caller gets it: as the result of a function, or as a status
-- and the fields of a refusal.
use Rattle.std.specs.Prelude.{ℕ, ◌≡◌, ◌<◌, ◌⊎◌, ◌==◌, Bool, List, ◌++◌, length, find, Option, Some, None, Result, Ok, Err, MatchOption}
use Rattle.std.specs.List.{remove, position_or_len}
use Rattle.acc_base.specs.declared.items.Section.{Section}
use Rattle.acc_base.specs.declared.calls.Call.{Call}
use Rattle.acc_base.specs.declared.directives.Directive.{Directive}
use Rattle.acc_base.specs.declared.faults.Fault.{Fault}
use Rattle.acc_base.specs.declared.calls.Call.TheVariants.{Do, Lend, Gather}
use Rattle.acc_base.specs.declared.faults.Fault.TheVariants.{Memory, NoLease}
use Rattle.acc_base.specs.Loans.{Leased}
use Rattle.acc_base.specs.Calls.{World, judge, world_after, rebased}
use Rattle.acc_base.specs.Judge.{Verdict, Makes, Idle, item_count}
use Rattle.acc_table.specs.declared.calls.Reply.{Reply}
use Rattle.acc_table.specs.declared.calls.Reply.TheVariants as replies
use Rattle.acc_table.specs.Calls.{reply_in}
use Rattle.acc_table.specs.Turns.{lent_by}
use Rattle.lamwiest_c.specs.declared.statuses.Refusal.{Refusal}
use Rattle.lamwiest_c.specs.declared.statuses.Refusal.TheVariants.{Ended, OfTable}
use Rattle.lamwiest_c.specs.Environments.{DataEnvironment}

-- a section by its first host address and its length
abbrev pub section_at : ℕ → ℕ → Section
section_at start len = record { start = start; len = len }

-- how the caller gets the outcome of a call
abbrev pub Told : Type 1
Told = Result ℕ Refusal → Type 0

-- the number that a reply gives: of a region, of a lease, of the transfers of a wait, and 1 or 0 for a step
abbrev pub number_in : Reply → ℕ
number_in replies.Done = 1
number_in (replies.Entered number) = number
number_in (replies.Lease lease) = lease.serial
number_in (replies.Drained count) = count
number_in replies.Idle = 0

-- ---- calls that move no lease

-- the caller gets a refusal, and nothing changed; or the number of the reply, and the world is that after the event.
-- Memory may be lacking where there is something to do
abbrev pub CameOf : World → Call Leased → Result Verdict Fault → Told → World → Type 0
CameOf w call (Err fault) T v = T (Err (OfTable fault)) × (v ≡ w)
CameOf w call (Ok Idle) T v = T (Ok (number_in replies.Idle)) × (v ≡ w)
CameOf w call (Ok (Makes e)) T v = (T (Err (OfTable Memory)) × (v ≡ w)) ⊎ (T (Ok (number_in (reply_in e w))) × (v ≡ world_after call e w))

abbrev pub IsMade : World → Call Leased → Told → World → Type 0
IsMade w call T v = CameOf w call (judge w call) T v

-- the same of a world beside its leases, which stay
abbrev pub IsMadeIn : DataEnvironment → Call Leased → Told → DataEnvironment → Type 0
IsMadeIn e call T v = IsMade e.world call T v.world × (v.leases ≡ e.leases)

-- the directive that was asked is made, or was read wrong. Memory may be lacking before it is asked, for a list of more
-- than one item
abbrev pub IsAsked : DataEnvironment → Result Directive Refusal → Told → DataEnvironment → Type 0
IsAsked e (Err refusal) T v = T (Err refusal) × (v ≡ e)
IsAsked e (Ok directive) T v = (T (Err (OfTable Memory)) × (1 < item_count directive) × (v ≡ e)) ⊎ IsMadeIn e (Do directive) T v

-- the world's base is what it had, and the caller gets how many events that folded; or memory was lacking
abbrev pub IsRebased : DataEnvironment → Told → DataEnvironment → Type 0
IsRebased e T v =
    (T (Err (OfTable Memory)) × (v ≡ e))
    ⊎ (T (Ok (length e.world.history.trace)) × (v ≡ record { world = rebased e.world; leases = e.leases }))

-- ---- loans

-- the lease has this serial number
abbrev pub is_serial : ℕ → Leased → Bool
is_serial serial lease = lease.serial == serial

-- the lease of a serial number, if it is there
abbrev pub lease_of : ℕ → DataEnvironment → Option Leased
lease_of serial e = find (is_serial serial) e.leases

-- the block is lent, and its lease is the last one, with a number that no other lease has; memory may be lacking before
-- all else
abbrev pub CameOfLoan : DataEnvironment → Call Leased → Result Verdict Fault → Told → DataEnvironment → Type 0
CameOfLoan e call (Err fault) T v = T (Err (OfTable fault)) × (v ≡ e)
CameOfLoan e call (Ok Idle) T v = ⊥
CameOfLoan e call (Ok (Makes event)) T v =
    T (Ok (number_in (reply_in event e.world)))
    × (v ≡ record { world = world_after call event e.world; leases = e.leases ++ lent_by (reply_in event e.world) })
    × (lease_of (number_in (reply_in event e.world)) e ≡ None)

abbrev pub IsLent : DataEnvironment → ℕ → Section → Told → DataEnvironment → Type 0
IsLent e region section T v =
    (T (Err (OfTable Memory)) × (v ≡ e)) ⊎ CameOfLoan e (Lend region section) (judge e.world (Lend region section)) T v

-- the leases without the first of a serial number
abbrev pub leases_without : ℕ → List Leased → List Leased
leases_without serial leases = remove leases (position_or_len (is_serial serial) leases)

-- the block is brought back, and its lease is spent
abbrev pub CameOfLease : DataEnvironment → ℕ → Call Leased → Result Verdict Fault → Told → DataEnvironment → Type 0
CameOfLease e serial call (Err fault) T v = T (Err (OfTable fault)) × (v ≡ e)
CameOfLease e serial call (Ok Idle) T v = ⊥
CameOfLease e serial call (Ok (Makes event)) T v =
    (T (Err (OfTable Memory)) × (v ≡ e))
    ⊎ (T (Ok (number_in (reply_in event e.world))) × (v ≡ record { world = world_after call event e.world; leases = leases_without serial e.leases }))

abbrev pub IsGathered : DataEnvironment → ℕ → Told → DataEnvironment → Type 0
IsGathered e serial T v =
    MatchOption (lease_of serial e)
    (T (Err (OfTable (NoLease serial))) × (v ≡ e))
    (λ lease. CameOfLease e serial (Gather lease) (judge e.world (Gather lease)) T v)

-- ---- handles

-- the handle had nothing, and has nothing; or the call was made in what it has
abbrev pub IsOf : Option DataEnvironment → Option DataEnvironment → Told → (DataEnvironment → DataEnvironment → Type 0) → Type 0
IsOf None new T F = T (Err Ended) × (new ≡ None)
IsOf (Some e) None T F = ⊥
IsOf (Some e) (Some v) T F = F e v
