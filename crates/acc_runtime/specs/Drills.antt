-- The threads of a drill, each of which enters and exits a region so many times over one array.
use Rattle.std.specs.Prelude.{ℕ, zero, suc, ◌≡◌, ◌+◌, ◌-◌, ◌*◌, ◌<◌, ◌≤◌, ◌⊎◌, List, [], ◌∷◌, map, length, sum_by, All, Option, None, Some, MatchOption, unwrap_or}
use Rattle.std.specs.Option.{option_or}
use Rattle.acc_base.specs.declared.items.Section.{Section}
use Rattle.acc_base.specs.declared.items.Item.{Item}
use Rattle.acc_base.specs.declared.items.RegionClause.TheVariants.{Copyin}
use Rattle.acc_base.specs.declared.items.EnterClause.TheVariants as enter
use Rattle.acc_base.specs.declared.calls.Call.{Call}
use Rattle.acc_base.specs.declared.calls.Call.TheVariants.{Do}
use Rattle.acc_base.specs.declared.directives.Directive.TheVariants.{Enter, Exit, EnterData}
use Rattle.acc_base.specs.declared.faults.Fault.{Fault}
use Rattle.acc_base.specs.declared.faults.Fault.TheVariants.{Memory, NoTickets, NoAllowance}
use Rattle.acc_base.specs.declared.mappings.Counters.{Counters}
use Rattle.acc_base.specs.Section.{host_base}
use Rattle.acc_base.specs.Limits.{Limits}
use Rattle.acc_base.specs.Loans.{Leased}
use Rattle.acc_base.specs.Devices.{view}
use Rattle.acc_base.specs.Calls.{World, event_count}
use Rattle.acc_table.specs.declared.calls.Reply.TheVariants.{Done, Entered}
use Rattle.acc_table.specs.Queries.{counters_of_section}
use Rattle.acc_runtime.specs.declared.drilling.Drilled.{Drilled}
use Rattle.acc_runtime.specs.Shares.{Shares}
use Rattle.acc_runtime.specs.Books.{IsSettled}
use Rattle.acc_runtime.specs.Shared.{WasAccepted, WasRefused}

-- the array of all threads: the first 16 bytes of host memory
abbrev pub array : Section
array = record { start = host_base; len = 16 }

-- the one item of a directive that names it in a clause
abbrev pub array_in : {C : Type 0} → C → List (Item C)
array_in clause = record { clause = clause; section = array; pointer = None } ∷ []

-- the directive that maps it on the first device
abbrev pub mapping : Call Leased
mapping = Do (EnterData 0 (array_in enter.Copyin) None)

-- the directive by which a thread enters a region there
abbrev pub entry : Call Leased
entry = Do (Enter 0 (array_in Copyin))

-- ---- a thread

-- a region was entered and exited
pub record WasRound (l : Limits) (p q : Shares) : Type 0 where
  pub region : ℕ
  pub within : Shares
  pub entered : WasAccepted l p entry (Entered region) within
  pub exited : WasAccepted l within (Do (Exit region)) Done q

-- so many rounds were made, one after another
abbrev pub WereRounds : Limits → ℕ → Shares → Shares → Type 0
WereRounds l zero p q = q ≡ p
WereRounds l (suc rounds) p q = (m : Shares) × WereRounds l rounds p m × WasRound l m q

-- it stopped for this fault: no region was entered, for lack of memory or since that was refused; or one was entered
-- that it could not exit
abbrev pub WasStopped : Limits → Shares → Fault → Shares → Type 0
WasStopped l p fault q =
    ((q ≡ p) × ((fault ≡ Memory) ⊎ WasRefused l p entry fault))
    ⊎ ((region : ℕ) × WasAccepted l p entry (Entered region) q × WasRefused l q (Do (Exit region)) fault)

-- it stopped for this fault within so many rounds
abbrev pub WasStoppedWithin : Limits → ℕ → Shares → Fault → Shares → Type 0
WasStoppedWithin l rounds p fault q = (done : ℕ) × (done < rounds) × (m : Shares) × WereRounds l done p m × WasStopped l m fault q

-- it stopped after so many rounds: with no region, or in one that it could not exit
abbrev pub HasStopped : ℕ → Shares → Shares → Type 0
HasStopped rounds p q = ((q.made ≡ p.made + 2 * rounds) × (q.allowance ≡ p.allowance)) ⊎ ((q.made ≡ p.made + 2 * rounds + 1) × (q.allowance + 1 ≡ p.allowance))

-- its shares before its work: one region, and a ticket for each entry and each exit
abbrev pub HasRounds : ℕ → Shares → Type 0
HasRounds rounds p = (p.allowance ≡ 1) × (p.tickets ≡ 2 * rounds) × (p.made ≡ 0)

-- what that comes to
abbrev pub for_rounds : ℕ → Shares
for_rounds rounds = record { allowance = 1; tickets = 2 * rounds; made = 0 }

-- from these shares on it made all its rounds, or stopped for the fault that it met within them
abbrev pub HasRun : Limits → ℕ → Option Fault → Shares → Type 0
HasRun l rounds fault p = MatchOption fault (WereRounds l rounds (for_rounds rounds) p) (λ met. WasStoppedWithin l rounds (for_rounds rounds) met p)

-- what that comes to for its shares
pub record IsWorked (rounds : ℕ) (p : Shares) (fault : Option Fault) : Type 0 where
  pub kept : p.made + p.tickets ≡ 2 * rounds
  pub made : fault ≡ None → p.made ≡ 2 * rounds
  pub back : fault ≡ None → p.allowance ≡ 1
  pub stopped : (done : ℕ) × HasStopped done (for_rounds rounds) p

-- the fault of the first thread that met one
abbrev pub first_fault : List (Option Fault) → Option Fault
first_fault [] = None
first_fault (fault ∷ rest) = option_or fault (first_fault rest)

-- ---- all threads

-- what is known of a thread behind its work: its shares, and the fault that it met
pub record Worked : Type 0 where
  pub shares : Shares
  pub fault : Option Fault

-- the array was mapped, the shares sufficed for all threads, and all worked. In some order of them, the first that met a
-- fault met this one. The shares are those that the mapping left, with all that the threads have left and made
pub record HaveWorked (l : Limits) (threads rounds : ℕ) (p : Shares) (fault : Option Fault) (q : Shares) : Type 0 where
  pub mapped : Shares
  pub accepted : WasAccepted l p mapping Done mapped
  pub enough : (threads ≤ mapped.allowance) × (2 * rounds * threads ≤ mapped.tickets)
  -- in some order
  pub all : List Worked
  pub count : length all ≡ threads
  pub run : All (λ w. HasRun l rounds w.fault w.shares) all
  pub first : first_fault (map (λ w. w.fault) all) ≡ fault
  pub allowance : q.allowance + threads ≡ mapped.allowance + sum_by (λ w. w.shares.allowance) all
  pub tickets : q.tickets + 2 * rounds * threads ≡ mapped.tickets + sum_by (λ w. w.shares.tickets) all
  pub made : q.made ≡ mapped.made + sum_by (λ w. w.shares.made) all

-- so many threads had got their shares when there were too few for the next one
pub record IsShort (threads rounds : ℕ) (p : Shares) (fault : Fault) : Type 0 where
  pub given : ℕ
  pub fewer : given < threads
  pub regions : given ≤ p.allowance
  pub tickets : 2 * rounds * given ≤ p.tickets
  pub lacks : ((p.tickets < 2 * rounds * (given + 1)) × (fault ≡ NoTickets (p.tickets - 2 * rounds * given)))
      ⊎ ((2 * rounds * (given + 1) ≤ p.tickets) × (p.allowance ≡ given) × (fault ≡ NoAllowance 0))

-- what a drill was refused for: lack of memory, or the refusal of the mapping, before anything was done; behind the
-- mapping too few shares for the threads; or a fault that one of them met
abbrev pub WasCutShort : Limits → ℕ → ℕ → Shares → Fault → Shares → Type 0
WasCutShort l threads rounds p fault q =
    ((q ≡ p) × ((fault ≡ Memory) ⊎ WasRefused l p mapping fault))
    ⊎ (WasAccepted l p mapping Done q × IsShort threads rounds q fault)
    ⊎ HaveWorked l threads rounds p (Some fault) q

-- ---- what is left

-- the counters of the array on the first device, both 0 where it is not mapped there
abbrev pub array_counters : World → Counters
array_counters w = unwrap_or (counters_of_section array (view 0 w.state).records) (record { structured = 0; dynamic = 0 })

-- a table says this of the array
pub record IsTold (w : World) (left : Drilled) : Type 0 where
  pub events : left.events ≡ event_count w.history
  pub structured : left.structured ≡ (array_counters w).structured
  pub dynamic : left.dynamic ≡ (array_counters w).dynamic

-- a table of these limits said this of it, to a caller with these shares, where there are so many regions and tickets
-- in all
abbrev pub WasTold : Limits → ℕ → ℕ → Shares → Drilled → Type 0
WasTold l regions tickets p left = (w : World) × IsSettled l regions tickets p w × IsTold w left
