-- What a call on a shared table came to. Which table it met is known only while the lock is held: one of the limits of
-- the runtime that keeps the laws.
use Rattle.std.specs.Prelude.{ℕ, ◌≡◌, List, Some, length}
use Rattle.acc_base.specs.declared.items.Section.{Section}
use Rattle.acc_base.specs.declared.calls.Call.{Call}
use Rattle.acc_base.specs.declared.faults.Fault.{Fault}
use Rattle.acc_base.specs.Limits.{Limits}
use Rattle.acc_base.specs.Loans.{Leased}
use Rattle.acc_base.specs.Calls.{World, rebased}
use Rattle.acc_table.specs.declared.calls.Reply.{Reply}
use Rattle.acc_table.specs.Laws.{IsLawful}
use Rattle.acc_table.specs.Queries.{host_read_of}
use Rattle.acc_runtime.specs.Shares.{Shares}
use Rattle.acc_runtime.specs.Acts.{IsActed, IsDenied}

-- a table of these limits that keeps the laws, before and after, accepted the call with this reply, and the caller's
-- shares are those after it
pub record WasAccepted (l : Limits) (p : Shares) (call : Call Leased) (reply : Reply) (q : Shares) : Type 0 where
  pub before : World
  pub next : World
  pub lawful : IsLawful before
  pub limits : before.limits ≡ l
  pub still : IsLawful next
  pub kept : next.limits ≡ l
  pub acted : IsActed p before call reply q next

-- the call of a caller with these shares was refused so, by them or by a table of these limits that keeps the laws
pub record WasRefused (l : Limits) (p : Shares) (call : Call Leased) (fault : Fault) : Type 0 where
  pub world : World
  pub lawful : IsLawful world
  pub limits : world.limits ≡ l
  pub denied : IsDenied p world call fault

-- a table of these limits that keeps the laws had these bytes of host memory
pub record WasRead (l : Limits) (section : Section) (bytes : List ℕ) : Type 0 where
  pub world : World
  pub lawful : IsLawful world
  pub limits : world.limits ≡ l
  pub read : host_read_of section world.state.host ≡ Some bytes

-- a table of these limits had so many stored events when they were folded into its base; it kept the laws before and
-- after
abbrev pub WasRebased : Limits → ℕ → Type 0
WasRebased l folded = (w : World) × (w.limits ≡ l) × IsLawful w × IsLawful (rebased w) × (folded ≡ length w.history.trace)
