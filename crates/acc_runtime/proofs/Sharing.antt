-- What is known of a call once the lock is free again.
use Rattle.std.proofs.Common.{ℕ, ◌≡◌, ap, sym, subst, length, Result, Ok, Err}
use Rattle.std.specs.Prelude.{IfOk, OnOk}
use Rattle.acc_base.specs.declared.calls.Call.{Call}
use Rattle.acc_base.specs.Limits.{Limits}
use Rattle.acc_base.specs.Loans.{Leased}
use Rattle.acc_base.specs.Calls.{History, World, rebased}
use Rattle.acc_table.specs.declared.calls.Reply.{Reply}
use Rattle.acc_table.specs.Laws.{IsLawful}
use Rattle.acc_runtime.specs.Shares.{Shares}
use Rattle.acc_runtime.specs.Acts.{IsActed}
use Rattle.acc_runtime.specs.Books.{IsSettled}
use Rattle.acc_runtime.specs.Shared.{WasAccepted, WasRebased}

pub was_accepted : {E : Type 0} (l : Limits) (r : Result Reply E) (p q : Shares) (w v : World) (call : Call Leased) → IsLawful w → w.limits ≡ l → IsLawful v → v.limits ≡ l
    → IfOk r (λ reply. IsActed p w call reply q v) → IfOk r (λ reply. WasAccepted l p call reply q)
was_accepted l (Ok reply) p q w v call lawful limits still kept acted = record { before = w; next = v; lawful = lawful; limits = limits; still = still; kept = kept; acted = acted }
was_accepted l (Err back) p q w v call lawful limits still kept acted = tt

pub was_rebased : {E : Type 0} (l : Limits) (r : Result History E) (w v : World) → IsLawful w → w.limits ≡ l → IsLawful v → IfOk r (λ folded. folded ≡ w.history) → OnOk r (v ≡ rebased w)
    → IfOk r (λ folded. WasRebased l (length folded.trace))
was_rebased l (Ok folded) w v lawful limits still is same = (w, limits, lawful, subst IsLawful same still, ap (λ (h : History). length h.trace) is)
was_rebased l (Err fault) w v lawful limits still is same = tt

-- what a table's limits are called
pub settled_as : (l k : Limits) (regions tickets : ℕ) (p : Shares) (w : World) → l ≡ k → IsSettled k regions tickets p w → IsSettled l regions tickets p w
settled_as l k regions tickets p w same settled = subst (λ (x : Limits). IsSettled x regions tickets p w) (sym same) settled
