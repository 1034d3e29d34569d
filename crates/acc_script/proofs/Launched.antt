-- A kernel, from the call for its loan to the call that brings the loan back.
use Rattle.std.proofs.Common.{◌≡◌, ℕ, List, Option, Some, None, Result, Ok, Err, refl, sym, ap, ◌∙◌, inl, inr, false}
use Rattle.std.specs.Prelude.{MatchResult, IfSome, option_map, is_none}
use Rattle.acc_base.specs.declared.items.Section.{Section}
use Rattle.acc_base.specs.declared.calls.Call.{Call}
use Rattle.acc_base.specs.declared.calls.Call.TheVariants.{Lend}
use Rattle.acc_base.specs.declared.events.Event.{Event}
use Rattle.acc_base.specs.declared.events.Event.TheVariants.{Lent}
use Rattle.acc_base.specs.declared.faults.Fault.{Fault}
use Rattle.acc_base.specs.declared.faults.Fault.TheVariants.{Memory}
use Rattle.acc_base.specs.Loans.{Leased}
use Rattle.acc_base.specs.Waits.{drained}
use Rattle.acc_base.specs.Acting.{act_all_state, after}
use Rattle.acc_base.specs.Judge.{Verdict, Makes, Idle}
use Rattle.acc_base.specs.Calls.{World, judge, world_after}
use Rattle.acc_read.specs.declared.kernels.ScriptKernel.{ScriptKernel}
use Rattle.acc_read.specs.Statements.{Kernel}
use Rattle.acc_table.specs.declared.calls.Reply.TheVariants.{Lease}
use Rattle.acc_table.specs.Calls.{reply_in, IsCarriedOut, IsDone, IsRefusal}
use Rattle.acc_table.specs.Queries.{host_read_of}
use Rattle.acc_script.specs.declared.print.effects.Effect.{Effect}
use Rattle.acc_script.specs.Kernels.{source_of}
use Rattle.acc_script.specs.Scripts.{SessionState, session_after, back_from}
use Rattle.acc_script.specs.Sessions.{CallsFor, Performs, refusal_of}
use Rattle.acc_script.proofs.Accepted.{memory_accepted}
use Rattle.acc_script.proofs.Refused.{refused_by}

-- an event that hands out a lease leaves host memory alone
host_kept : (call : Call Leased) (e : Event) (w : World) (lease : Leased) → Lease lease ≡ reply_in e w
    → (world_after call e w).state.host ≡ w.state.host
unfolding world_after after act_all_state drained
host_kept call (Lent device region section block serial) w lease h = refl
host_kept call _ w lease h = absurd cc

-- the bytes that were found in host memory
pub found_bytes : {A : Type 0} (view : A → List ℕ) (found : Option A) (told : Option (List ℕ))
    → option_map view found ≡ told → is_none found ≡ false → (src : List ℕ) × (told ≡ Some src)
found_bytes view None told e some = absurd cc
found_bytes view (Some x) told e some = (view x, sym e)

module _ (old new : SessionState) (region : ℕ) (kernel : ScriptKernel) (over : Section) (src : List ℕ) (read : host_read_of (source_of kernel) old.world.state.host ≡ Some src) where
  -- the loan was refused, or there was no memory for it
  pub launch_refused : (fault : Fault) → IsRefusal old.world (Lend region over) fault → new ≡ old
      → Performs old (Kernel region kernel over) new (refusal_of fault)
  launch_refused fault refusal same = by fault refusal
    where
      by : (f : Fault) → IsRefusal old.world (Lend region over) f
          → Performs old (Kernel region kernel over) new (refusal_of f)
      by Memory h = (refl, (rw read (memory_accepted old.world (Lend region over) h), inl same))
      by f h = rw (read, refused_by old.world (Lend region over) f (λ e. absurd cc) h, same) refl

  module _ (mid : World) (lease : Leased) where
    -- the loan was made, and the block was brought back or that was refused
    pub launch_done : (result : Result Effect Fault) → IsDone old.world (Lend region over) (Lease lease) mid
        → IfSome (host_read_of (source_of kernel) mid.state.host)
        (λ src. CallsFor (record { world = mid; layout = old.layout; device = old.device }) (back_from kernel src lease) new result)
        → Performs old (Kernel region kernel over) new result
    launch_done result done back = by (judge old.world (Lend region over)) refl done
      where
        made : (e : Event) → judge old.world (Lend region over) ≡ Ok (Makes e)
            → Lease lease ≡ reply_in e old.world → mid ≡ world_after (Lend region over) e old.world
            → Performs old (Kernel region kernel over) new result
        made e is replied now =
            let kept : mid.state.host ≡ old.world.state.host = ap (λ (w : World). w.state.host) now ∙ host_kept (Lend region over) e old.world lease replied in
            let there : host_read_of (source_of kernel) mid.state.host ≡ Some src = ap (host_read_of (source_of kernel)) kept ∙ read in
            told result (rw there at back)
          where
            told : (r : Result Effect Fault)
                → CallsFor (record { world = mid; layout = old.layout; device = old.device }) (back_from kernel src lease) new r
                → Performs old (Kernel region kernel over) new r
            told (Ok effect) h = rw (read, is, ← replied, ← now) h
            told (Err fault) h =
                let lent : new ≡ session_after (Lend region over) e old = h.2 ∙ ap (λ (w : World). record { world = w; layout = old.layout; device = old.device }) now in
                (h.0, (rw (read, is) refl, inr (e, is, lent)))

        by : (r : Result Verdict Fault) → judge old.world (Lend region over) ≡ r
            → MatchResult r (λ verdict. IsCarriedOut old.world (Lend region over) verdict (Lease lease) mid)
            (λ fault. ⊥) → Performs old (Kernel region kernel over) new result
        by (Ok (Makes e)) is h = made e is h.0 h.1
        by (Ok Idle) is h = absurd cc
        by (Err fault) is h = absurd h
