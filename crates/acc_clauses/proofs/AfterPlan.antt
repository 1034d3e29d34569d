-- What a planned directive makes of a device: the state after its event, and that it is sound.
use Rattle.std.proofs.lemmas.Bool.Decides.{nat_tests}
use Rattle.std.proofs.Common.{◌<◌, ◌≡◌, ◌≤◌, refl, sym, subst, ℕ, Bool, List, [], arith, length}
use Rattle.acc_clauses.specs.Words.{Directive, Event}
use Rattle.acc_base.specs.Limits.{Limits, IsWithinBounds}
use Rattle.acc_base.specs.Records.{Layout, State, layout_of}
use Rattle.acc_base.specs.Ranges.{structured_of, dynamic_of}
use Rattle.acc_base.specs.Blocks.{used_bytes}
use Rattle.acc_base.specs.Walk.{register_after, walk}
use Rattle.acc_base.specs.Judge.{Verdict, Makes, Idle, verdict_of}
use Rattle.acc_base.specs.Acting.{act_all_state, after}
use Rattle.acc_base.specs.History.{IsLegal}
use Rattle.acc_base.specs.Accounts.{IsLayoutSound, IsSound}
use Rattle.acc_base.proofs.Memories.{AreBrought, event_sized}
use Rattle.acc_base.proofs.Walked.{layout-after, register-act_all_state}
use Rattle.acc_base.proofs.Registers.{AreFew, register_sound}
use Rattle.acc_base.proofs.Told.{IsTold, walk_told}
use Rattle.acc_clauses.specs.Planned.{Planned, IsPlanOf, finished, state_by}
use Rattle.acc_clauses.specs.Contents.{Contents}
use Rattle.acc_clauses.specs.Stored.{AreContentsSound, AreHoldingsWithin}
use Rattle.acc_clauses.proofs.Events.{IsEventOf, event_of_plan, idle_plan}

-- ---- the state

-- the state after the event of a plan is that after its tasks, and then its queues and its register
pub after_plan : (full : Bool) (d : Directive) (p : Planned) (s : State) (e : Event) → IsEventOf d p s e → after full e [] s ≡ finished d p (act_all_state p.tasks p.dids s)
unfolding after
after_plan full d p s e is = grind (arith, nat_tests, register-act_all_state)

-- it is the state after the verdict on the directive
pub finished_verdict : (l : Limits) (n : ℕ) (d : Directive) (s : State) (p : Planned) → IsPlanOf l d s p → finished d p (act_all_state p.tasks p.dids s) ≡ state_by l.full (verdict_of n d s p.dids) s
finished_verdict l n d s p h = go (verdict_of n d s p.dids) refl
  where
    go : (v : Verdict) → verdict_of n d s p.dids ≡ v → finished d p (act_all_state p.tasks p.dids s) ≡ state_by l.full v s
    go (Makes e) made = sym (after_plan l.full d p s e (event_of_plan l n d s p e h made))
    go Idle idle = idle_plan l n d s p h idle

-- ---- the layout

-- a layout that is sound agrees with its own counters
told_now : (l : Limits) (lay : Layout) → IsLayoutSound l lay → IsTold l lay (λ b. structured_of b lay.records.ranges) (λ b. 0) (λ b. dynamic_of b lay.records.ranges)
told_now l lay h = grind (arith, nat_tests)

-- a legal event keeps a layout sound, if no region holds too much after it
pub layout_kept : (l : Limits) (e : Event) (lay : Layout) → IsWithinBounds l → IsLayoutSound l lay → IsLegal l e lay → AreFew (register_after e lay.register) → IsLayoutSound l (walk e lay)
unfolding walk
layout_kept l e lay bounds h legal few =
    let kept : IsTold l (walk e lay) _ _ _ = walk_told l e lay (λ b. structured_of b lay.records.ranges) (λ b. 0) (λ b. dynamic_of b lay.records.ranges) bounds (told_now l lay h) legal in
    record { records = kept.sound; register = register_sound (register_after e lay.register) kept.numbered few; held = kept.held }

-- a device is sound after a legal event
pub event_sound : (l : Limits) (e : Event) (brought : List ℕ) (c f : Contents) → IsWithinBounds l → c.limits ≡ l → f.limits ≡ l → AreContentsSound c → IsLegal l e (layout_of c.state) → AreBrought e brought c.state.records → f.state ≡ after l.full e brought c.state
    → AreFew (register_after e c.state.register) → length f.state.records.loans < f.state.register.serial → used_bytes f.state.records.blocks ≤ l.device → AreHoldingsWithin f.state.records f.state.register.regions → AreContentsSound f
event_sound l e brought c f bounds cl fl h legal fits is few lent used within =
    let before : IsSound l c.state = subst (λ (m : Limits). IsSound m c.state) cl h.sound in
    let layout : IsLayoutSound l (layout_of (after l.full e brought c.state)) = subst (IsLayoutSound l) (sym (layout-after l.full e brought c.state)) (layout_kept l e (layout_of c.state) bounds before.layout legal few) in
    record {
      sound = subst (λ (m : Limits). IsSound m f.state) (sym fl) (record {
        layout = subst (λ (s : State). IsLayoutSound l (layout_of s)) (sym is) layout;
        bytes_accounted = used;
        memories_sized = rw is (event_sized l l.full e brought c.state fits before.memories_sized);
      });
      few = lent;
      holdings = within;
    }
