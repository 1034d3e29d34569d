use Rattle.std.proofs.Common.{◌≡◌, ◌∙◌, ℕ, ◌<◌, ◌+◌, List, length, take, refl, sym, ap, subst, arith}
use Rattle.acc_base.specs.declared.events.Did.{Did}
use Rattle.acc_base.specs.declared.tasks.Task.{Task}
use Rattle.acc_base.specs.Walk.{asked_in, done_in}
use Rattle.acc_base.specs.Devices.{device_in}
use Rattle.acc_stale.specs.declared.trackers.Tracker.{Tracker}
use Rattle.acc_stale.specs.Accounts.{act_at, asked_by}
use Rattle.acc_stale.specs.Tells.{AreActed, LeavesOthers}
use Rattle.acc_stale.proofs.Draining.{others_then}
use Rattle.acc_stale.proofs.Turning.{none_acted, act_turn, no_act, all_acted, IsOneActed}
use Rattle.acc_stale.proofs.Leaving.{asks, asks_kept, all_made, as_many_done}
use Rattle.acc_stale.proofs.trackers.Tracker.items.Goals.{in-Some+in_ok-acted, in_default}
use Rattle.acc_stale.proofs.trackers.Tracker.items.Goals as goal

pub loop-nth-init : goal.loop-nth-init
loop-nth-init g c = record { acted = λ k s ev follows. none_acted (device_in c.args.event.now) s c.args.self.now follows.device; others = λ e w other follows. follows; regions = refl }

pub loop-nth-preserved : goal.loop-nth-preserved
loop-nth-preserved g c =
    let e = c.args.event.now in
    let d : ℕ = device_in e in
    record {
      acted = λ k s ev follows.
          let asked : asked_by e c.loop-nth.self.account ≡ asked_in e s.register = asks_kept e c.args.self.now.account c.loop-nth.self.account c.loop-nth.invariant.regions ∙ asks k e s c.args.self.now.account ev follows in
          let low : c.loop-nth.nth < length (done_in e) = subst (λ (n : ℕ). c.loop-nth.nth < n) (ap (λ (ds : List Did). length ds) c.did-nth-end.ensures ∙ sym (as_many_done e)) c.loop-nth-test.true in
          elim c.match-act.branch [
            | in-Some+in_ok-acted w ↦
                let one : IsOneActed c.device-device.result w.in-Some.task w.in-Some.did c.loop-nth.self w.acted.new.self = λ l n v b so j f. (w.in_ok-acted.ensures.known l n v b so j f, w.in_ok-acted.ensures.follows l n v b so j f) in
                subst (λ (z : Tracker). AreActed d (take (c.loop-nth.nth + 1) (asked_in e s.register)) (take (c.loop-nth.nth + 1) (done_in e)) s c.args.self.now z) (sym w.self-is)
                (act_turn k d c.loop-nth.nth w.in-Some.task w.in-Some.did (asked_in e s.register) (done_in e) s c.args.self.now c.loop-nth.self w.acted.new.self ev.bounds ev.sound (all_made k e s ev)
                (sym (ap (λ (ts : List Task). act_at c.loop-nth.nth ts (done_in e)) asked) ∙ sym c.act.ensures ∙ w.in-Some.is) (c.loop-nth.invariant.acted k s ev follows)
                (subst (λ (n : ℕ). IsOneActed n w.in-Some.task w.in-Some.did c.loop-nth.self w.acted.new.self) c.device-device.ensures one))
            | in_default w ↦ absurd (no_act k c.loop-nth.nth (asked_in e s.register) (done_in e) s (all_made k e s ev) low (sym (ap (λ (ts : List Task). act_at c.loop-nth.nth ts (done_in e)) asked) ∙ sym c.act.ensures ∙ w.in_default.is))
          ];
      others =
          elim c.match-act.branch [
            | in-Some+in_ok-acted w ↦
                subst (λ (z : Tracker). LeavesOthers d c.args.self.now.account z.account) (sym w.self-is)
                (others_then d c.args.self.now.account c.loop-nth.self.account w.acted.new.self.account c.loop-nth.invariant.others (subst (λ (n : ℕ). LeavesOthers n c.loop-nth.self.account w.acted.new.self.account) c.device-device.ensures w.in_ok-acted.ensures.others))
            | in_default w ↦ subst (λ (z : Tracker). LeavesOthers d c.args.self.now.account z.account) (sym w.self-is) c.loop-nth.invariant.others
          ];
      regions =
          elim c.match-act.branch [
            | in-Some+in_ok-acted w ↦ ap (λ (z : Tracker). z.account.regions) w.self-is ∙ w.in_ok-acted.ensures.regions ∙ c.loop-nth.invariant.regions
            | in_default w ↦ ap (λ (z : Tracker). z.account.regions) w.self-is ∙ c.loop-nth.invariant.regions
          ];
    }

pub returns-clause-acted : goal.returns-clause-acted
returns-clause-acted g c l s ev follows =
    let e = c.args.event.now in
    let end : c.loop-nth.nth ≡ length (done_in e) = grind (arith, c.loop-nth.auto.nth-end, c.loop-nth-test.false) ∙ ap (λ (ds : List Did). length ds) c.did-nth-end.ensures ∙ sym (as_many_done e) in
    all_acted l (device_in e) c.loop-nth.nth (asked_in e s.register) (done_in e) s c.args.self.now c.loop-nth.self (all_made l e s ev) end (c.loop-nth.invariant.acted l s ev follows)
