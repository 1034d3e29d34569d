use Rattle.std.proofs.Common.{◌≡◌, ◌<◌, ◌^◌, ◌∙◌, sym, ap, subst, arith}
use Rattle.acc_base.specs.Limits.{Limits}
use Rattle.acc_base.specs.Records.{State}
use Rattle.acc_base.specs.Acting.{act_all_state}
use Rattle.acc_base.specs.Judge.{verdict_of}
use Rattle.acc_base.proofs.Walked.{register-act_all_state}
use Rattle.acc_clauses.specs.Contents.{Contents, Numbers}
use Rattle.acc_clauses.specs.Devices.{SharedContents, HaveRisen, state_beside, contents_beside, contents_with}
use Rattle.acc_clauses.specs.Stored.{AreContentsSound}
use Rattle.acc_clauses.specs.Overlays.{dids_in}
use Rattle.acc_clauses.specs.Planned.{IsPlanOf, finished, state_by}
use Rattle.acc_clauses.proofs.AfterPlan.{finished_verdict}
use Rattle.acc_clauses.proofs.Events.{planned_judged}
use Rattle.acc_clauses.proofs.Committing.{plan_known, plan_can, plan_sound}
use Rattle.acc_clauses.proofs.devices.DeviceData.commit.Goals.{After-places, After-act_all}
use Rattle.acc_clauses.proofs.devices.DeviceData.commit.Goals as goal

-- what is shared, as it was
abbrev shared : After-places → SharedContents
shared c = record { host = c.shared.inside.host; numbers = record { region = c.shared.inside.next_region; serial = c.shared.inside.next_serial } }

-- the device as it was, beside that
abbrev before : After-places → Contents
before c = contents_with c.args.self.now (shared c)

sound : (c : After-places) → AreContentsSound (before c)
sound c = subst (λ (s : SharedContents). AreContentsSound (contents_with c.args.self.now s)) (sym c.shared.view_is) c.requires.sound

planned : (c : After-places) → IsPlanOf (before c).limits c.args.directive.now (before c).state c.args.plan.now
planned c = subst (λ (s : SharedContents). IsPlanOf c.args.self.now.limits c.args.directive.now (contents_with c.args.self.now s).state c.args.plan.now) (sym c.shared.view_is) c.requires.planned

next : (c : After-places) → c.shared.inside.next_region < 2 ^ 48
next c = subst (λ (s : SharedContents). s.numbers.region < 2 ^ 48) (sym c.shared.view_is) c.requires.next

-- its tasks have acted
acted : (c : After-act_all) (n : Numbers) → state_beside c.act_all.new.device.device c.act_all.new.host n ≡ act_all_state c.args.plan.now.tasks c.args.plan.now.dids (state_beside c.args.self.now.device c.shared.inside.host n)
acted c n =
    let old : State = state_beside c.args.self.now.device c.shared.inside.host n in
    c.act_all.ensures.state n ∙ ap (λ ts. act_all_state ts (dids_in c.acts.result.now) old) c.acts.ensures.tasks ∙ ap (λ ds. act_all_state c.args.plan.now.tasks ds old) c.acts.ensures.dids

pub act_all-requires-clause-host : goal.act_all-requires-clause-host
act_all-requires-clause-host c = (sound c).sound.memories_sized.host

pub act_all-requires-clause-judged : goal.act_all-requires-clause-judged
act_all-requires-clause-judged c = rw (c.acts.ensures.tasks, c.acts.ensures.dids) (planned_judged _ _ _ _ (planned c))

pub act_all-requires-clause-known : goal.act_all-requires-clause-known
act_all-requires-clause-known c = rw (c.acts.ensures.tasks, c.acts.ensures.dids) (plan_known c.args.directive.now (before c) c.args.plan.now c.laws.ensures.limits (sound c) (planned c))

pub finish-requires-clause-can : goal.finish-requires-clause-can
finish-requires-clause-can c =
    let s = (goal.at.finish-requires-clause-can c).After-places in
    let n : Numbers = (shared s).numbers in
    let a = acted (goal.at.finish-requires-clause-can c).After-act_all n in (
      n.serial,
      plan_can c.args.directive.now (before s) (contents_beside c.act_all.new.device c.act_all.new.host n) c.args.plan.now (sound s) (planned s) (next s) c.requires.room.region a
          (ap (λ (x : State). x.register) a ∙ register-act_all_state c.args.plan.now.tasks c.args.plan.now.dids (before s).state) c.act_all.ensures.room_regions c.act_all.ensures.room_holdings,
    )

pub returns-clause-state : goal.returns-clause-state
returns-clause-state c =
    let t = (goal.at.returns-clause-state c).After-places in
    let d = c.args.directive.now in
    let p = c.args.plan.now in
    let l : Limits = c.args.self.now.limits in
    let n : Numbers = (shared t).numbers in
    subst (λ (s : SharedContents). let o : State = (contents_with c.args.self.now s).state in state_beside c.finish.new.device.device c.finish.new.host (record { region = c.finish.new.next_region; serial = n.serial }) ≡ state_by l.full (verdict_of l.number d o p.dids) o) c.shared.view_is
    (c.finish.ensures.state n.serial ∙ ap (finished d p) (acted (goal.at.returns-clause-state c).After-act_all n) ∙ finished_verdict l l.number d (before t).state p (planned t))

pub returns-clause-sound : goal.returns-clause-sound
returns-clause-sound c =
    let t = (goal.at.returns-clause-sound c).After-places in
    let n : Numbers = (shared t).numbers in
    plan_sound c.args.directive.now (before t) (contents_beside c.finish.new.device c.finish.new.host (record { region = c.finish.new.next_region; serial = n.serial })) c.args.plan.now c.laws.ensures.limits (sound t) (planned t)
    (c.finish.ensures.limits ∙ c.act_all.ensures.limits) (c.finish.ensures.state n.serial ∙ ap (finished c.args.directive.now c.args.plan.now) (acted (goal.at.returns-clause-sound c).After-act_all n)) c.laws-2.ensures.used

pub returns-clause-risen : goal.returns-clause-risen
returns-clause-risen c =
    let after : SharedContents = record { host = c.finish.new.host; numbers = record { region = c.finish.new.next_region; serial = c.shared.inside.next_serial } } in
    subst (λ (s : SharedContents). HaveRisen s after) c.shared.view_is (record { host = c.finish.ensures.host ∙ c.act_all.ensures.host; region = c.finish.ensures.rises; serial = omega arith })
