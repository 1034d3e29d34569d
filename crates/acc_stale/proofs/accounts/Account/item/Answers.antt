use Rattle.std.proofs.Common.{◌≡◌, ◌∙◌, sym, subst, List}
use Rattle.acc_base.specs.declared.attachments.Attachment.{Attachment}
use Rattle.acc_base.specs.Records.{State}
use Rattle.acc_base.specs.Transfers.{transfer_of}
use Rattle.acc_base.specs.Bytes.{step_state}
use Rattle.acc_base.specs.Pointers.{aimed}
use Rattle.acc_stale.specs.Told.{IsStepTold, IsAimTold, IsItemTold}
use Rattle.acc_stale.specs.Follows.{FollowsDevice}
use Rattle.acc_stale.proofs.Fitting.{IsEntryFit, entry_fit, IsExitFit, exit_fit}
use Rattle.acc_stale.proofs.accounts.Account.item.Goals as goal

pub returns-then-enters-clause-told : goal.returns-then-enters-clause-told
returns-then-enters-clause-told c l n s bounds sound judged follows =
    let fit : IsEntryFit l c.args.task c.args.did s = entry_fit l n c.args.task c.args.did s (sym c.enters.ensures ∙ c.if-enters.true) bounds sound judged in
    let middle : FollowsDevice c.args.device c.step.new.self (step_state c.args.task c.args.did.step s).records = subst (FollowsDevice c.args.device c.step.new.self) (sym fit.records) (c.in_ok-step.ensures.follows l s follows sound fit.step) in
    subst (λ i. IsItemTold i c.told_by.result.attached.items s) (sym c.told_by.ensures.item)
    (subst (λ (xs : List Attachment). IsItemTold (record { device = c.args.device; task = c.args.task; did = c.args.did; block = c.in_ok-step.step.block; holder = c.in_ok-holder.holder }) xs s) (sym c.told_by.ensures.attached) (record {
      step = subst (λ x. IsStepTold c.args.device c.in_ok-step.step.block c.args.task c.args.did.step c.in_ok-step.step.attached.items x) (sym fit.before_step_is) (c.in_ok-step.ensures.told l s follows sound fit.step);
      aim = subst (λ x. IsAimTold c.args.device c.in_ok-holder.holder c.args.did.aim x) (sym fit.before_aim_is) (c.in_ok-holder.ensures.told l (step_state c.args.task c.args.did.step s) middle fit.sound fit.aim);
    }))

pub returns-then-enters-clause-follows : goal.returns-then-enters-clause-follows
returns-then-enters-clause-follows c l n s bounds sound judged follows =
    let fit : IsEntryFit l c.args.task c.args.did s = entry_fit l n c.args.task c.args.did s (sym c.enters.ensures ∙ c.if-enters.true) bounds sound judged in
    let middle : FollowsDevice c.args.device c.step.new.self (step_state c.args.task c.args.did.step s).records = subst (FollowsDevice c.args.device c.step.new.self) (sym fit.records) (c.in_ok-step.ensures.follows l s follows sound fit.step) in
    subst (FollowsDevice c.args.device c.aim.new.self) (sym fit.left) (c.in_ok-holder.ensures.follows l (step_state c.args.task c.args.did.step s) middle fit.sound fit.aim)

pub returns-clause-told : goal.returns-clause-told
returns-clause-told c l n s bounds sound judged follows =
    let fit : IsExitFit l c.args.task c.args.did s = exit_fit l n c.args.task c.args.did s (sym c.enters.ensures ∙ c.if-enters.false) bounds sound judged in
    let middle : FollowsDevice c.args.device c.aim-2.new.self (aimed c.args.did.aim s).records = subst (FollowsDevice c.args.device c.aim-2.new.self) (sym fit.records) (c.in_ok-holder-2.ensures.follows l s follows sound fit.aim) in
    subst (λ i. IsItemTold i c.told_by-2.result.attached.items s) (sym c.told_by-2.ensures.item)
    (subst (λ (xs : List Attachment). IsItemTold (record { device = c.args.device; task = c.args.task; did = c.args.did; block = c.in_ok-step-2.step.block; holder = c.in_ok-holder-2.holder }) xs s) (sym c.told_by-2.ensures.attached) (record {
      step = subst (λ x. IsStepTold c.args.device c.in_ok-step-2.step.block c.args.task c.args.did.step c.in_ok-step-2.step.attached.items x) (sym fit.before_step_is) (c.in_ok-step-2.ensures.told l (aimed c.args.did.aim s) middle fit.sound fit.step);
      aim = subst (λ x. IsAimTold c.args.device c.in_ok-holder-2.holder c.args.did.aim x) (sym fit.before_aim_is) (c.in_ok-holder-2.ensures.told l s follows sound fit.aim);
    }))

pub returns-clause-follows : goal.returns-clause-follows
returns-clause-follows c l n s bounds sound judged follows =
    let fit : IsExitFit l c.args.task c.args.did s = exit_fit l n c.args.task c.args.did s (sym c.enters.ensures ∙ c.if-enters.false) bounds sound judged in
    let middle : FollowsDevice c.args.device c.aim-2.new.self (aimed c.args.did.aim s).records = subst (FollowsDevice c.args.device c.aim-2.new.self) (sym fit.records) (c.in_ok-holder-2.ensures.follows l s follows sound fit.aim) in
    subst (FollowsDevice c.args.device c.step-2.new.self) (sym fit.left) (c.in_ok-step-2.ensures.follows l (aimed c.args.did.aim s) middle fit.sound fit.step)

pub returns-then-enters-clause-transfer : goal.returns-then-enters-clause-transfer
returns-then-enters-clause-transfer c l n s bounds sound judged follows =
    let fit : IsEntryFit l c.args.task c.args.did s = entry_fit l n c.args.task c.args.did s (sym c.enters.ensures ∙ c.if-enters.true) bounds sound judged in
    c.told_by.ensures.transfer ∙ subst (λ (x : State). c.in_ok-step.step.transfer ≡ transfer_of c.args.task c.args.did.step x.records.ranges) (sym fit.before_step_is) (c.in_ok-step.ensures.transfer l s follows sound fit.step)

pub returns-clause-transfer : goal.returns-clause-transfer
returns-clause-transfer c l n s bounds sound judged follows =
    let fit : IsExitFit l c.args.task c.args.did s = exit_fit l n c.args.task c.args.did s (sym c.enters.ensures ∙ c.if-enters.false) bounds sound judged in
    let middle : FollowsDevice c.args.device c.aim-2.new.self (aimed c.args.did.aim s).records = subst (FollowsDevice c.args.device c.aim-2.new.self) (sym fit.records) (c.in_ok-holder-2.ensures.follows l s follows sound fit.aim) in
    c.told_by-2.ensures.transfer ∙ subst (λ (x : State). c.in_ok-step-2.step.transfer ≡ transfer_of c.args.task c.args.did.step x.records.ranges) (sym fit.before_step_is) (c.in_ok-step-2.ensures.transfer l (aimed c.args.did.aim s) middle fit.sound fit.step)
