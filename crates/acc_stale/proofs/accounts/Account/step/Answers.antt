use Rattle.std.proofs.Common.{◌≡◌}
use Rattle.acc_base.specs.Transfers.{transfer_of}
use Rattle.acc_base.specs.Tasks.{section_of}
use Rattle.acc_stale.specs.Tells.{IsStepKept}
use Rattle.acc_stale.proofs.Telling.{step_told, starts_told, step_follows, step_waits, step_others}
use Rattle.acc_stale.proofs.accounts.Account.step.Goals as goal

pub returns-clause-told : goal.returns-clause-told
returns-clause-told c l s follows sound fit =
    step_told l c.args.device c.args.task c.args.step c.args.self.now s c.in_ok-block.block c.in_ok-block.attached.items c.in_ok-block.ensures.told c.in_ok-block.ensures.attached follows sound fit

pub returns-clause-transfer : goal.returns-clause-transfer
returns-clause-transfer c l s follows sound fit =
    c.transfer_in-transfer.ensures s.records.ranges (starts_told l c.args.device (section_of c.args.task) c.args.step c.args.self.now s c.in_ok-block.block c.in_ok-block.ensures.told follows sound fit)

pub returns-clause-follows : goal.returns-clause-follows
returns-clause-follows c l s follows sound fit =
    let kept : IsStepKept c.args.device c.args.task c.args.line c.args.step c.args.self.now c.place.new.self = c.in_ok-block.ensures.kept in
    let transfer : c.transfer_in-transfer.result ≡ transfer_of c.args.task c.args.step s.records.ranges = c.transfer_in-transfer.ensures s.records.ranges (starts_told l c.args.device (section_of c.args.task) c.args.step c.args.self.now s c.in_ok-block.block c.in_ok-block.ensures.told follows sound fit) in
    step_follows l c.args.device c.args.line c.args.task c.args.step c.args.self.now c.place.new.self c.keep.new.self c.transfer_in-transfer.result s kept (step_waits _ _ _ c.args.step _ _ kept) c.in_ok-keep.ensures.blocks (rw (← c.queue.ensures) c.in_ok-keep.ensures.ok) transfer follows sound fit

pub returns-clause-others : goal.returns-clause-others
returns-clause-others c =
    let kept : IsStepKept c.args.device c.args.task c.args.line c.args.step c.args.self.now c.place.new.self = c.in_ok-block.ensures.kept in
    step_others c.args.device c.args.line c.args.task c.args.step c.args.self.now c.place.new.self c.keep.new.self c.transfer_in-transfer.result kept (step_waits _ _ _ c.args.step _ _ kept) c.in_ok-keep.ensures.blocks (rw (← c.queue.ensures) c.in_ok-keep.ensures.ok)
