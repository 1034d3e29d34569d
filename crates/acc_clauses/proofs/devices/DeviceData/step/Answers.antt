use Rattle.std.proofs.Common.{◌≡◌, ◌∙◌, sym, subst, take, length, Ok}
use Rattle.acc_base.specs.Queues.{queue_at}
use Rattle.acc_base.specs.Loans.{none_lent}
use Rattle.acc_base.specs.Waits.{stepped}
use Rattle.acc_base.specs.Limits.{Limits, limits_on}
use Rattle.acc_clauses.specs.Contents.{Numbers, beside, ArePartsSound}
use Rattle.acc_clauses.specs.Devices.{DeviceContents, device_of, state_beside}
use Rattle.acc_clauses.proofs.Making.{can_step, stepped_parts}
use Rattle.acc_clauses.proofs.Beside.{parts_of, device_sound}
use Rattle.acc_clauses.proofs.devices.DeviceData.step.Goals as goal

pub step-requires-clause-can : goal.step-requires-clause-can
step-requires-clause-can c =
    let p = c.self.inside in
    let l : Limits = limits_on p.number p.config in
    let long : length c.args.host.now ≡ l.host = subst (λ (k : DeviceContents). length c.args.host.now ≡ k.limits.host) (sym c.self.view_is) c.requires.host in
    can_step l (beside p.environment c.args.host.now) p.lent c.args.q c.self.invariant.bounds (subst (λ (k : DeviceContents). none_lent (take 1 (queue_at c.args.q k.device.records.queues)) k.device.records.loans ≡ Ok tt) (sym c.self.view_is) c.requires.free) (parts_of l p.environment p.lent c.args.host.now long c.self.invariant)

pub invariant_of-self : goal.invariant_of-self
invariant_of-self c =
    let p = c.self.inside in
    let l : Limits = limits_on p.number p.config in
    let long : length c.args.host.now ≡ l.host = subst (λ (k : DeviceContents). length c.args.host.now ≡ k.limits.host) (sym c.self.view_is) c.requires.host in
    device_sound l c.step.new.environment p.lent c.step.new.host (stepped_parts l (beside p.environment c.args.host.now) (beside c.step.new.environment c.step.new.host) p.lent c.args.q (parts_of l p.environment p.lent c.args.host.now long c.self.invariant) c.step.ensures.stepped)

pub returns-clause-state : goal.returns-clause-state
returns-clause-state c = subst (λ (k : DeviceContents). (n : Numbers) → state_beside (device_of c.step.new.environment) c.step.new.host n ≡ stepped c.args.q (state_beside k.device c.args.host.now n)) c.self.view_is (λ n. c.step.ensures.stepped.state n)

pub returns-clause-host : goal.returns-clause-host
returns-clause-host c =
    let p = c.self.inside in
    let l : Limits = limits_on p.number p.config in
    let long : length c.args.host.now ≡ l.host = subst (λ (k : DeviceContents). length c.args.host.now ≡ k.limits.host) (sym c.self.view_is) c.requires.host in
    let after : ArePartsSound l (beside c.step.new.environment c.step.new.host) p.lent = stepped_parts l (beside p.environment c.args.host.now) (beside c.step.new.environment c.step.new.host) p.lent c.args.q (parts_of l p.environment p.lent c.args.host.now long c.self.invariant) c.step.ensures.stepped in
    after.sound.memories.host ∙ sym long
