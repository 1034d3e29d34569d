use Rattle.std.proofs.Common.{◌≡◌, ◌<◌, ◌≤◌, ◌^◌, ◌∙◌, sym, subst, length, arith}
use Rattle.acc_base.specs.Acting.{act_state}
use Rattle.acc_base.specs.Limits.{Limits, limits_on}
use Rattle.acc_clauses.specs.Contents.{Numbers, beside, ArePartsSound}
use Rattle.acc_clauses.specs.Devices.{DeviceContents, device_of, state_beside}
use Rattle.acc_clauses.specs.Overlays.{puts_by}
use Rattle.acc_clauses.specs.Acts.{IsJudged, IsKnown, HasRoomFor, HasPutRoom, birth_of, pointers_of}
use Rattle.acc_clauses.proofs.Ready.{can_do, parts_sound}
use Rattle.acc_clauses.proofs.Beside.{parts_of, device_sound}
use Rattle.acc_clauses.proofs.devices.DeviceData.act.Goals as goal

pub act_on-requires-clause-can : goal.act_on-requires-clause-can
act_on-requires-clause-can c =
    let p = c.self.inside in
    let l : Limits = limits_on p.number p.config in
    let long : length c.args.host.now ≡ l.host = subst (λ (k : DeviceContents). length c.args.host.now ≡ k.limits.host) (sym c.self.view_is) c.requires.host in
    can_do l (beside p.environment c.args.host.now) p.lent c.args.x.now.task c.args.x.now.did c.self.invariant.bounds (parts_of l p.environment p.lent c.args.host.now long c.self.invariant)
    (subst (λ (k : DeviceContents). k.device.records.births < 2 ^ 48) (sym c.self.view_is) c.requires.births)
    (subst (λ (k : DeviceContents). IsKnown k.device.records c.args.x.now.task) (sym c.self.view_is) c.requires.known)
    (subst (λ (k : DeviceContents). IsJudged k.limits c.args.x.now.task c.args.x.now.did k.device.records) (sym c.self.view_is) c.requires.judged)

pub act_on-requires-clause-room : goal.act_on-requires-clause-room
act_on-requires-clause-room c = subst (λ (k : DeviceContents). HasRoomFor (birth_of c.args.x.now.task c.args.x.now.did.step) k.room) (sym c.self.view_is) c.requires.room

pub act_on-requires-clause-pointers : goal.act_on-requires-clause-pointers
act_on-requires-clause-pointers c = subst (λ (k : DeviceContents). pointers_of c.args.x.now.did.aim ≤ k.room.attachments) (sym c.self.view_is) c.requires.pointers

pub act_on-requires-clause-puts : goal.act_on-requires-clause-puts
act_on-requires-clause-puts c = subst (λ (k : DeviceContents). HasPutRoom (λ q. puts_by q c.args.x.now.task c.args.x.now.did.step) k.room) (sym c.self.view_is) c.requires.puts

pub invariant_of-self : goal.invariant_of-self
invariant_of-self c =
    let p = c.self.inside in
    let l : Limits = limits_on p.number p.config in
    let long : length c.args.host.now ≡ l.host = subst (λ (k : DeviceContents). length c.args.host.now ≡ k.limits.host) (sym c.self.view_is) c.requires.host in
    device_sound l c.act_on.new.environment p.lent c.act_on.new.host (parts_sound l (beside p.environment c.args.host.now) (beside c.act_on.new.environment c.act_on.new.host) p.lent c.args.x.now.task c.args.x.now.did (parts_of l p.environment p.lent c.args.host.now long c.self.invariant)
    (subst (λ (k : DeviceContents). IsJudged k.limits c.args.x.now.task c.args.x.now.did k.device.records) (sym c.self.view_is) c.requires.judged) c.act_on.ensures.done)

pub returns-clause-state : goal.returns-clause-state
returns-clause-state c = subst (λ (k : DeviceContents). (n : Numbers) → state_beside (device_of c.act_on.new.environment) c.act_on.new.host n ≡ act_state c.args.x.now.task c.args.x.now.did (state_beside k.device c.args.host.now n)) c.self.view_is (λ n. c.act_on.ensures.done.state n)

pub returns-clause-host : goal.returns-clause-host
returns-clause-host c =
    let p = c.self.inside in
    let l : Limits = limits_on p.number p.config in
    let long : length c.args.host.now ≡ l.host = subst (λ (k : DeviceContents). length c.args.host.now ≡ k.limits.host) (sym c.self.view_is) c.requires.host in
    let after : ArePartsSound l (beside c.act_on.new.environment c.act_on.new.host) p.lent = parts_sound l (beside p.environment c.args.host.now) (beside c.act_on.new.environment c.act_on.new.host) p.lent c.args.x.now.task c.args.x.now.did (parts_of l p.environment p.lent c.args.host.now long c.self.invariant)
    (subst (λ (k : DeviceContents). IsJudged k.limits c.args.x.now.task c.args.x.now.did k.device.records) (sym c.self.view_is) c.requires.judged) c.act_on.ensures.done in
    after.sound.memories.host ∙ sym long

pub returns-clause-room : goal.returns-clause-room
returns-clause-room c = grind (arith)
