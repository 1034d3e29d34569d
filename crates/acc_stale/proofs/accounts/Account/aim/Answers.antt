use Rattle.std.proofs.Common.{◌≡◌, Some, None, rules}
use Rattle.acc_stale.specs.declared.items.Holder.{Holder}
use Rattle.acc_stale.specs.Tells.{placed_at, pointer_held}
use Rattle.acc_stale.proofs.Aiming.{IsAiming, aim_lost, aiming_of, aim_told, aim_follows, recount_others}
use Rattle.acc_stale.proofs.accounts.Account.aim.Goals as goal

pub returns-in_default-placed-clause-told : goal.returns-in_default-placed-clause-told
returns-in_default-placed-clause-told c l s follows sound fit =
    let held : pointer_held c.args.aim ≡ Some (c.in-Some.pointer, c.in-Some.block) = search rules in
    let none : placed_at c.args.device c.in-Some.block c.args.self.now ≡ None = search rules in
    absurd (aim_lost l c.args.device c.in-Some.pointer c.in-Some.block c.args.aim c.args.self.now s held none follows sound fit)

pub returns-in_default-placed-clause-follows : goal.returns-in_default-placed-clause-follows
returns-in_default-placed-clause-follows c l s follows sound fit =
    let held : pointer_held c.args.aim ≡ Some (c.in-Some.pointer, c.in-Some.block) = search rules in
    let none : placed_at c.args.device c.in-Some.block c.args.self.now ≡ None = search rules in
    absurd (aim_lost l c.args.device c.in-Some.pointer c.in-Some.block c.args.aim c.args.self.now s held none follows sound fit)

pub returns-clause-told : goal.returns-clause-told
returns-clause-told c l s follows sound fit =
    let held : pointer_held c.args.aim ≡ Some (c.in-Some.pointer, c.in-Some.block) = search rules in
    let there : placed_at c.args.device c.in-Some.block c.args.self.now ≡ Some c.in-Some-placed.placed = search rules in
    let h : Holder = record { placed = c.in-Some-placed.placed; count = c.count-count.result } in
    aim_told c.args.device c.in-Some.pointer c.in-Some.block c.args.aim h s held (aiming_of l c.args.device c.in-Some.pointer c.in-Some.block c.args.aim c.args.self.now s h held there c.count-count.ensures follows sound fit)

pub returns-clause-follows : goal.returns-clause-follows
returns-clause-follows c l s follows sound fit =
    let held : pointer_held c.args.aim ≡ Some (c.in-Some.pointer, c.in-Some.block) = search rules in
    let there : placed_at c.args.device c.in-Some.block c.args.self.now ≡ Some c.in-Some-placed.placed = search rules in
    let h : Holder = record { placed = c.in-Some-placed.placed; count = c.count-count.result } in
    let aiming : IsAiming c.args.device c.in-Some.pointer c.in-Some.block h s = aiming_of l c.args.device c.in-Some.pointer c.in-Some.block c.args.aim c.args.self.now s h held there c.count-count.ensures follows sound fit in
    aim_follows c.args.device c.in-Some.pointer c.in-Some.block c.count_left.result c.args.aim c.args.self.now c.attach.new.self h s held c.count_left.ensures c.in_ok-attach.ensures.ok aiming follows sound.attached.rising fit

pub returns-clause-others : goal.returns-clause-others
returns-clause-others c = recount_others c.args.device c.in-Some.block c.in-Some.pointer c.count_left.result c.args.self.now c.attach.new.self c.in_ok-attach.ensures.ok
