use Rattle.std.proofs.Common.{◌≡◌, ◌<◌, sym, subst, List, length}
use Rattle.std.specs.Prelude.{slice_index_or}
use Rattle.acc_clauses.specs.Devices.{DeviceContents}
use Rattle.acc_table.proofs.AllDevices.{seen_there}
use Rattle.acc_table.proofs.devices.Devices.view.Goals.{In_ok-get}
use Rattle.acc_table.proofs.devices.Devices.view.Goals as goal

there : (c : In_ok-get) → c.args.device < length c.args.self.now.each.items
there c = subst (λ (xs : List DeviceContents). c.args.device < length xs) c.deref.ensures.value c.in_ok-get.ensures.lookup.3.0

at : (c : In_ok-get) → c.in_ok-get.field-0.now ≡ slice_index_or c.args.self.now.each.items c.args.device c.in_ok-get.field-0.now
at c = subst (λ (xs : List DeviceContents). c.in_ok-get.field-0.now ≡ slice_index_or xs c.args.device c.in_ok-get.field-0.now) c.deref.ensures.value c.in_ok-get.ensures.lookup.1

pub view-requires : goal.view-requires
view-requires c =
    let s = (goal.at.view-requires c).In_ok-get in
    subst (λ (y : DeviceContents). length c.args.self.now.shared.host ≡ y.limits.host) (sym (at s)) (c.requires.1.each c.args.device c.in_ok-get.field-0.now (there s)).sound.sound.memories_sized.host

pub returns-clause-there : goal.returns-clause-there
returns-clause-there c = λ l set.
    let s = (goal.at.returns-clause-there c).In_ok-get in
    seen_there l c.args.self.now c.args.device c.in_ok-get.field-0.now c.view.result set (there s) (at s) c.view.ensures
