use Rattle.std.proofs.Common.{◌∙◌, ap}
use Rattle.acc_base.specs.Leases.{is_returnable}
use Rattle.acc_dev.specs.Device.{number_at, DeviceState}
use Rattle.acc_dev.proofs.devices.Device.is_returnable.Goals as goal

pub slot_back-requires-clause-rising : goal.slot_back-requires-clause-rising
slot_back-requires-clause-rising c = c.self.invariant.0.rising

pub slot_back-requires-clause-backed : goal.slot_back-requires-clause-backed
slot_back-requires-clause-backed c = c.self.invariant.0.backed

pub returns : goal.returns
returns c =
    let told = rw c.number.ensures at c.slot_back.ensures.returnable in
    c.is_some.ensures ∙ told ∙ ap (λ (d : DeviceState). is_returnable c.args.kept (number_at c.args.self.now.memory.start) c.args.lease.now d.blocks d.loans d.memories) c.self.view_is
