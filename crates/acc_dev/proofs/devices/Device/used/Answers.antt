use Rattle.std.proofs.Common.{ap, ◌∙◌}
use Rattle.acc_base.specs.Blocks.{used_bytes}
use Rattle.acc_dev.specs.Device.{DeviceState}
use Rattle.acc_dev.specs.Kept.{blocks_in}
use Rattle.acc_dev.proofs.Placing.{total-used}
use Rattle.acc_dev.proofs.devices.Device.used.Goals as goal

pub returns : goal.returns
returns c = c.used.ensures.sum _ c.self.invariant.0.partition ∙ total-used (blocks_in c.self.inside.slab.slots c.self.inside.index.entries) ∙ ap (λ (d : DeviceState). used_bytes d.blocks) c.self.view_is
