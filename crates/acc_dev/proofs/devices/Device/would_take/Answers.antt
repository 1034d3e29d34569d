use Rattle.std.proofs.Common.{◌+◌, ◌++◌, ap, ◌∙◌, arith}
use Rattle.acc_base.specs.Section.{end_of}
use Rattle.acc_base.specs.Blocks.{rounded, place_for}
use Rattle.acc_dev.specs.Device.{DeviceState, planned_blocks}
use Rattle.acc_dev.specs.Kept.{blocks_in}
use Rattle.acc_dev.proofs.Placing.{planned_place}
use Rattle.acc_dev.proofs.Keeping.{shared}
use Rattle.acc_dev.proofs.devices.Device.would_take.Goals as goal

pub returns : goal.returns
returns c =
    let s = c.self.inside in
    let k = c.self.invariant.0 in
    let at = c.would_take.ensures in
    planned_place s.holes (blocks_in s.slab.slots s.index.entries) (s.births + 1) (end_of c.args.self.now.memory) c.args.listed.now (rounded c.args.len) c.would_take.result (omega arith) c.requires.listed k.lens (shared s.holes s.slab.slots s.index.entries k) at.place at.none
    ∙ ap (λ (d : DeviceState). place_for d.memory (d.blocks ++ planned_blocks (d.births + 1) c.args.listed.now) (rounded c.args.len)) c.self.view_is
