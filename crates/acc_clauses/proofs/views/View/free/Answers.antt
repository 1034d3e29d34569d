use Rattle.std.proofs.Common.{subst}
use Rattle.acc_base.specs.declared.items.Section.{Section}
use Rattle.acc_base.specs.Section.{device_memory}
use Rattle.acc_base.specs.Holes.{IsLeft}
use Rattle.acc_clauses.specs.Devices.{Seen}
use Rattle.acc_clauses.proofs.views.View.free.Goals as goal

pub returns : goal.returns
returns c =
    let v = c.self.inside in
    subst (λ (k : Seen). IsLeft (device_memory k.limits) k.state.records.blocks c.free.result) c.self.view_is
    (subst (λ (m : Section). IsLeft m v.environment.now.device.blocks c.free.result) c.self.invariant.sized.device c.free.ensures)
