use Rattle.std.proofs.Common.{◌≡◌, Some, ap, ◌∙◌}
use Rattle.std.specs.Prelude.{option_map}
use Rattle.acc_base.specs.Ranges.{range_of}
use Rattle.acc_present.specs.Present.{PresentState}
use Rattle.acc_present.specs.Kept.{range_in, start_in}
use Rattle.acc_present.proofs.Mapping.{range_at}
use Rattle.acc_present.proofs.presence.Present.find_range_of.Goals as goal

pub returns-in-Some : goal.returns-in-Some
returns-in-Some c =
    let given : start_in c.self.inside.starts c.args.block ≡ Some c.in-Some.start.now = rw c.in-Some.is at c.get.ensures in
    c.range_if.ensures ∙ ap (option_map range_in) c.look_up.ensures ∙ range_at c.args.block c.in-Some.start.now c.self.inside.ranges.entries (start_in c.self.inside.starts) c.self.invariant.2 given ∙ ap (λ (p : PresentState). range_of c.args.block p.table.ranges) c.self.view_is
