use Rattle.std.proofs.Common.{ap, ◌∙◌}
use Rattle.std.specs.Prelude.{option_map}
use Rattle.acc_base.specs.Ranges.{range_from}
use Rattle.acc_present.specs.Present.{PresentState}
use Rattle.acc_present.specs.Kept.{range_in}
use Rattle.acc_present.proofs.Mapping.{first-ranges}
use Rattle.acc_present.proofs.presence.Present.next_range.Goals as goal

pub returns : goal.returns
returns c = c.range_if.ensures ∙ ap (option_map range_in) c.next_near.ensures ∙ first-ranges c.args.from c.self.inside.ranges.entries ∙ ap (λ (p : PresentState). range_from c.args.from p.table.ranges) c.self.view_is
