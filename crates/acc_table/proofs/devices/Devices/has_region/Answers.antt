use Rattle.std.proofs.Common.{◌∙◌, ap}
use Rattle.std.specs.Prelude.{is_some}
use Rattle.acc_base.specs.Register.{region_at}
use Rattle.acc_clauses.specs.Devices.{Seen}
use Rattle.acc_table.proofs.devices.Devices.has_region.Goals as goal

pub returns-in-Some : goal.returns-in-Some
returns-in-Some c = c.has_region.ensures ∙ ap (λ (v : Seen). is_some (region_at c.args.number v.state.register.regions)) (c.in-Some.ensures.there c.requires.0 c.requires.1)
