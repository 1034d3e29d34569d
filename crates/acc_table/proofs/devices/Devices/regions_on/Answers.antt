use Rattle.std.proofs.Common.{◌∙◌, ap, length}
use Rattle.acc_clauses.specs.Devices.{Seen}
use Rattle.acc_table.proofs.devices.Devices.regions_on.Goals as goal

pub returns-in-Some : goal.returns-in-Some
returns-in-Some c = c.regions.ensures ∙ ap (λ (v : Seen). length v.state.register.regions) (c.in-Some.ensures.there c.requires.0 c.requires.1)
