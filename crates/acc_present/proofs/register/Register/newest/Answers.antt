use Rattle.std.proofs.Common.{sym, ap, ◌∙◌}
use Rattle.acc_base.specs.Register.{newest_region}
use Rattle.acc_present.specs.Kept.{RegisterState}
use Rattle.acc_present.proofs.Registering.{newest}
use Rattle.acc_present.proofs.register.Register.newest.Goals as goal

pub returns : goal.returns
returns c = c.last.ensures ∙ sym (newest c.self.inside.regions.entries) ∙ ap (λ (s : RegisterState). newest_region s.regions) c.self.view_is
