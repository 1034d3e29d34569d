use Rattle.std.proofs.Common.{subst}
use Rattle.acc_present.specs.Present.{AreNumbered}
use Rattle.acc_present.specs.Kept.{RegisterState}
use Rattle.acc_present.proofs.Registering.{are_numbered}
use Rattle.acc_present.proofs.register.Register.laws.Goals as goal

pub returns-clause-numbered : goal.returns-clause-numbered
returns-clause-numbered c = let P : RegisterState → Type 0 = λ s. AreNumbered s.regions in subst P c.self.view_is (are_numbered c.self.inside.regions.entries c.laws.ensures.rising)
