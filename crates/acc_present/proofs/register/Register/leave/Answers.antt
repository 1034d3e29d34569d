use Rattle.std.proofs.Common.{IsSome, sym, ap, ◌∙◌, subst}
use Rattle.acc_base.specs.Register.{region_at, without_region}
use Rattle.acc_present.specs.Kept.{RegisterState, regions_in}
use Rattle.acc_present.proofs.Registering.{there_number, region_less}
use Rattle.acc_present.proofs.register.Register.leave.Goals as goal

pub take_out_near-requires : goal.take_out_near-requires
take_out_near-requires c = there_number c.args.number c.self.inside.regions.entries (subst (λ (s : RegisterState). IsSome (region_at c.args.number s.regions)) (sym c.self.view_is) c.requires)

pub returns-clause-regions : goal.returns-clause-regions
returns-clause-regions c = ap regions_in c.take_out_near.ensures.entries ∙ region_less c.args.number c.self.inside.regions.entries ∙ ap (λ (s : RegisterState). without_region c.args.number s.regions) c.self.view_is
