use Rattle.std.proofs.Common.{ap, ◌∙◌}
use Rattle.acc_base.specs.Register.{region_at, with_region}
use Rattle.acc_present.specs.Kept.{RegisterState, regions_in}
use Rattle.acc_present.proofs.Registering.{new_number, region_more}
use Rattle.acc_present.proofs.register.Register.enter_reserved.Goals as goal

pub insert-requires-clause-new : goal.insert-requires-clause-new
insert-requires-clause-new c = new_number c.args.number c.self.inside.regions.entries (ap (λ (s : RegisterState). region_at c.args.number s.regions) c.self.view_is ∙ c.requires.new)

pub returns-clause-regions : goal.returns-clause-regions
returns-clause-regions c =
    ap regions_in c.insert.ensures.entries
    ∙ region_more c.args.number c.args.holdings c.self.inside.regions.entries
    ∙ ap (λ (s : RegisterState). with_region (record { number = c.args.number; holdings = c.args.holdings.items }) s.regions) c.self.view_is
