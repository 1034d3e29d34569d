use Rattle.std.proofs.Common.{ap, ◌∙◌}
use Rattle.std.proofs.lemmas.List.Elements.{same_from_all_zip}
use Rattle.acc_present.specs.Kept.{RegisterState, region_in}
use Rattle.acc_present.proofs.Copied.{same_of_clones}
use Rattle.acc_present.proofs.register.RegisterClone.clone.Goals as goal

pub returns : goal.returns
returns c = record {
  cases =
      same_of_clones _ region_in c.self.inside.regions.entries c.in_ok-clone.field-0.entries c.in_ok-clone.ensures.cases (λ e d h i. record { number = h.0 i; holdings = same_from_all_zip _ _ _ h.1.0 (λ x y k. k) i })
      ∙ ap (λ (s : RegisterState). s.regions) c.self.view_is;
}
