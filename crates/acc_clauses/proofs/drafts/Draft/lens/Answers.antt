use Rattle.std.proofs.Common.{ℕ, ◌≡◌, ◌∙◌, ap, subst, List, length}
use Rattle.std.proofs.lemmas.List.{length-map}
use Rattle.acc_clauses.specs.declared.acted.Acted.{Acted}
use Rattle.acc_clauses.specs.Overlays.{births_of}
use Rattle.acc_clauses.proofs.drafts.Draft.lens.Goals as goal

pub returns-clause-count : goal.returns-clause-count
returns-clause-count c =
    let births = births_of c.self.inside.acts in
    subst (λ (xs : List Acted). length c.as_slice.result.now ≡ length (births_of xs)) c.self.view_is (ap length (c.as_slice.ensures.value ∙ c.self.invariant.0.lens_are) ∙ length-map births (λ (b : ℕ × ℕ). b.1))
