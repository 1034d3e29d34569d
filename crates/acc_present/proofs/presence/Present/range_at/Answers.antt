use Rattle.std.proofs.Common.{◌≡◌, Option, Some, sym, subst}
use Rattle.std.specs.Prelude.{IfSome}
use Rattle.acc_base.specs.declared.mappings.Range.{Range}
use Rattle.acc_base.specs.Ranges.{range_of}
use Rattle.acc_present.specs.Present.{PresentState}
use Rattle.acc_present.specs.Kept.{ranges_in}
use Rattle.acc_present.proofs.Mapping.{ranges_found}
use Rattle.acc_present.proofs.presence.Present.range_at.Goals as goal

pub returns : goal.returns
returns c =
    let es = c.self.inside.ranges.entries in
    let found = subst (λ (o : Option Range). IfSome o (λ r. range_of r.block (ranges_in es) ≡ Some r)) (sym c.range_if.ensures) (ranges_found es c.at.result c.self.invariant.2.mapped c.at.ensures) in
    subst (λ (p : PresentState). IfSome c.range_if.result (λ r. range_of r.block p.table.ranges ≡ Some r)) c.self.view_is found
