use Rattle.std.proofs.Common.{◌≡◌, ◌+◌, ◌<◌, arith, sym, ◌∙◌, Some, None}
use Rattle.acc_placement.specs.Listing.{first_large}
use Rattle.acc_placement.proofs.Fronts.{none_fit, least_fit}
use Rattle.acc_placement.proofs.placement.Holes.fit_counted.Goals as goal

pub returns-in_err-hole-clause-none : goal.returns-in_err-hole-clause-none
returns-in_err-hole-clause-none c =
    let pos : 0 < c.rounded.result = omega arith in
    let none : first_large c.rounded.result c.self.inside.holes.holes ≡ None = sym c.first_fit_counted.ensures.found ∙ c.in_err-hole.was in
    rw (c.from_residual.ensures, ← c.rounded.ensures.value, ← c.self.view_is) (none_fit c.self.inside.base c.self.inside.holes.holes (c.self.inside.base + c.self.inside.size) c.rounded.result pos c.self.invariant.canonical.rising none)

pub returns-clause-place : goal.returns-clause-place
returns-clause-place c =
    let pos : 0 < c.rounded.result = omega arith in
    let some : first_large c.rounded.result c.self.inside.holes.holes ≡ Some c.in_ok-hole.hole = sym c.first_fit_counted.ensures.found ∙ c.in_ok-hole.was in
    rw (← c.rounded.ensures.value, ← c.self.view_is) (least_fit c.self.inside.base c.self.inside.holes.holes (c.self.inside.base + c.self.inside.size) c.rounded.result c.in_ok-hole.hole pos c.self.invariant.canonical.rising some)
