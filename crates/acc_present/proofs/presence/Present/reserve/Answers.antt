use Rattle.std.proofs.Common.{ℕ, ◌+◌, ◌*◌, ◌<◌, ◌≤◌, subst, inl, inr, arith}
use Rattle.std.specs.Prelude.{◌⊎◌, min, OnErr, Result, Ok, Err}
use Rattle.std.proofs.Math.Nat.{min-le_right}
use Rattle.std.proofs.lemmas.Bool.{cases_lt}
use Rattle.acc_present.specs.Present.{PresentState, IsPlaceMissing, IsMemoryNeeded}
use Rattle.acc_present.specs.Kept.{ranges_in}
use Rattle.acc_present.proofs.Mapping.{starts_few}
use Rattle.acc_present.proofs.presence.Present.reserve.Goals as goal

-- places of starts are wanting, of which no more are in use than there are ranges
places : (count nodes room gone kept used : ℕ) → kept ≤ used → room < count → (3 * gone < kept) ⊎ (room + gone < count) → (nodes < count) ⊎ IsPlaceMissing count (min nodes room) gone used
places count nodes room gone kept used few missing cleared = elim (cases_lt nodes count) [
  | inl less ↦ inl less
  | inr enough ↦
      let least = min-le_right nodes room in
      inr (record { missing = omega arith; few = elim cleared [ inl quarter ↦ inl (omega arith) | inr all ↦ inr (omega arith) ] })
]

-- what holds where an answer is told holds of a refusal
refused : {T E P : Type 0} (r : Result T E) → P → OnErr r P
refused (Ok x) h = tt
refused (Err e) h = h

pub returns-in_err-reserve-2-clause-cleared : goal.returns-in_err-reserve-2-clause-cleared
returns-in_err-reserve-2-clause-cleared c =
    let few = starts_few c.self.inside.starts.entries (ranges_in c.self.inside.ranges.entries) c.laws.ensures.rising c.self.invariant.2.agrees in
    let wanting = places c.args.ranges c.self.inside.ranges.room c.self.inside.starts.room c.self.inside.starts.gone _ _ few c.in_err-reserve-2.ensures.needed c.in_err-reserve-2.ensures.cleared in
    refused c.from_residual-in_err-reserve-2.result
    (subst (λ (p : PresentState). IsMemoryNeeded c.args.ranges c.args.regions c.args.holdings p) c.self.view_is
    (elim wanting [ inl nodes ↦ inl nodes | inr missing ↦ inr (inl missing) ]))
