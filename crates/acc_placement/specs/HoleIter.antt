-- What an iterator over holes has left.
use Rattle.std.specs.Prelude.{ℕ, List, filter, nat_le}
use Rattle.acc_placement.specs.declared.hole_iter.HoleIter.{HoleIter}

-- the holes from a place on
abbrev pub holes_from : ℕ → List (ℕ × ℕ) → List (ℕ × ℕ)
holes_from from holes = filter (λ h. nat_le from h.0) holes

abbrev pub holes_left : HoleIter → List (ℕ × ℕ)
holes_left i = holes_from i.from i.holes.now.holes
