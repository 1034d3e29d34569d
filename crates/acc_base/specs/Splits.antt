-- Lists in which the elements that pass a test stand first, where a search by halves ends: of the crates that keep
-- sorted lists.
use Rattle.std.specs.Prelude.{ℕ, ◌≡◌, ◌≤◌, Bool, true, false, List, length, take, drop}
use Rattle.std.specs.List.{AllByRecursion}

-- the elements before a place pass a test, and those from it on do not
pub record IsSplitBy {X : Type 0} (test : X → Bool) (xs : List X) (at : ℕ) : Type 0 where
  pub bound : at ≤ length xs
  pub passed : AllByRecursion (λ x. test x ≡ true) (take at xs)
  pub failed : AllByRecursion (λ x. test x ≡ false) (drop at xs)
