-- Where two outputs differ first.
use Rattle.std.specs.Prelude.{◌≡◌, ℕ, ◌+◌, ◌++◌, List, length, Option, Some, None, option_map}
use Rattle.std.specs.List.{slice_get}
use Rattle.acc_follow.specs.declared.differences.Difference.{Difference}

-- behind lines that both outputs have, the line of the difference is another one in each, or one of them has ended
pub record IsFirstDifference (d : Difference) (expected found : List (List ℕ)) : Type 0 where
  pub shared : List (List ℕ)
  pub expected_rest : List (List ℕ)
  pub found_rest : List (List ℕ)
  pub expected_lines : expected ≡ shared ++ expected_rest
  pub found_lines : found ≡ shared ++ found_rest
  pub line : d.line ≡ length shared + 1
  pub expected_line : option_map (λ line. line.now) d.expected ≡ slice_get expected_rest 0
  pub found_line : option_map (λ line. line.now) d.found ≡ slice_get found_rest 0
  pub differ : ¬ (slice_get expected_rest 0 ≡ slice_get found_rest 0)

-- what is returned for the lines of two outputs
abbrev pub Compared : List (List ℕ) → List (List ℕ) → Option Difference → Type 0
Compared expected found None = expected ≡ found
Compared expected found (Some d) = IsFirstDifference d expected found
