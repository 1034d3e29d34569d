-- The addresses that births take, as spans. Births that lie one right behind the other may share one.
use Rattle.std.specs.Prelude.{ℕ, ◌+◌, ◌≡◌, ◌<◌, ◌≤◌, Bool, ◌||◌, nat_le, List}
use Rattle.std.specs.List.{AllByRecursion, list_all}
use Rattle.acc_base.specs.declared.addresses.TheConstants.{MEMORY_MAX}
use Rattle.acc_base.specs.Blocks.{rounded}
use Rattle.acc_placement.specs.Ranges.{IsTakeBelow}

-- none of the n addresses from q on is taken by a birth of this place and length
abbrev pub is_beside : ℕ → ℕ → ℕ × ℕ → Bool
is_beside q n t = nat_le (q + n) t.0 || nat_le (t.0 + rounded t.1) q

-- where the births end on the device, so do the spans, and they take the same addresses
pub record AreSpans (births spans : List (ℕ × ℕ)) : Type 0 where
  pub below : (top : ℕ) → AllByRecursion (IsTakeBelow top) births → AllByRecursion (IsTakeBelow top) spans
  pub same : (top q n : ℕ) → AllByRecursion (IsTakeBelow top) births → 0 < n → list_all (is_beside q n) spans ≡ list_all (is_beside q n) births

-- one span in place of another and a birth, which lies right behind it
pub record IsJoined (span birth both : ℕ × ℕ) : Type 0 where
  pub start : both.0 ≡ span.0
  pub len : both.1 ≡ rounded span.1 + birth.1
  pub behind : birth.0 ≡ span.0 + rounded span.1
  pub most : both.1 ≤ MEMORY_MAX
