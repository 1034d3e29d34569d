-- How a list of holes that rise changes, and what a search in it finds.
use Rattle.std.specs.Prelude.{ℕ, zero, suc, ◌≡◌, ◌+◌, ◌-◌, ◌%◌, ◌^◌, ◌≤◌, ◌⊎◌, List, [], ◌∷◌, ◌++◌, length, All, IfSome, IsSome}
use Rattle.acc_base.specs.Holes.{IsIn, IsRising, total}
use Rattle.acc_base.specs.Section.{Spans}
use Rattle.acc_placement.specs.Listing.{at_place, with_hole_moved}
use Rattle.acc_placement.specs.Ranges.{IsAligned, all_rounded}

-- the new ranges are the old ones without the n addresses from p on, and rise
pub record IsCut (low high : ℕ) (old new : List (ℕ × ℕ)) (p n : ℕ) : Type 0 where
  pub rising : IsRising low new high
  pub used : total new + n ≡ total old
  pub kept : (a : ℕ) → IsIn new a → IsIn old a × ¬ Spans p n a
  pub free : (a : ℕ) → IsIn old a → ¬ Spans p n a → IsIn new a
  pub was_free : (a : ℕ) → Spans p n a → IsIn old a

-- the new ranges are the old ones and the n addresses from p on, and rise
pub record IsFilled (low high : ℕ) (old new : List (ℕ × ℕ)) (p n : ℕ) : Type 0 where
  pub rising : IsRising low new high
  pub used : total new ≡ total old + n
  pub free : (a : ℕ) → IsIn new a → IsIn old a ⊎ Spans p n a
  pub kept : (a : ℕ) → IsIn old a ⊎ Spans p n a → IsIn new a
  pub aligned : All IsAligned old → p % 16 ≡ 0 → n % 16 ≡ 0 → All IsAligned new

-- a list that is the ranges with the n addresses from p on has no more than this many
abbrev pub NeedsAtMost : List (ℕ × ℕ) → ℕ → ℕ → ℕ → Type 0
NeedsAtMost hs p n most = (new : List (ℕ × ℕ)) → IsFilled 0 (2 ^ 41) hs new p n → length new ≤ most

-- the least place after ranges that rise at which another may begin
abbrev pub end_after : ℕ → List (ℕ × ℕ) → ℕ
end_after low [] = low
end_after low (h ∷ t) = end_after (h.0 + h.1 + 1) t

-- a range, or nothing where it has no addresses
abbrev pub piece : ℕ → ℕ → List (ℕ × ℕ)
piece q zero = []
piece q (suc m) = (q, suc m) ∷ []

-- the ranges round the n addresses from p on, of which they have none: one of `front` addresses ends at p, and one of
-- `back` begins behind them, where these are not 0
pub record IsAround (low : ℕ) (hs : List (ℕ × ℕ)) (high p n front back : ℕ) : Type 0 where
  pub l : List (ℕ × ℕ)
  pub r : List (ℕ × ℕ)
  pub is : hs ≡ l ++ (piece (p - front) front ++ (piece (p + n) back ++ r))
  pub first : IsRising low l high
  pub below : end_after low l + front ≤ p
  pub fits : p + n + back ≤ high
  pub behind : IsRising (p + n + back + 1) r high

-- the hole of a place may grow to `size` bytes, and move to the place `to` with that
pub record MayGrow (place to size : ℕ) (hs : List (ℕ × ℕ)) : Type 0 where
  pub there : IsSome (at_place place hs)
  pub not_less : IfSome (at_place place hs) (λ h. h.1 ≤ size)
  pub rising : IsRising 0 (with_hole_moved place to size hs) (2 ^ 41)

-- none of the n addresses from q on is taken by the listed places and lengths
abbrev pub IsBeside : List (ℕ × ℕ) → ℕ → ℕ → Type 0
IsBeside ts n q = (a : ℕ) → Spans q n a → ¬ IsIn (all_rounded ts) a
