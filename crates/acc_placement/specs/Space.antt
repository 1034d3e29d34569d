-- A space of device addresses: some ranges of it are taken, and the others are its holes.
use Rattle.std.specs.Prelude.{ℕ, ◌≡◌, ◌+◌, ◌%◌, ◌^◌, ◌≤◌, ◌⊎◌, List, [], ◌∷◌, ◌++◌, length, All}
use Rattle.acc_base.specs.Limits.{IsSize}
use Rattle.acc_base.specs.Holes.{IsIn, IsRising, IsDisjoint, total}
use Rattle.acc_base.specs.Section.{Spans}
use Rattle.acc_placement.specs.Ranges.{HasAddress, IsAligned}

-- where the space begins, its bytes, and what is taken of it
pub record Space : Type 0 where
  pub base : ℕ
  pub size : ℕ
  -- place and size of each, by rising place
  pub holes : List (ℕ × ℕ)
  -- how many ranges are taken
  pub taken : ℕ
  -- how many more can be taken without allocating
  pub spare : ℕ

-- what holds of every space: the holes are multiples of 16, not empty, in the space, rise, and no two of them touch
pub record IsCanonical (s : Space) : Type 0 where
  pub base_limit : s.base ≤ 2 ^ 40
  pub base_aligned : s.base % 16 ≡ 0
  pub size_limit : IsSize s.size
  pub rising : IsRising s.base s.holes (s.base + s.size)
  pub aligned : All IsAligned s.holes

-- these, in any order, are the taken ranges: with the holes they are the space, none is empty, and no two share an
-- address
pub record IsPartition (s : Space) (ts : List (ℕ × ℕ)) : Type 0 where
  pub count : length ts ≡ s.taken
  pub sizes : total ts + total s.holes ≡ s.size
  pub aligned : All IsAligned ts
  pub not_empty : All HasAddress ts
  pub disjoint : IsDisjoint ts
  pub within : (a : ℕ) → IsIn ts a → Spans s.base s.size a
  pub not_free : (a : ℕ) → IsIn ts a → IsIn s.holes a → ⊥
  pub covered : (a : ℕ) → Spans s.base s.size a → IsIn s.holes a ⊎ IsIn ts a

-- the n addresses from p on are one of the taken ranges
pub record IsTaken (s : Space) (p n : ℕ) : Type 0 where
  pub before : List (ℕ × ℕ)
  pub after : List (ℕ × ℕ)
  pub partition : IsPartition s (before ++ (p, n) ∷ after)

-- the new space is the old one with the n addresses from p on taken
pub record IsTakenFrom (old new : Space) (p n : ℕ) : Type 0 where
  pub base : new.base ≡ old.base
  pub size : new.size ≡ old.size
  pub taken : new.taken ≡ old.taken + 1
  pub used : total new.holes + n ≡ total old.holes
  pub aligned : p % 16 ≡ 0
  pub within : (old.base ≤ p) × (p + n ≤ old.base + old.size)
  pub kept : (a : ℕ) → IsIn new.holes a → IsIn old.holes a × ¬ Spans p n a
  pub free : (a : ℕ) → IsIn old.holes a → ¬ Spans p n a → IsIn new.holes a
  pub was_free : (a : ℕ) → Spans p n a → IsIn old.holes a

-- the new space is the old one with the taken range of n addresses from p on given back
pub record IsGivenBack (old new : Space) (p n : ℕ) : Type 0 where
  pub base : new.base ≡ old.base
  pub size : new.size ≡ old.size
  pub taken : new.taken + 1 ≡ old.taken
  pub used : total new.holes ≡ total old.holes + n
  pub free : (a : ℕ) → IsIn new.holes a → IsIn old.holes a ⊎ Spans p n a
  pub kept : (a : ℕ) → IsIn old.holes a ⊎ Spans p n a → IsIn new.holes a

-- the new space is the old one, but for its spare room
pub record IsSameSpace (old new : Space) : Type 0 where
  pub base : new.base ≡ old.base
  pub size : new.size ≡ old.size
  pub holes : new.holes ≡ old.holes
  pub taken : new.taken ≡ old.taken

-- a space of which nothing is taken
pub record IsFresh (s : Space) (base size : ℕ) : Type 0 where
  pub base_is : s.base ≡ base
  pub size_is : s.size ≡ size
  pub holes_is : s.holes ≡ (base, size) ∷ []
  pub taken_is : s.taken ≡ 0
