-- Ranges of addresses, each its place and its size in bytes, and lists of them.
use Rattle.std.specs.Prelude.{ℕ, ◌≡◌, ◌+◌, ◌%◌, ◌<◌, ◌≤◌, List, [], ◌∷◌}
use Rattle.acc_base.specs.declared.addresses.TheConstants.{MEMORY_MAX}
use Rattle.acc_base.specs.Limits.{IsFromOne}
use Rattle.acc_base.specs.Section.{Spans}
use Rattle.acc_base.specs.Holes.{IsIn}
use Rattle.acc_base.specs.Blocks.{rounded}

-- the n addresses from q on are all in the ranges
abbrev pub IsFit : List (ℕ × ℕ) → ℕ → ℕ → Type 0
IsFit hs n q = (a : ℕ) → Spans q n a → IsIn hs a

-- p is the least place at which n addresses are all in the ranges
abbrev pub IsLeastFit : List (ℕ × ℕ) → ℕ → ℕ → Type 0
IsLeastFit hs n p = IsFit hs n p × ((q : ℕ) → IsFit hs n q → p ≤ q)

-- the n addresses from q on are all in the ranges hs, and none is in the ranges ts
abbrev pub IsFitBeside : List (ℕ × ℕ) → List (ℕ × ℕ) → ℕ → ℕ → Type 0
IsFitBeside hs ts n q = (a : ℕ) → Spans q n a → IsIn hs a × ¬ IsIn ts a

-- p is the least place at which n addresses are all in the ranges hs, and none is in the ranges ts
abbrev pub IsLeastFitBeside : List (ℕ × ℕ) → List (ℕ × ℕ) → ℕ → ℕ → Type 0
IsLeastFitBeside hs ts n p = IsFitBeside hs ts n p × ((q : ℕ) → IsFitBeside hs ts n q → p ≤ q)

-- the ranges that are taken for these places and lengths
abbrev pub all_rounded : List (ℕ × ℕ) → List (ℕ × ℕ)
all_rounded [] = []
all_rounded (t ∷ ts) = (t.0, rounded t.1) ∷ all_rounded ts

-- the place and the length are those of a take that ends at `top` at most
abbrev pub IsTakeBelow : ℕ → ℕ × ℕ → Type 0
IsTakeBelow top t = IsFromOne MEMORY_MAX t.1 × (t.0 + rounded t.1 ≤ top)

-- the range is not empty
abbrev pub HasAddress : ℕ × ℕ → Type 0
HasAddress h = 0 < h.1

-- the place and the size are multiples of 16
abbrev pub IsAligned : ℕ × ℕ → Type 0
IsAligned h = (h.0 % 16 ≡ 0) × (h.1 % 16 ≡ 0)
