-- A list of holes that rise: what a search in it finds, and how it changes.
use Rattle.std.specs.Prelude.{ℕ, ◌+◌, ◌-◌, ◌==◌, ◌&&◌, not, if◌then◌else◌, nat_lt, nat_le, List, [], ◌∷◌, Option, Some, None, find, filter, map}
use Rattle.std.specs.Option.{option_or}

-- what a tree is seen as
pub record Listing : Type 0 where
  -- place and size of each, by rising place
  pub holes : List (ℕ × ℕ)
  -- how many more can be put in without allocating
  pub room : ℕ

-- ---- searches

-- the hole of a place
abbrev pub at_place : ℕ → List (ℕ × ℕ) → Option (ℕ × ℕ)
at_place place holes = find (λ h. h.0 == place) holes

-- the first hole from a place on
abbrev pub first_from : ℕ → List (ℕ × ℕ) → Option (ℕ × ℕ)
first_from place holes = find (λ h. nat_le place h.0) holes

-- the last hole before a place
abbrev pub last_before : ℕ → List (ℕ × ℕ) → Option (ℕ × ℕ)
last_before place [] = None
last_before place (h ∷ hs) = option_or (last_before place hs) (if nat_lt h.0 place then Some h else None)

-- the first hole that is at least so large
abbrev pub first_large : ℕ → List (ℕ × ℕ) → Option (ℕ × ℕ)
first_large size holes = find (λ h. nat_le size h.1) holes

-- the first hole from a place on that is at least so large
abbrev pub first_large_from : ℕ → ℕ → List (ℕ × ℕ) → Option (ℕ × ℕ)
first_large_from place size holes = find (λ h. nat_le place h.0 && nat_le size h.1) holes

-- the size of a hole that ends at a place, or 0
abbrev pub size_ending : Option (ℕ × ℕ) → ℕ → ℕ
size_ending None end = 0
size_ending (Some h) end = if h.0 + h.1 == end then h.1 else 0

-- the size of a hole that begins at a place, or 0
abbrev pub size_beginning : Option (ℕ × ℕ) → ℕ → ℕ
size_beginning None start = 0
size_beginning (Some h) start = if h.0 == start then h.1 else 0

-- ---- changes

-- the holes with one more, by rising place
abbrev pub with_hole : ℕ × ℕ → List (ℕ × ℕ) → List (ℕ × ℕ)
with_hole new [] = new ∷ []
with_hole new (h ∷ hs) = if nat_lt new.0 h.0 then new ∷ h ∷ hs else h ∷ with_hole new hs

-- the holes without that of a place
abbrev pub without_place : ℕ → List (ℕ × ℕ) → List (ℕ × ℕ)
without_place place holes = filter (λ h. not (h.0 == place)) holes

-- the holes with another place and size at a place
abbrev pub with_hole_moved : ℕ → ℕ → ℕ → List (ℕ × ℕ) → List (ℕ × ℕ)
with_hole_moved place to size holes = map (λ h. if h.0 == place then (to, size) else h) holes

-- a hole whose first `size` bytes are taken, before others; it goes where nothing of it is left
abbrev pub cut_before : ℕ → ℕ × ℕ → List (ℕ × ℕ) → List (ℕ × ℕ)
cut_before size h hs = if h.1 == size then hs else (h.0 + size, h.1 - size) ∷ hs

-- the holes once the first `size` bytes of the first that is so large are taken
abbrev pub without_front : ℕ → List (ℕ × ℕ) → List (ℕ × ℕ)
without_front size [] = []
without_front size (h ∷ hs) = if nat_le size h.1 then cut_before size h hs else h ∷ without_front size hs
