-- How a loan is cut into parts: the parts' lengths, in order.
use Rattle.std.specs.Prelude.{◌≡◌, ℕ, ◌+◌, ◌-◌, ◌/◌, ◌%◌, ◌<◌, ◌≤◌, List, [], ◌∷◌, ◌++◌, length, sum, replicate, All, zero, suc}
use Rattle.acc_base.specs.declared.addresses.TheConstants.{MEMORY_MAX}

-- the numbers are the lengths of parts. There are 1 to 64 parts, none is empty, and in all they are no longer than a
-- memory may be
pub record AreCuts (lengths : List ℕ) : Type 0 where
  pub some : 0 < length lengths
  pub few : length lengths ≤ 64
  pub filled : All (λ len. 0 < len) lengths
  pub capped : sum lengths ≤ MEMORY_MAX

-- so many bytes can be cut evenly into so many parts
pub record CanCut (len : ℕ) (n : ℕ) : Type 0 where
  pub len_some : 0 < len
  pub len_capped : len ≤ MEMORY_MAX
  pub n_some : 0 < n
  pub n_few : n ≤ 64

-- len / n, rounded up
abbrev pub even_len : ℕ → ℕ → ℕ
even_len len n = (len + (n - 1)) / n

-- a part of what is left, where something is left
abbrev pub last_part : ℕ → List ℕ
last_part zero = []
last_part (suc rest) = suc rest ∷ []

-- as many parts of one length as fit, and the rest
abbrev pub parts_of : ℕ → ℕ → List ℕ
parts_of len size = replicate (len / size) size ++ last_part (len % size)

abbrev pub even_cuts : ℕ → ℕ → List ℕ
even_cuts len n = parts_of len (even_len len n)

-- bytes that begin at a place of a loan are cut into parts of these lengths, which are numbered from first on
pub record IsCutInto (first at : ℕ) (lengths : List ℕ) (len : ℕ) : Type 0 where
  pub some : 0 < length lengths
  pub few : first + length lengths ≤ 64
  pub whole : sum lengths ≡ len
  pub capped : at + len ≤ MEMORY_MAX

-- the length of the next part and those of the later ones; 0 where no part is left
abbrev pub lengths_from : ℕ → List ℕ → List ℕ
lengths_from zero later = []
lengths_from (suc len) later = suc len ∷ later
