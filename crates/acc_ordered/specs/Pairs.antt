-- Keys and values that stand apart, as entries.
use Rattle.std.specs.Prelude.{ℕ, List, [], ◌∷◌}
use Rattle.acc_ordered.specs.Listing.{KeyValue}

module _ {K T : Type 0} where
  -- the number of each key with the value at the same place
  abbrev pub paired : (K → ℕ) → List K → List T → List (KeyValue T)
  paired number [] values = []
  paired number (key ∷ keys) [] = []
  paired number (key ∷ keys) (value ∷ values) = record { key = number key; value = value } ∷ paired number keys values
