-- What the keys and the values of a row stand for, and what holds of them.
use Rattle.std.specs.Prelude.{ℕ, ◌≡◌, ◌≤◌, List, length}
use Rattle.std.specs.Vec.{vec_capacity}
use Rattle.acc_ordered.specs.Listing.{KeyValue}
use Rattle.acc_ordered.specs.Pairs.{paired}
use Rattle.acc_ordered.specs.declared.rows.Row.TheInside.{Inside}

module _ {K T : Type 0} where
  abbrev pub entries_of : (K → ℕ) → Inside K T → List (KeyValue T)
  entries_of number r = paired number r.keys.items r.values.items

  -- as many values as keys, at most 64, and place for them
  pub record IsPaired (r : Inside K T) : Type 0 where
    pub each : length r.values.items ≡ length r.keys.items
    pub most : length r.keys.items ≤ 64
    pub keys : 64 ≤ vec_capacity r.keys
    pub values : 64 ≤ vec_capacity r.values
