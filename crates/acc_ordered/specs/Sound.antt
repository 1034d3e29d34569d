-- What the fields of a list stand for, and what holds of them.
use Rattle.std.specs.Prelude.{ℕ, ◌≡◌, ◌+◌, ◌-◌, ◌*◌, ◌^◌, ◌≤◌, max, length}
use Rattle.std.specs.Vec.{vec_len}
use Rattle.std.specs.VecDeque.{deque_len}
use Rattle.acc_ordered.specs.Listing.{Listing}
use Rattle.acc_ordered.specs.declared.list.OrderedList.TheInside.{Inside}
use Rattle.acc_ordered.specs.Laid.{side_by_side, AreRows, AreHalfFull}

-- how many more entries certainly find a row: one for each row that waits, or 16 for each row but one, less the entries
abbrev pub room_for : ℕ → ℕ → ℕ → ℕ
room_for rows waiting entries = max waiting (16 * (rows + waiting) - (entries + 16))

module _ {K T : Type 0} where
  abbrev pub listing_in_rows : Inside K T → Listing T
  listing_in_rows r = record { entries = side_by_side r.rows.items; room = room_for (deque_len r.rows) (vec_len r.spare) (length (side_by_side r.rows.items)) }

  pub record AreSoundRows (number : K → ℕ) (r : Inside K T) : Type 0 where
    pub rows : AreRows number r.firsts r.rows r.spare
    pub half_full : AreHalfFull r.rows.items
    pub counted : r.len ≡ length (side_by_side r.rows.items)
    pub few : deque_len r.rows + vec_len r.spare ≤ 2 ^ 57
