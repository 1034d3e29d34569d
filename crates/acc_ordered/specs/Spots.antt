-- Places in rows.
use Rattle.std.specs.Prelude.{ℕ, zero, suc, Option, None, ◌≡◌, ◌+◌, ◌<◌, ◌≤◌, List, ◌∷◌, ◌++◌, length, take, drop, nat_lt, slice_get, Some}
use Rattle.acc_base.specs.Splits.{IsSplitBy}
use Rattle.acc_ordered.specs.declared.places.Place.{Place}
use Rattle.acc_ordered.specs.Listing.{KeyValue}
use Rattle.acc_ordered.specs.Laid.{side_by_side}

module _ {T : Type 0} where
  -- how many entries stand before a place
  abbrev pub index_of : List (List (KeyValue T)) → Place → ℕ
  index_of rows place = length (side_by_side (take place.row rows)) + place.at

  -- the item before a place, if there is one
  abbrev pub get_before : List (KeyValue T) → ℕ → Option (KeyValue T)
  get_before es zero = None
  get_before es (suc n) = slice_get es n

  -- a row with its number
  pub record IsRowAt (rows : List (List (KeyValue T))) (number : ℕ) (row : List (KeyValue T)) : Type 0 where
    pub before : List (List (KeyValue T))
    pub behind : List (List (KeyValue T))
    pub is : rows ≡ before ++ row ∷ behind
    pub number_is : length before ≡ number

  -- an entry stands at the place
  pub record IsTaken (rows : List (List (KeyValue T))) (place : Place) : Type 0 where
    pub row : List (KeyValue T)
    pub row_is : IsRowAt rows place.row row
    pub bound : place.at < length row

  -- an entry stands at the place, or could be put there behind the others of its row
  pub record IsInRow (rows : List (List (KeyValue T))) (place : Place) : Type 0 where
    pub row : List (KeyValue T)
    pub row_is : IsRowAt rows place.row row
    pub bound : place.at ≤ length row

  -- all entries before the place have lower keys, and no others
  pub record IsPlaceOf (key : ℕ) (rows : List (List (KeyValue T))) (place : Place) : Type 0 where
    pub split : IsSplitBy (λ e. nat_lt e.key key) (side_by_side rows) (index_of rows place)
    pub within : 0 < length rows → IsInRow rows place
    pub first : place.at ≡ 0 → place.row ≡ 0

  -- the entry of a key stands at the place
  pub record IsOfKeyAt (key : ℕ) (rows : List (List (KeyValue T))) (place : Place) : Type 0 where
    pub taken : IsTaken rows place
    pub entry : KeyValue T
    pub entry_is : slice_get (side_by_side rows) (index_of rows place) ≡ Some entry
    pub key_is : entry.key ≡ key

  -- an entry can be put at the place, in a row that is not full
  pub record HasPlace (rows : List (List (KeyValue T))) (place : Place) : Type 0 where
    pub row : List (KeyValue T)
    pub row_is : IsRowAt rows place.row row
    pub bound : place.at ≤ length row
    pub free : length row < 64

  -- a full row was cut in two
  pub record IsCutInTwo (old rows : List (List (KeyValue T))) (number cut : ℕ) : Type 0 where
    pub before : List (List (KeyValue T))
    pub row : List (KeyValue T)
    pub lower : List (KeyValue T)
    pub upper : List (KeyValue T)
    pub behind : List (List (KeyValue T))
    pub old_is : old ≡ before ++ row ∷ behind
    pub new_is : rows ≡ before ++ lower ∷ upper ∷ behind
    pub number_is : length before ≡ number
    pub full : length row ≡ 64
    pub lower_is : lower ≡ take cut row
    pub upper_is : upper ≡ drop cut row

  -- a row has so many entries
  pub record HasEntries (rows : List (List (KeyValue T))) (number count : ℕ) : Type 0 where
    pub row : List (KeyValue T)
    pub row_is : IsRowAt rows number row
    pub count_is : length row ≡ count

  -- an entry stands at the place, and others in its row
  pub record IsAmongOthers (rows : List (List (KeyValue T))) (place : Place) : Type 0 where
    pub row : List (KeyValue T)
    pub row_is : IsRowAt rows place.row row
    pub bound : place.at < length row
    pub others : 1 < length row

  -- a row and the next have at most 32 entries
  pub record FitTogether (rows : List (List (KeyValue T))) (number : ℕ) : Type 0 where
    pub before : List (List (KeyValue T))
    pub lower : List (KeyValue T)
    pub upper : List (KeyValue T)
    pub behind : List (List (KeyValue T))
    pub is : rows ≡ before ++ lower ∷ upper ∷ behind
    pub number_is : length before ≡ number
    pub few : length lower + length upper ≤ 32

  -- a row and the next have more than 32 entries, or it is the last
  abbrev pub AreApart : List (List (KeyValue T)) → ℕ → Type 0
  AreApart rows number = (before : List (List (KeyValue T))) → (lower upper : List (KeyValue T)) → (behind : List (List (KeyValue T))) → rows ≡ before ++ lower ∷ upper ∷ behind → length before ≡ number → 32 < length lower + length upper

  -- two rows became one
  pub record IsJoined (old rows : List (List (KeyValue T))) (number : ℕ) : Type 0 where
    pub before : List (List (KeyValue T))
    pub lower : List (KeyValue T)
    pub upper : List (KeyValue T)
    pub whole : List (KeyValue T)
    pub behind : List (List (KeyValue T))
    pub old_is : old ≡ before ++ lower ∷ upper ∷ behind
    pub new_is : rows ≡ before ++ whole ∷ behind
    pub number_is : length before ≡ number
    pub whole_is : whole ≡ lower ++ upper
