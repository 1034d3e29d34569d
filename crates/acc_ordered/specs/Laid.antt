-- Rows of entries, laid side by side.
use Rattle.std.specs.Prelude.{ℕ, ◌≡◌, ◌+◌, ◌<◌, ◌≤◌, List, [], ◌∷◌, ◌++◌, length, map}
use Rattle.std.specs.List.{AllByRecursion, flat_map}
use Rattle.std.specs.Vec.{vec_len, vec_capacity}
use Rattle.std.specs.declared.alloc.Global.{Global}
use Rattle.std.specs.declared.vec.Vec.{Vec}
use Rattle.std.specs.VecDeque.{deque_len, deque_capacity}
use Rattle.std.specs.declared.collections.VecDeque.{VecDeque}
use Rattle.acc_ordered.specs.Listing.{KeyValue, KeysRise}

module _ {T : Type 0} where
  abbrev pub itself : List (KeyValue T) → List (KeyValue T)
  itself row = row

  -- the entries of all rows, side by side
  abbrev pub side_by_side : List (List (KeyValue T)) → List (KeyValue T)
  side_by_side rows = flat_map itself rows

  -- the least key of entries by rising key
  abbrev pub least_key : List (KeyValue T) → ℕ
  least_key [] = 0
  least_key (e ∷ es) = e.key

  -- a row has entries, at most 64
  pub record IsRow (row : List (KeyValue T)) : Type 0 where
    pub some : 0 < length row
    pub most : length row ≤ 64

  -- a row that waits is empty
  abbrev pub IsWaiting : List (KeyValue T) → Type 0
  IsWaiting row = row ≡ []

  -- the keys rise from row to row, and the least of each row are known
  pub record AreInRows (firsts : List ℕ) (rows : List (List (KeyValue T))) : Type 0 where
    pub rising : KeysRise (side_by_side rows)
    pub firsts_are : firsts ≡ map least_key rows
    pub each : AllByRecursion IsRow rows

  -- the length of the last row, or, where there is none, that of the row before
  abbrev pub last_length : ℕ → List (List (KeyValue T)) → ℕ
  last_length n [] = n
  last_length n (row ∷ rows) = last_length (length row) rows

  -- rows behind one of length n: each has with the one before it more than 32 entries
  abbrev pub AreHalfFullBehind : ℕ → List (List (KeyValue T)) → Type 0
  AreHalfFullBehind n [] = Unit {0}
  AreHalfFullBehind n (row ∷ rows) = (32 < n + length row) × AreHalfFullBehind (length row) rows

  -- each two rows beside each other have more than 32 entries; the first is as if behind a full one
  abbrev pub AreHalfFull : List (List (KeyValue T)) → Type 0
  AreHalfFull rows = AreHalfFullBehind 64 rows

  -- a row lost an entry; before that, each two rows beside each other had more than 32
  pub record IsShortBetween (before : List (List (KeyValue T))) (row : List (KeyValue T)) (behind : List (List (KeyValue T))) : Type 0 where
    pub front : AreHalfFull before
    pub here : 32 ≤ last_length 64 before + length row
    pub rest : AreHalfFullBehind (length row + 1) behind

  -- the row of that number did
  abbrev pub AreOneShort : List (List (KeyValue T)) → ℕ → Type 0
  AreOneShort rows number = (before : List (List (KeyValue T))) → (row : List (KeyValue T)) → (behind : List (List (KeyValue T))) → rows ≡ before ++ row ∷ behind → length before ≡ number → IsShortBetween before row behind

  -- rows, rows that wait, and place for all of them in each list
  pub record AreRows {K : Type 0} (number : K → ℕ) (firsts : VecDeque K Global) (rows : VecDeque (List (KeyValue T)) Global) (spare : Vec (List (KeyValue T)) Global) : Type 0 where
    pub in_rows : AreInRows (map number firsts.items) rows.items
    pub waiting : AllByRecursion IsWaiting spare.items
    pub places_firsts : deque_len rows + vec_len spare ≤ deque_capacity firsts
    pub places_rows : deque_len rows + vec_len spare ≤ deque_capacity rows
    pub places_spare : deque_len rows + vec_len spare ≤ vec_capacity spare
