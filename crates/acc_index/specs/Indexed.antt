-- A list of values by rising number: what is found in it, how it changes, and how it is kept.
use Rattle.std.specs.Prelude.{ℕ, ◌≡◌, ◌<◌, ◌==◌, Bool, not, false, is_some, IsSomeAnd, if◌then◌else◌, nat_lt, List, [], ◌∷◌, map, filter, find, length, slice_index_or, Option, Some, None, option_map}
use Rattle.std.specs.List.{AllZip}
use Rattle.acc_base.specs.Accounts.{EachPair}
use Rattle.acc_index.specs.declared.index.IndexEntry.{IndexEntry}

-- the values with their numbers, how many places of others are kept, and how many more values there is room for
pub record IndexState (T : Type 0) : Type 0 where
  pub entries : List (ℕ × T)
  pub gone : ℕ
  pub room : ℕ

module _ {T : Type 0} where
  -- the numbers rise
  abbrev pub IsIndexRising : List (ℕ × T) → Type 0
  IsIndexRising entries = EachPair (λ (d : ℕ × T) (e : ℕ × T). d.0 < e.0) entries

  -- the value of a number
  abbrev pub value_at : ℕ → List (ℕ × T) → Option T
  value_at number entries = option_map (λ (e : ℕ × T). e.1) (find (λ (e : ℕ × T). e.0 == number) entries)

  -- the greatest number: numbers rise, so it stands last
  abbrev pub last_number : List (ℕ × T) → Option ℕ
  last_number [] = None
  last_number (e ∷ []) = Some e.0
  last_number (e ∷ f ∷ es) = last_number (f ∷ es)

  -- the values with one more, by rising number
  abbrev pub with_value : ℕ → T → List (ℕ × T) → List (ℕ × T)
  with_value number value [] = (number, value) ∷ []
  with_value number value (e ∷ es) = if nat_lt number e.0 then (number, value) ∷ e ∷ es else e ∷ with_value number value es

  -- the values without that of a number
  abbrev pub without_number : ℕ → List (ℕ × T) → List (ℕ × T)
  without_number number entries = filter (λ (e : ℕ × T). not (e.0 == number)) entries

  -- the values, with another one of a number that has one
  abbrev pub with_other : ℕ → T → List (ℕ × T) → List (ℕ × T)
  with_other number value entries = map (λ (e : ℕ × T). if e.0 == number then (number, value) else e) entries

  -- a copy has as many values, each a clone under the same number
  abbrev pub AreEntryClones : (T → T → Type 0) → List (ℕ × T) → List (ℕ × T) → Type 0
  AreEntryClones is_clone entries copies = AllZip (λ (e : ℕ × T) (d : ℕ × T). (d.0 ≡ e.0) × is_clone e.1 d.1) entries copies

  -- ---- how they are kept

  -- the value of a place before others, unless it is gone
  abbrev pub live_before : ℕ → Option T → List (ℕ × T) → List (ℕ × T)
  live_before number None es = es
  live_before number (Some value) es = (number, value) ∷ es

  -- the values that are not gone
  abbrev pub live_entries : List (IndexEntry T) → List (ℕ × T)
  live_entries [] = []
  live_entries (e ∷ es) = live_before e.number e.value (live_entries es)

  -- the numbers of places rise
  abbrev pub AreEntriesRising : List (IndexEntry T) → Type 0
  AreEntriesRising items = EachPair (λ (d : IndexEntry T) (e : IndexEntry T). d.number < e.number) items

  -- there is a last place, and its value is gone
  abbrev pub ends_gone : List (IndexEntry T) → Bool
  ends_gone [] = false
  ends_gone (e ∷ []) = not (is_some e.value)
  ends_gone (e ∷ f ∷ es) = ends_gone (f ∷ es)

  -- a copy has the number, and a clone of the value unless it is gone
  abbrev pub IsValueClone : (T → T → Type 0) → Option T → Option T → Type 0
  IsValueClone is_clone None copy = copy ≡ None
  IsValueClone is_clone (Some value) copy = IsSomeAnd copy (is_clone value)

  pub record IsPlaceClone (is_clone : T → T → Type 0) (e copy : IndexEntry T) : Type 0 where
    pub number : copy.number ≡ e.number
    pub value : IsValueClone is_clone e.value copy.value

  -- a place with another value
  abbrev pub with_own : IndexEntry T → T → IndexEntry T
  with_own e value = record { number = e.number; value = Some value }

  -- what an index outside of a list reads
  abbrev pub blank_entry : IndexEntry T
  blank_entry = record { number = 0; value = None }

  -- the number stands at this place
  pub record IsNumberAt (items : List (IndexEntry T)) (number at : ℕ) : Type 0 where
    pub in_bounds : at < length items
    pub is : (slice_index_or items at blank_entry).number ≡ number
