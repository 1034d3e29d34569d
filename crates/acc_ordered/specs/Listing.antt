-- A list of entries by rising key: what a search in it finds, and how it changes.
use Rattle.std.specs.Prelude.{ℕ, ◌<◌, ◌==◌, not, if◌then◌else◌, nat_lt, nat_le, List, [], ◌∷◌, Option, Some, None, find, filter, map, option_map}
use Rattle.std.specs.Option.{option_or}
use Rattle.acc_base.specs.Accounts.{EachPair}
use Rattle.acc_ordered.specs.declared.entries.KeyValueRef.{KeyValueRef}

-- a value under the number of its key
pub record KeyValue (T : Type 0) : Type 0 where
  pub key : ℕ
  pub value : T

-- what an ordered list is seen as
pub record Listing (T : Type 0) : Type 0 where
  -- by rising key
  pub entries : List (KeyValue T)
  -- how many more can be inserted without memory
  pub room : ℕ

module _ {T : Type 0} where
  -- the keys rise
  abbrev pub KeysRise : List (KeyValue T) → Type 0
  KeysRise entries = EachPair (λ (e : KeyValue T) (f : KeyValue T). e.key < f.key) entries

  abbrev pub keyed : ℕ → T → KeyValue T
  keyed key value = record { key = key; value = value }

  -- what is told of each entry
  abbrev pub told_in : {U : Type 0} → (ℕ → T → U) → List (KeyValue T) → List U
  told_in told entries = map (λ e. told e.key e.value) entries

  -- ---- searches

  -- the entry of a key
  abbrev pub at_key : ℕ → List (KeyValue T) → Option (KeyValue T)
  at_key key entries = find (λ e. e.key == key) entries

  -- the first entry from a key on
  abbrev pub first_from : ℕ → List (KeyValue T) → Option (KeyValue T)
  first_from key entries = find (λ e. nat_le key e.key) entries

  -- an entry that was found
  abbrev pub entry_in : {K : Type 0} → (K → ℕ) → KeyValueRef K T → KeyValue T
  entry_in number found = record { key = number found.key; value = found.value.now }

  -- the entry that was found, if there is one
  abbrev pub seen : {K : Type 0} → (K → ℕ) → Option (KeyValueRef K T) → Option (KeyValue T)
  seen number found = option_map (entry_in number) found

  -- the last entry before a key
  abbrev pub last_before : ℕ → List (KeyValue T) → Option (KeyValue T)
  last_before key [] = None
  last_before key (e ∷ es) = option_or (last_before key es) (if nat_lt e.key key then Some e else None)

  -- ---- changes

  -- the entries with one more, by rising key
  abbrev pub with_entry : KeyValue T → List (KeyValue T) → List (KeyValue T)
  with_entry new [] = new ∷ []
  with_entry new (e ∷ es) = if nat_lt new.key e.key then new ∷ e ∷ es else e ∷ with_entry new es

  -- the entries without that of a key
  abbrev pub without_key : ℕ → List (KeyValue T) → List (KeyValue T)
  without_key key entries = filter (λ e. not (e.key == key)) entries

  -- the entry with another value, if it has the key
  abbrev pub value_written : ℕ → T → KeyValue T → KeyValue T
  value_written key value e = if e.key == key then record e { value = value } else e

  -- the entries with another value at a key
  abbrev pub with_value : ℕ → T → List (KeyValue T) → List (KeyValue T)
  with_value key value entries = map (value_written key value) entries
