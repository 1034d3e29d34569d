-- How the attachment counters are kept: each count under a key, which is its block and its pointer in one number. No
-- public clause cites this module.
use Rattle.std.specs.Prelude.{ℕ, ◌+◌, ◌*◌, ◌/◌, ◌%◌, ◌^◌, ◌≤◌, Bool, not, ◌&&◌, ◌||◌, nat_lt, ◌==◌, List, map}
use Rattle.std.specs.List.{AllByRecursion}
use Rattle.acc_base.specs.declared.attachments.Attachment.{Attachment}
use Rattle.acc_ordered.specs.Listing.{KeyValue}

-- the counters, and how many more can be added without allocating
pub record CountersState : Type 0 where
  pub counters : List Attachment
  pub room : ℕ

-- the key of the counter of a pointer in a block
abbrev pub key_of : ℕ → ℕ → ℕ
key_of block pointer = block * 2 ^ 64 + pointer

-- the counter of an entry
abbrev pub counter_in : KeyValue ℕ → Attachment
counter_in e = record { block = e.key / 2 ^ 64; pointer = e.key % 2 ^ 64; count = e.value }

-- the counters of some entries
abbrev pub counters_in : List (KeyValue ℕ) → List Attachment
counters_in entries = map counter_in entries

-- ---- a search

-- the counter stands before that of this pointer
abbrev pub is_below : ℕ → ℕ → Attachment → Bool
is_below block pointer a = nat_lt a.block block || (a.block == block && nat_lt a.pointer pointer)

-- it is that of this pointer, or stands behind
abbrev pub is_from : ℕ → ℕ → Attachment → Bool
is_from block pointer a = not (is_below block pointer a)

-- ---- a bound

-- the counter is of this block or a lower one
abbrev pub IsUpTo : ℕ → KeyValue ℕ → Type 0
IsUpTo highest e = e.key / 2 ^ 64 ≤ highest

abbrev pub AreUpTo : ℕ → List (KeyValue ℕ) → Type 0
AreUpTo highest entries = AllByRecursion (IsUpTo highest) entries
