-- Counters of blocks up to one: none is found of a block above it, and changes keep or raise it.
use Rattle.std.proofs.Common.{ℕ, ◌≡◌, ◌/◌, ◌^◌, ◌<◌, ◌≤◌, refl, sym, ap, Bool, true, false, cond, List, Option, None, arith}
use Rattle.std.specs.Prelude.{◌==◌, ◌&&◌, not, nat_lt, nat_le, find, option_map, unwrap_or}
use Rattle.std.proofs.lemmas.Bool.Decides.{nat_tests}
use Rattle.acc_base.specs.declared.attachments.Attachment.{Attachment}
use Rattle.acc_base.specs.Attachments.{is_of, count_at, next_pointer}
use Rattle.acc_base.proofs.Elements.{AllByRecursion-weaker, AllByRecursion-filter, AllByRecursion-map, find-none}
use Rattle.acc_base.proofs.InPlace.{IsPut, all-put}
use Rattle.acc_ordered.specs.Listing.{KeyValue, keyed, with_entry, without_key, with_value, value_written}
use Rattle.acc_present.specs.KeptCounters.{key_of, counter_in, counters_in, is_from, IsUpTo, AreUpTo}

-- ---- searches

-- a test that fails at each counter of a lower block fails at all
all_fail : (highest block : ℕ) (test : Attachment → Bool) (es : List (KeyValue ℕ)) → AreUpTo highest es → highest < block → ((e : KeyValue ℕ) → e.key / 2 ^ 64 < block → test (counter_in e) ≡ false) → find test (counters_in es) ≡ None
all_fail highest block test es up above fails = find-none test (counters_in es) (AllByRecursion-map (λ a. test a ≡ false) counter_in es (AllByRecursion-weaker (IsUpTo highest) (λ e. test (counter_in e) ≡ false) es (λ e le. fails e (omega arith)) up))

pub none_of_above : (highest block pointer : ℕ) (es : List (KeyValue ℕ)) → AreUpTo highest es → highest < block → 0 ≡ count_at block pointer (counters_in es)
none_of_above highest block pointer es up above = sym (ap (λ (o : Option Attachment). unwrap_or (option_map (λ a. a.count) o) 0) (all_fail highest block (is_of block pointer) es up above (λ e less. let t : (e.key / 2 ^ 64 == block) ≡ false = grind (arith, nat_tests) in rw t refl)))

pub none_from_above : (highest block pointer : ℕ) (es : List (KeyValue ℕ)) → AreUpTo highest es → highest < block → None ≡ find (is_from block pointer) (counters_in es)
none_from_above highest block pointer es up above = sym (all_fail highest block (is_from block pointer) es up above (λ e less. let t : nat_lt (e.key / 2 ^ 64) block ≡ true = grind (arith, nat_tests) in rw t refl))

-- no pointer of such a block is attached
pub no_pointer_above : (highest block : ℕ) (es : List (KeyValue ℕ)) → AreUpTo highest es → highest < block → next_pointer block 0 (counters_in es) ≡ None
no_pointer_above highest block es up above = ap (option_map (λ a. a.pointer)) (all_fail highest block (λ a. a.block == block && nat_le 0 a.pointer) es up above (λ e less. let t : (e.key / 2 ^ 64 == block) ≡ false = grind (arith, nat_tests) in rw t refl))

-- ---- changes

pub up_to-added : (highest most block pointer count : ℕ) (es : List (KeyValue ℕ)) → pointer < 2 ^ 64 → AreUpTo highest es → highest ≤ most → block ≤ most → AreUpTo most (with_entry (keyed (key_of block pointer) count) es)
up_to-added highest most block pointer count es lt up more new = all-put put (IsUpTo most) es (omega arith) (AllByRecursion-weaker (IsUpTo highest) (IsUpTo most) es (λ e le. omega arith) up)
  where
    put : IsPut (keyed (key_of block pointer) count) (λ (e : KeyValue ℕ). nat_lt (key_of block pointer) e.key) (with_entry (keyed (key_of block pointer) count))
    put = record { alone = refl; among = λ e es. refl }

pub up_to-written : (highest key count : ℕ) (es : List (KeyValue ℕ)) → AreUpTo highest es → AreUpTo highest (with_value key count es)
up_to-written highest key count es up = AllByRecursion-map (IsUpTo highest) (value_written key count) es (AllByRecursion-weaker (IsUpTo highest) (λ e. IsUpTo highest (value_written key count e)) es (λ e le. go e (e.key == key) le) up)
  where
    go : (e : KeyValue ℕ) (b : Bool) → IsUpTo highest e → IsUpTo highest (cond b (record e { value = count }) e)
    go e true le = le
    go e false le = le

pub up_to-without : (highest key : ℕ) (es : List (KeyValue ℕ)) → AreUpTo highest es → AreUpTo highest (without_key key es)
up_to-without highest key es up = AllByRecursion-filter (IsUpTo highest) (λ e. not (e.key == key)) es up
