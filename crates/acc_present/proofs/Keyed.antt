-- The counters as entries by key: searches among them, and changes.
use Rattle.std.proofs.Common.{ℕ, ◌≡◌, ◌/◌, ◌%◌, ◌^◌, ◌<◌, ◌≤◌, refl, sym, ap, ◌∙◌, subst, Bool, true, false, cond, ◌&&◌, ◌||◌, List, [], ◌∷◌, length, Option, Some, None, arith}
use Rattle.std.specs.Prelude.{◌==◌, not, nat_le, nat_lt, find, option_map, unwrap_or, IsSome}
use Rattle.std.specs.List.{AllByRecursion}
use Rattle.std.proofs.lemmas.Bool.Decides.{nat_tests}
use Rattle.acc_base.specs.declared.attachments.Attachment.{Attachment}
use Rattle.acc_base.specs.Accounts.{EachPair}
use Rattle.acc_base.specs.Attachments.{is_of, IsBefore, is_before, count_at, with_attachment, without_attachment, with_count, without_attachments, next_pointer}
use Rattle.acc_base.proofs.Results.{equal}
use Rattle.acc_base.proofs.Elements.{AllByRecursion-weaker, AllByRecursion-map, filter-kept, filter-map, find-map, find_none, found_has}
use Rattle.acc_base.proofs.Options.{from_none, from_some}
use Rattle.acc_base.proofs.Attached.{before}
use Rattle.acc_ordered.specs.Listing.{KeyValue, KeysRise, keyed, at_key, first_from, with_entry, without_key, with_value}
use Rattle.acc_present.specs.KeptCounters.{key_of, counter_in, counters_in, is_below, is_from}

-- ---- keys

-- a key is parted into its block and its pointer
parted_key : (block pointer : ℕ) → pointer < 2 ^ 64 → (key_of block pointer / 2 ^ 64 ≡ block) × (key_of block pointer % 2 ^ 64 ≡ pointer)
parted_key block pointer lt = (omega arith, omega arith)

-- and made of them
whole_key : (key : ℕ) → key_of (key / 2 ^ 64) (key % 2 ^ 64) ≡ key
whole_key key = omega arith

-- keys stand in the order of their blocks and pointers
order_tests : (b p c q : ℕ) → p < 2 ^ 64 → q < 2 ^ 64 → (nat_lt b c || (b == c && nat_lt p q)) ≡ nat_lt (key_of b p) (key_of c q)
order_tests b p c q lt lq = go (nat_lt b c) refl (b == c) refl (nat_lt p q) refl (nat_lt (key_of b p) (key_of c q)) refl
  where
    go : (s : Bool) → nat_lt b c ≡ s → (t : Bool) → (b == c) ≡ t → (u : Bool) → nat_lt p q ≡ u → (v : Bool) → nat_lt (key_of b p) (key_of c q) ≡ v → (s || (t && u)) ≡ v
    go true f t g u h true k = refl
    go true f t g u h false k = absurd (grind (arith, nat_tests))
    go false f true g true h true k = refl
    go false f true g true h false k = absurd (grind (arith, nat_tests))
    go false f true g false h false k = refl
    go false f true g false h true k = absurd (grind (arith, nat_tests))
    go false f false g u h false k = refl
    go false f false g u h true k = absurd (grind (arith, nat_tests))

-- and one alone has a block and a pointer
equal_tests : (b p c q : ℕ) → p < 2 ^ 64 → q < 2 ^ 64 → (b == c && p == q) ≡ (key_of b p == key_of c q)
equal_tests b p c q lt lq = go (b == c) refl (p == q) refl (key_of b p == key_of c q) refl
  where
    go : (t : Bool) → (b == c) ≡ t → (u : Bool) → (p == q) ≡ u → (v : Bool) → (key_of b p == key_of c q) ≡ v → (t && u) ≡ v
    go true g true h true k = refl
    go true g true h false k = absurd (grind (arith, nat_tests))
    go true g false h false k = refl
    go true g false h true k = absurd (grind (arith, nat_tests))
    go false g u h false k = refl
    go false g u h true k = absurd (grind (arith, nat_tests))

pointer_bound : (key : ℕ) → key % 2 ^ 64 < 2 ^ 64
pointer_bound key = omega arith

-- ---- tests of a counter are tests of its key

below_test : (block pointer : ℕ) (e : KeyValue ℕ) → pointer < 2 ^ 64 → is_below block pointer (counter_in e) ≡ nat_lt e.key (key_of block pointer)
below_test block pointer e lt = order_tests (e.key / 2 ^ 64) (e.key % 2 ^ 64) block pointer (pointer_bound e.key) lt ∙ ap (λ k. nat_lt k (key_of block pointer)) (whole_key e.key)

not_lt : (a b : ℕ) → nat_le b a ≡ not (nat_lt a b)
not_lt a b = go (nat_le b a) refl (nat_lt a b) refl
  where
    go : (s : Bool) → nat_le b a ≡ s → (t : Bool) → nat_lt a b ≡ t → s ≡ not t
    go true f true g = absurd (grind (arith, nat_tests))
    go true f false g = refl
    go false f true g = refl
    go false f false g = absurd (grind (arith, nat_tests))

from_test : (block pointer : ℕ) (e : KeyValue ℕ) → pointer < 2 ^ 64 → is_from block pointer (counter_in e) ≡ nat_le (key_of block pointer) e.key
from_test block pointer e lt = ap not (below_test block pointer e lt) ∙ sym (not_lt e.key (key_of block pointer))

of_test : (block pointer : ℕ) (e : KeyValue ℕ) → pointer < 2 ^ 64 → is_of block pointer (counter_in e) ≡ (e.key == key_of block pointer)
of_test block pointer e lt = equal_tests (e.key / 2 ^ 64) (e.key % 2 ^ 64) block pointer (pointer_bound e.key) lt ∙ ap (λ k. k == key_of block pointer) (whole_key e.key)

before_test : (e f : KeyValue ℕ) → is_before (counter_in e) (counter_in f) ≡ nat_lt e.key f.key
before_test e f =
    order_tests (e.key / 2 ^ 64) (e.key % 2 ^ 64) (f.key / 2 ^ 64) (f.key % 2 ^ 64) (pointer_bound e.key) (pointer_bound f.key)
    ∙ ap (λ k. nat_lt k (key_of (f.key / 2 ^ 64) (f.key % 2 ^ 64))) (whole_key e.key) ∙ ap (nat_lt e.key) (whole_key f.key)

-- counters stand by rising block and pointer where their keys rise
pub rising_counters : (es : List (KeyValue ℕ)) → KeysRise es → EachPair IsBefore (counters_in es)
rising_counters [] rise = tt
rising_counters (e ∷ es) rise = (
  AllByRecursion-map (IsBefore (counter_in e)) counter_in es (AllByRecursion-weaker (λ (f : KeyValue ℕ). e.key < f.key) (λ f. IsBefore (counter_in e) (counter_in f)) es (λ f less. first e f less) rise.0),
  rising_counters es rise.1,
)
  where
    first : (x f : KeyValue ℕ) → x.key < f.key → IsBefore (counter_in x) (counter_in f)
    first x f less = let t : nat_lt x.key f.key ≡ true = grind (arith, nat_tests) in before (counter_in x) (counter_in f) (before_test x f ∙ t)

-- ---- searches

pub first-counters : (block pointer : ℕ) (es : List (KeyValue ℕ)) → pointer < 2 ^ 64 → option_map counter_in (first_from (key_of block pointer) es) ≡ find (is_from block pointer) (counters_in es)
first-counters block pointer es lt = sym (find-map counter_in (λ e. nat_le (key_of block pointer) e.key) (is_from block pointer) es (λ e. from_test block pointer e lt))

pub own-counters : (block pointer : ℕ) (es : List (KeyValue ℕ)) → pointer < 2 ^ 64 → find (is_of block pointer) (counters_in es) ≡ option_map counter_in (at_key (key_of block pointer) es)
own-counters block pointer es lt = find-map counter_in (λ e. e.key == key_of block pointer) (is_of block pointer) es (λ e. of_test block pointer e lt)

pub count_found : (block pointer : ℕ) (es : List (KeyValue ℕ)) (e : KeyValue ℕ) → pointer < 2 ^ 64 → Some e ≡ at_key (key_of block pointer) es → e.value ≡ count_at block pointer (counters_in es)
count_found block pointer es e lt found = sym (ap (λ (o : Option Attachment). unwrap_or (option_map (λ a. a.count) o) 0) (own-counters block pointer es lt ∙ ap (option_map counter_in) (sym found)))

pub count_missing : (block pointer : ℕ) (es : List (KeyValue ℕ)) → pointer < 2 ^ 64 → None ≡ at_key (key_of block pointer) es → 0 ≡ count_at block pointer (counters_in es)
count_missing block pointer es lt found = sym (ap (λ (o : Option Attachment). unwrap_or (option_map (λ a. a.count) o) 0) (own-counters block pointer es lt ∙ ap (option_map counter_in) (sym found)))

-- an entry is there where its counter is
pub key_there : (block pointer : ℕ) (es : List (KeyValue ℕ)) → pointer < 2 ^ 64 → IsSome (find (is_of block pointer) (counters_in es)) → IsSome (at_key (key_of block pointer) es)
key_there block pointer es lt there = from_some counter_in (at_key (key_of block pointer) es) (subst IsSome (own-counters block pointer es lt) there)

-- and none where it is not
pub key_missing : (block pointer : ℕ) (es : List (KeyValue ℕ)) → pointer < 2 ^ 64 → find (is_of block pointer) (counters_in es) ≡ None → at_key (key_of block pointer) es ≡ None
key_missing block pointer es lt none = from_none counter_in (at_key (key_of block pointer) es) (sym (own-counters block pointer es lt) ∙ none)

-- ---- changes

with_entry-counters : (new : KeyValue ℕ) (es : List (KeyValue ℕ)) → counters_in (with_entry new es) ≡ with_attachment (counter_in new) (counters_in es)
with_entry-counters new [] = refl
with_entry-counters new (e ∷ es) = rw (before_test new e) (go (with_entry-counters new es) (nat_lt new.key e.key))
  where
    go : counters_in (with_entry new es) ≡ with_attachment (counter_in new) (counters_in es) → (b : Bool) → counters_in (cond b (new ∷ e ∷ es) (e ∷ with_entry new es)) ≡ cond b (counter_in new ∷ counter_in e ∷ counters_in es) (counter_in e ∷ with_attachment (counter_in new) (counters_in es))
    go rest true = refl
    go rest false = ap (λ cs. counter_in e ∷ cs) rest

pub without_key-counters : (block pointer : ℕ) (es : List (KeyValue ℕ)) → pointer < 2 ^ 64 → counters_in (without_key (key_of block pointer) es) ≡ without_attachment block pointer (counters_in es)
without_key-counters block pointer es lt = sym (filter-map counter_in (λ e. not (e.key == key_of block pointer)) (λ a. not (is_of block pointer a)) es (λ e. ap not (of_test block pointer e lt)))

counter_made : (block pointer count : ℕ) → pointer < 2 ^ 64 → counter_in (keyed (key_of block pointer) count) ≡ record { block = block; pointer = pointer; count = count }
counter_made block pointer count lt = let parted = parted_key block pointer lt in rw (parted.0, parted.1) refl

-- a count above zero is put where the other was taken out
put_count : (block pointer count : ℕ) (es : List (KeyValue ℕ)) → pointer < 2 ^ 64 → 0 < count → counters_in (with_entry (keyed (key_of block pointer) count) (without_key (key_of block pointer) es)) ≡ with_count block pointer count (counters_in es)
put_count block pointer count es lt some =
    let t : (count == 0) ≡ false = grind (arith, nat_tests) in
    rw t (with_entry-counters (keyed (key_of block pointer) count) (without_key (key_of block pointer) es)
    ∙ ap (λ (a : Attachment). with_attachment a (counters_in (without_key (key_of block pointer) es))) (counter_made block pointer count lt)
    ∙ ap (with_attachment (record { block = block; pointer = pointer; count = count })) (without_key-counters block pointer es lt))

-- taking out what is not there leaves all
none_without : (key : ℕ) (es : List (KeyValue ℕ)) → AllByRecursion (λ e. (e.key == key) ≡ false) es → without_key key es ≡ es
none_without key es h = filter-kept (λ e. not (e.key == key)) es (AllByRecursion-weaker (λ (e : KeyValue ℕ). (e.key == key) ≡ false) (λ e. not (e.key == key) ≡ true) es (λ e off. rw off refl) h)

pub added-counters : (block pointer count : ℕ) (es : List (KeyValue ℕ)) → pointer < 2 ^ 64 → 0 < count → find (is_of block pointer) (counters_in es) ≡ None → counters_in (with_entry (keyed (key_of block pointer) count) es) ≡ with_count block pointer count (counters_in es)
added-counters block pointer count es lt some none =
    let off = none_without (key_of block pointer) es (find_none (λ e. e.key == key_of block pointer) es (key_missing block pointer es lt none)) in
    ap (λ (xs : List (KeyValue ℕ)). counters_in (with_entry (keyed (key_of block pointer) count) xs)) (sym off) ∙ put_count block pointer count es lt some

-- a value that is written is one put in the place of the old one
written_put : (block pointer count : ℕ) (es : List (KeyValue ℕ)) → KeysRise es → IsSome (at_key (key_of block pointer) es) → counters_in (with_value (key_of block pointer) count es) ≡ counters_in (with_entry (keyed (key_of block pointer) count) (without_key (key_of block pointer) es))
written_put block pointer count [] rise there = cc
written_put block pointer count (e ∷ es) rise there = go (λ h. written_put block pointer count es rise.1 h) (e.key == key_of block pointer) refl there
  where
    off : (xs : List (KeyValue ℕ)) → e.key ≡ key_of block pointer → AllByRecursion (λ x. e.key < x.key) xs → AllByRecursion (λ x. (x.key == key_of block pointer) ≡ false) xs
    off xs same above = AllByRecursion-weaker (λ (x : KeyValue ℕ). e.key < x.key) (λ x. (x.key == key_of block pointer) ≡ false) xs (λ x less. let t : (x.key == key_of block pointer) ≡ false = grind (arith, nat_tests) in t) above

    unwritten : (xs : List (KeyValue ℕ)) → AllByRecursion (λ x. (x.key == key_of block pointer) ≡ false) xs → with_value (key_of block pointer) count xs ≡ xs
    unwritten [] h = refl
    unwritten (x ∷ xs) h = rw h.0 (ap (λ ys. x ∷ ys) (unwritten xs h.1))

    front : (xs : List (KeyValue ℕ)) → e.key ≡ key_of block pointer → AllByRecursion (λ x. e.key < x.key) xs → with_entry (keyed (key_of block pointer) count) xs ≡ keyed (key_of block pointer) count ∷ xs
    front [] same above = refl
    front (x ∷ xs) same above = let less = above.0 in let t : nat_lt (key_of block pointer) x.key ≡ true = grind (arith, nat_tests) in rw t refl

    go : (IsSome (at_key (key_of block pointer) es) → counters_in (with_value (key_of block pointer) count es) ≡ counters_in (with_entry (keyed (key_of block pointer) count) (without_key (key_of block pointer) es)))
        → (b : Bool) → (e.key == key_of block pointer) ≡ b → IsSome (cond b (Some e) (at_key (key_of block pointer) es))
        → counters_in (cond b (record e { value = count }) e ∷ with_value (key_of block pointer) count es) ≡ counters_in (with_entry (keyed (key_of block pointer) count) (cond (not b) (e ∷ without_key (key_of block pointer) es) (without_key (key_of block pointer) es)))
    go rest true t h =
        let same : e.key ≡ key_of block pointer = equal e.key (key_of block pointer) t in
        let others = off es same rise.0 in
        let here : counter_in (record e { value = count }) ≡ counter_in (keyed (key_of block pointer) count) = ap (λ (k : ℕ). counter_in (keyed k count)) same in
        ap (λ (xs : List (KeyValue ℕ)). counter_in (record e { value = count }) ∷ counters_in xs) (unwritten es others)
        ∙ ap (λ (a : Attachment). a ∷ counters_in es) here
        ∙ sym (ap counters_in (ap (with_entry (keyed (key_of block pointer) count)) (none_without (key_of block pointer) es others) ∙ front es same rise.0))
    go rest false t h =
        let above : e.key < key_of block pointer = later (at_key (key_of block pointer) es) refl h in
        let u : nat_lt (key_of block pointer) e.key ≡ false = grind (arith, nat_tests) in
        rw u (ap (λ cs. counter_in e ∷ cs) (rest h))
      where
        later : (o : Option (KeyValue ℕ)) → at_key (key_of block pointer) es ≡ o → IsSome o → e.key < key_of block pointer
        later None found some = cc
        later (Some f) found some =
            let has = found_has (λ (x : KeyValue ℕ). e.key < x.key) (λ x. x.key == key_of block pointer) es f rise.0 found in
            let same : f.key ≡ key_of block pointer = equal f.key (key_of block pointer) has.1 in
            omega (arith, has.0)

pub written-counters : (block pointer count : ℕ) (es : List (KeyValue ℕ)) → pointer < 2 ^ 64 → 0 < count → KeysRise es → IsSome (find (is_of block pointer) (counters_in es)) → counters_in (with_value (key_of block pointer) count es) ≡ with_count block pointer count (counters_in es)
written-counters block pointer count es lt some rise there = written_put block pointer count es rise (key_there block pointer es lt there) ∙ put_count block pointer count es lt some

-- ---- a block forgotten

-- a pointer that is the next one is attached
pub next_attached : (block from pointer : ℕ) (cs : List Attachment) → next_pointer block from cs ≡ Some pointer → IsSome (find (is_of block pointer) cs)
next_attached block from pointer [] next = cc
next_attached block from pointer (c ∷ cs) next = go (next_attached block from pointer cs) (c.block == block) refl (nat_le from c.pointer) next
  where
    still : (s : Bool) → IsSome (find (is_of block pointer) cs) → IsSome (cond s (Some c) (find (is_of block pointer) cs))
    still true some = refl
    still false some = some

    go : (next_pointer block from cs ≡ Some pointer → IsSome (find (is_of block pointer) cs)) → (s : Bool) → (c.block == block) ≡ s → (t : Bool) → option_map (λ a. a.pointer) (cond (s && t) (Some c) (find (λ a. a.block == block && nat_le from a.pointer) cs)) ≡ Some pointer → IsSome (cond (s && c.pointer == pointer) (Some c) (find (is_of block pointer) cs))
    go rest true e true n = let same : c.pointer ≡ pointer = cc in let t : (c.pointer == pointer) ≡ true = grind (arith, nat_tests) in rw t refl
    go rest true e false n = still (c.pointer == pointer) (rest n)
    go rest false e t n = rest n

-- without a next pointer no counter is the block's
pub none_left : (block : ℕ) (cs : List Attachment) → next_pointer block 0 cs ≡ None → without_attachments block cs ≡ cs
none_left block [] next = refl
none_left block (c ∷ cs) next = go (none_left block cs) (c.block == block) (nat_le 0 c.pointer) up next
  where
    up : nat_le 0 c.pointer ≡ true
    up = grind (arith, nat_tests)

    go : (next_pointer block 0 cs ≡ None → without_attachments block cs ≡ cs) → (s t : Bool) → t ≡ true → option_map (λ a. a.pointer) (cond (s && t) (Some c) (find (λ a. a.block == block && nat_le 0 a.pointer) cs)) ≡ None → cond (not s) (c ∷ without_attachments block cs) (without_attachments block cs) ≡ c ∷ cs
    go rest true true e n = cc
    go rest true false e n = cc
    go rest false t e n = ap (λ ds. c ∷ ds) (rest n)

-- a block is forgotten as well once one of its counters is taken out
pub forgotten_first : (block pointer : ℕ) (cs : List Attachment) → without_attachments block (without_attachment block pointer cs) ≡ without_attachments block cs
forgotten_first block pointer [] = refl
forgotten_first block pointer (c ∷ cs) = go (forgotten_first block pointer cs) (c.block == block) refl (c.pointer == pointer)
  where
    keep : without_attachments block (without_attachment block pointer cs) ≡ without_attachments block cs → (s : Bool) → (c.block == block) ≡ s → without_attachments block (c ∷ without_attachment block pointer cs) ≡ cond (not s) (c ∷ without_attachments block cs) (without_attachments block cs)
    keep rest true e = rw e rest
    keep rest false e = rw e (ap (λ ds. c ∷ ds) rest)

    go : without_attachments block (without_attachment block pointer cs) ≡ without_attachments block cs → (s : Bool) → (c.block == block) ≡ s → (t : Bool) → without_attachments block (cond (not (s && t)) (c ∷ without_attachment block pointer cs) (without_attachment block pointer cs)) ≡ cond (not s) (c ∷ without_attachments block cs) (without_attachments block cs)
    go rest true e true = rest
    go rest true e false = keep rest true e
    go rest false e t = keep rest false e

-- and there are fewer counters then
no_longer : (block pointer : ℕ) (cs : List Attachment) → length (without_attachment block pointer cs) ≤ length cs
no_longer block pointer [] = omega arith
no_longer block pointer (c ∷ cs) = go (no_longer block pointer cs) (is_of block pointer c)
  where
    go : length (without_attachment block pointer cs) ≤ length cs → (s : Bool) → length (cond (not s) (c ∷ without_attachment block pointer cs) (without_attachment block pointer cs)) ≤ length (c ∷ cs)
    go rest true = omega (arith, rest)
    go rest false = omega (arith, rest)

pub shorter : (block pointer : ℕ) (cs : List Attachment) → IsSome (find (is_of block pointer) cs) → length (without_attachment block pointer cs) < length cs
shorter block pointer [] there = cc
shorter block pointer (c ∷ cs) there = go (shorter block pointer cs) (is_of block pointer c) there
  where
    go : (IsSome (find (is_of block pointer) cs) → length (without_attachment block pointer cs) < length cs) → (s : Bool) → IsSome (cond s (Some c) (find (is_of block pointer) cs)) → length (cond (not s) (c ∷ without_attachment block pointer cs) (without_attachment block pointer cs)) < length (c ∷ cs)
    go rest true h = omega (arith, no_longer block pointer cs)
    go rest false h = omega (arith, rest h)
