-- Counters by rising block and pointer: searches that begin at a pointer.
use Rattle.std.proofs.Common.{ℕ, ◌≡◌, ◌<◌, ◌≤◌, refl, sym, ap, ◌∙◌, Bool, true, false, cond, ◌&&◌, ◌||◌, List, [], ◌∷◌, Option, Some, None, arith, inl, inr}
use Rattle.std.specs.Prelude.{◌⊎◌, ◌==◌, not, nat_le, nat_lt, find, option_map}
use Rattle.std.proofs.lemmas.Bool.Decides.{nat_tests}
use Rattle.acc_base.specs.declared.attachments.Attachment.{Attachment}
use Rattle.acc_base.specs.Accounts.{EachPair}
use Rattle.acc_base.specs.Attachments.{IsBefore, next_pointer}
use Rattle.acc_base.proofs.Results.{equal}
use Rattle.acc_base.proofs.Elements.{AllByRecursion-weaker, find-none}
use Rattle.acc_base.proofs.Attached.{before}
use Rattle.acc_present.specs.KeptCounters.{is_below, is_from}

-- a counter with this key
abbrev probe : ℕ → ℕ → Attachment
probe block pointer = record { block = block; pointer = pointer; count = 0 }

-- ---- where a counter stands that comes at a pointer or behind

-- it is of a later block, or of the pointer's block and begins at the pointer or above
abbrev pub IsAtOrBehind : ℕ → ℕ → Attachment → Type 0
IsAtOrBehind block pointer a = (block < a.block) ⊎ ((a.block ≡ block) × (pointer ≤ a.pointer))

-- what fails the test of standing before a pointer comes there or behind
pub at_or_behind : (block pointer : ℕ) (a : Attachment) → is_below block pointer a ≡ false → IsAtOrBehind block pointer a
at_or_behind block pointer a e = go (nat_lt a.block block) refl (a.block == block) refl (nat_lt a.pointer pointer) refl e
  where
    go : (s : Bool) → nat_lt a.block block ≡ s → (t : Bool) → (a.block == block) ≡ t → (u : Bool) → nat_lt a.pointer pointer ≡ u → (s || (t && u)) ≡ false → IsAtOrBehind block pointer a
    go false f true g false h k = inr (equal _ _ g, grind (arith, nat_tests))
    go false f false g u h k = inl (grind (arith, nat_tests))
    go _ f _ g _ h k = cc

-- a counter behind one of a later block is of a later block
later_block : (block : ℕ) (a b : Attachment) → block < a.block → IsBefore a b → (b.block == block) ≡ false
later_block block a b less (inl h) = let more : block < b.block = omega arith in grind (arith, nat_tests)
later_block block a b less (inr h) = let more : block < b.block = omega (arith, h.0) in grind (arith, nat_tests)

-- a counter that a search from a pointer on finds does not stand before it
found_first : (block pointer : ℕ) (xs : List Attachment) (a : Attachment) → Some a ≡ find (is_from block pointer) xs → is_below block pointer a ≡ false
found_first block pointer xs a e = not_true (is_below block pointer a) (found_passes xs (sym e))
  where
    not_true : (b : Bool) → not b ≡ true → b ≡ false
    not_true true f = cc
    not_true false f = refl

    found_passes : (ys : List Attachment) → find (is_from block pointer) ys ≡ Some a → is_from block pointer a ≡ true
    found_passes [] f = cc
    found_passes (y ∷ ys) f = go (found_passes ys) (is_from block pointer y) refl f
      where
        go : (find (is_from block pointer) ys ≡ Some a → is_from block pointer a ≡ true) → (b : Bool) → is_from block pointer y ≡ b → cond b (Some y) (find (is_from block pointer) ys) ≡ Some a → is_from block pointer a ≡ true
        go rest true g k = let same : y ≡ a = cc in rw (← same) g
        go rest false g k = rest k

-- ---- the next pointer

-- what passes the test, if anything does
abbrev passed : (Attachment → Bool) → Option Attachment → Option Attachment
passed test None = None
passed test (Some a) = cond (test a) (Some a) None

-- it is a pointer of the block that begins at the address or above
abbrev begins_from : ℕ → ℕ → Attachment → Bool
begins_from block address a = a.block == block && nat_le address a.pointer

-- a counter that stands before an address passes no such test
not_next_below : (block address : ℕ) (a : Attachment) → IsBefore a (probe block address) → begins_from block address a ≡ false
not_next_below block address a (inl h) = let t : (a.block == block) ≡ false = grind (arith, nat_tests) in rw t
not_next_below block address a (inr h) = let s : (a.block == block) ≡ true = grind (arith, nat_tests, h.0) in let t : nat_le address a.pointer ≡ false = grind (arith, nat_tests, h.1) in rw (s, t)

-- one of the block from there on does
next_test : (block address : ℕ) (a : Attachment) → a.block ≡ block → address ≤ a.pointer → begins_from block address a ≡ true
next_test block address a is le = let s : (a.block == block) ≡ true = grind (arith, nat_tests) in let t : nat_le address a.pointer ≡ true = grind (arith, nat_tests) in rw (s, t)

-- and where the first from there on does not, no later one does
not_next_behind : (block address : ℕ) (a b : Attachment) → IsAtOrBehind block address a → begins_from block address a ≡ false → IsBefore a b → begins_from block address b ≡ false
not_next_behind block address a b (inl h) e k = rw (later_block block a b h k)
not_next_behind block address a b (inr h) e k = let t = next_test block address a h.0 h.1 in cc

-- so the next pointer is that of the first one from there on, or there is none
find_next : (block address : ℕ) (xs : List Attachment) → EachPair IsBefore xs → find (begins_from block address) xs ≡ passed (begins_from block address) (find (is_from block address) xs)
find_next block address [] h = refl
find_next block address (x ∷ xs) h = go (find_next block address xs h.1) (is_below block address x) refl
  where
    rest : is_below block address x ≡ false → (t : Bool) → begins_from block address x ≡ t → cond t (Some x) (find (begins_from block address) xs) ≡ cond t (Some x) None
    rest e true f = refl
    rest e false f = find-none (begins_from block address) xs (AllByRecursion-weaker (IsBefore x) (λ y. begins_from block address y ≡ false) xs (λ y k. not_next_behind block address x y (at_or_behind block address x e) f k) h.0)

    go : find (begins_from block address) xs ≡ passed (begins_from block address) (find (is_from block address) xs) → (b : Bool) → is_below block address x ≡ b → cond (begins_from block address x) (Some x) (find (begins_from block address) xs) ≡ passed (begins_from block address) (cond (not b) (Some x) (find (is_from block address) xs))
    go later true e = rw (not_next_below block address x (before x (probe block address) e)) later
    go later false e = rest e (begins_from block address x) refl

-- the first counter from an address on is of the block
pub next_there : (block address : ℕ) (xs : List Attachment) (a : Attachment) → EachPair IsBefore xs → Some a ≡ find (is_from block address) xs → a.block ≡ block → Some a.pointer ≡ next_pointer block address xs
next_there block address xs a h e is = go (at_or_behind block address a (found_first block address xs a e))
  where
    go : IsAtOrBehind block address a → Some a.pointer ≡ next_pointer block address xs
    go (inl less) = absurd (omega arith)
    go (inr both) =
        let t = next_test block address a both.0 both.1 in
        let f : find (begins_from block address) xs ≡ Some a = find_next block address xs h ∙ ap (passed (begins_from block address)) (sym e) ∙ rw t in
        sym (ap (option_map (λ (x : Attachment). x.pointer)) f)

-- it is of another
pub next_not : (block address : ℕ) (xs : List Attachment) (a : Attachment) → EachPair IsBefore xs → Some a ≡ find (is_from block address) xs → (a.block ≡ block → ⊥) → None ≡ next_pointer block address xs
next_not block address xs a h e other =
    let t : (a.block == block) ≡ false = grind (arith, nat_tests, other) in
    let f : find (begins_from block address) xs ≡ None = find_next block address xs h ∙ ap (passed (begins_from block address)) (sym e) ∙ rw t in
    sym (ap (option_map (λ (x : Attachment). x.pointer)) f)

-- there is none
pub next_past : (block address : ℕ) (xs : List Attachment) → EachPair IsBefore xs → None ≡ find (is_from block address) xs → None ≡ next_pointer block address xs
next_past block address xs h e =
    let f : find (begins_from block address) xs ≡ None = find_next block address xs h ∙ ap (passed (begins_from block address)) (sym e) in
    sym (ap (option_map (λ (x : Attachment). x.pointer)) f)
