-- The attachment counters after each change: the count of each pointer, the order of the counters, and their bounds.
use Rattle.std.proofs.Common.{ℕ, ◌≡◌, ◌+◌, ◌-◌, ◌<◌, ◌≤◌, refl, sym, ap, subst, ◌∙◌, Bool, true, false, cond, ◌&&◌, ◌||◌, List, [], ◌∷◌, Some, None, arith, inl, inr}
use Rattle.std.specs.Prelude.{◌==◌, not, nat_le, nat_lt, find, filter, option_map, unwrap_or}
use Rattle.std.specs.List.{AllByRecursion}
use Rattle.std.proofs.lemmas.Bool.Decides.{nat_tests}
use Rattle.acc_base.specs.Words.{Attachment, Aim}
use Rattle.acc_base.specs.declared.attachments.Aim.TheVariants as aims
use Rattle.acc_base.specs.Section.{covers}
use Rattle.acc_base.specs.Accounts.{EachPair}
use Rattle.acc_base.specs.Attachments.{pointer_at, is_of, IsBefore, is_before, IsCountWithin, count_at, with_attachment, without_attachment, with_count, without_attachments, detach, attached_by, count_after, is_skipped, next_pointer}
use Rattle.acc_base.proofs.Results.{and_true, equal, equal_self}
use Rattle.acc_base.proofs.Elements.{AllByRecursion-weaker, AllByRecursion-filter, EachPair-filter, find-none}
use Rattle.acc_base.proofs.InPlace.{IsPut, all-put, pairs-put, find-put_new, find-put_other}

-- ---- the order

-- it is the counter of its own pointer
pub own : (a : Attachment) → is_of a.block a.pointer a ≡ true
own a = rw (equal_self a.block) (equal_self a.pointer)

-- the counter of a pointer has its block and its address
pub same_block : (block pointer : ℕ) (a : Attachment) → is_of block pointer a ≡ true → a.block ≡ block
same_block block pointer a e = equal a.block block (and_true _ _ e).0

-- and of its address
pub same_pointer : (block pointer : ℕ) (a : Attachment) → is_of block pointer a ≡ true → a.pointer ≡ pointer
same_pointer block pointer a e = equal a.pointer pointer (and_true _ _ e).1

-- the test says what the order is
pub before : (a b : Attachment) → is_before a b ≡ true → IsBefore a b
before a b e = go (nat_lt a.block b.block) refl e
  where
    go : (t : Bool) → nat_lt a.block b.block ≡ t → (t || (a.block == b.block && nat_lt a.pointer b.pointer)) ≡ true → IsBefore a b
    go true f h = inl (grind (arith, nat_tests))
    go false f h = let both = and_true (a.block == b.block) (nat_lt a.pointer b.pointer) h in let less = both.1 in inr (equal _ _ both.0, grind (arith, nat_tests))

-- of two counters of different pointers the one stands before the other
pub behind : (a b : Attachment) → is_before a b ≡ false → is_of a.block a.pointer b ≡ false → IsBefore b a
behind a b e o = go (nat_lt a.block b.block) refl e (a.block == b.block) refl
  where
    go : (t : Bool) → nat_lt a.block b.block ≡ t → (t || (a.block == b.block && nat_lt a.pointer b.pointer)) ≡ false → (s : Bool) → (a.block == b.block) ≡ s → IsBefore b a
    go true f h s g = cc
    go false f h true g =
        let block : a.block ≡ b.block = equal _ _ g in
        let least : nat_lt a.pointer b.pointer ≡ false = rw g at h in
        let this : (b.block == a.block) ≡ true = grind (arith, nat_tests) in
        let other : (b.pointer == a.pointer) ≡ false = rw this at o in
        inr (sym block, grind (arith, nat_tests))
    go false f h false g = inl (grind (arith, nat_tests))

-- the order is one
pub before-trans : (a b c : Attachment) → IsBefore a b → IsBefore b c → IsBefore a c
before-trans a b c (inl h) (inl k) = inl (omega arith)
before-trans a b c (inl h) (inr k) = inl (omega (arith, k.0))
before-trans a b c (inr h) (inl k) = inl (omega (arith, h.0))
before-trans a b c (inr h) (inr k) = inr (h.0 ∙ k.0, omega (arith, h.1, k.1))

-- a new counter goes in by the order
pub put_attachment : (new : Attachment) → IsPut new (is_before new) (with_attachment new)
put_attachment new = record { alone = refl; among = λ x xs. refl }

-- ---- searches

module _ (test : Attachment → Bool) where
  -- a search finds what it found where all that passes its test is kept
  find-filter_kept : (keep : Attachment → Bool) (xs : List Attachment) → ((x : Attachment) → test x ≡ true → keep x ≡ true) → find test (filter keep xs) ≡ find test xs
  find-filter_kept keep [] h = refl
  find-filter_kept keep (x ∷ xs) h = go (find-filter_kept keep xs h) (keep x) refl (test x) refl
    where
      go : find test (filter keep xs) ≡ find test xs → (b : Bool) → keep x ≡ b → (c : Bool) → test x ≡ c → find test (cond b (x ∷ filter keep xs) (filter keep xs)) ≡ cond c (Some x) (find test xs)
      go rest true e true f = rw f
      go rest true e false f = rw f rest
      go rest false e true f = let k : keep x ≡ true = h x f in cc
      go rest false e false f = rest

-- what is left after a counter was taken out is of other pointers
pub others : (block pointer : ℕ) (xs : List Attachment) → AllByRecursion (λ x. is_of block pointer x ≡ false) (without_attachment block pointer xs)
others block pointer [] = tt
others block pointer (x ∷ xs) = go (others block pointer xs) (is_of block pointer x) refl
  where
    go : AllByRecursion (λ y. is_of block pointer y ≡ false) (without_attachment block pointer xs) → (b : Bool) → is_of block pointer x ≡ b → AllByRecursion (λ y. is_of block pointer y ≡ false) (cond (not b) (x ∷ without_attachment block pointer xs) (without_attachment block pointer xs))
    go rest true e = rest
    go rest false e = (e, rest)

-- ---- one count

-- a pointer whose counter is set has that count
pub count_at-with_count_same : (block pointer count : ℕ) (xs : List Attachment) → count_at block pointer (with_count block pointer count xs) ≡ count
count_at-with_count_same block pointer count xs = go (count == 0) refl
  where
    go : (b : Bool) → (count == 0) ≡ b → count_at block pointer (cond b (without_attachment block pointer xs) (with_attachment (record { block = block; pointer = pointer; count = count }) (without_attachment block pointer xs))) ≡ count
    go true e = ap (λ o. unwrap_or (option_map (λ (a : Attachment). a.count) o) 0) (find-none (is_of block pointer) _ (others block pointer xs)) ∙ sym (equal _ _ e)
    go false e = ap (λ o. unwrap_or (option_map (λ (a : Attachment). a.count) o) 0) (find-put_new (put_attachment (record { block = block; pointer = pointer; count = count })) (is_of block pointer) _ (own (record { block = block; pointer = pointer; count = count })) (find-none (is_of block pointer) _ (others block pointer xs)))

-- the other pointers' counters are left
kept_others : (block pointer b p : ℕ) (x : Attachment) → (b == block && p == pointer) ≡ false → is_of block pointer x ≡ true → not (is_of b p x) ≡ true
kept_others block pointer b p x other e = go (is_of b p x) refl
  where
    go : (t : Bool) → is_of b p x ≡ t → not t ≡ true
    go true f =
        let block_is : x.block ≡ block = same_block block pointer x e in
        let pointer_is : x.pointer ≡ pointer = same_pointer block pointer x e in
        let b_is : x.block ≡ b = same_block b p x f in
        let p_is : x.pointer ≡ p = same_pointer b p x f in
        let block_same : (b == block) ≡ true = grind (arith, nat_tests) in
        let pointer_same : (p == pointer) ≡ true = grind (arith, nat_tests) in
        let bad : (p == pointer) ≡ false = rw block_same at other in
        cc
    go false f = refl

-- and each other has the count that it had
pub count_at-with_count_other : (block pointer b p count : ℕ) (xs : List Attachment) → (b == block && p == pointer) ≡ false → count_at block pointer (with_count b p count xs) ≡ count_at block pointer xs
count_at-with_count_other block pointer b p count xs other = ap (λ o. unwrap_or (option_map (λ (a : Attachment). a.count) o) 0) (go (count == 0))
  where
    kept : find (is_of block pointer) (without_attachment b p xs) ≡ find (is_of block pointer) xs
    kept = find-filter_kept (is_of block pointer) (λ a. not (is_of b p a)) xs (λ x e. kept_others block pointer b p x other e)

    go : (t : Bool) → find (is_of block pointer) (cond t (without_attachment b p xs) (with_attachment (record { block = b; pointer = p; count = count }) (without_attachment b p xs))) ≡ find (is_of block pointer) xs
    go true = kept
    go false = find-put_other (put_attachment (record { block = b; pointer = p; count = count })) (is_of block pointer) (without_attachment b p xs) other ∙ kept

-- the count of a pointer after any counter is set
pub count_at-with_count : (block pointer b p count : ℕ) (xs : List Attachment) → count_at block pointer (with_count b p count xs) ≡ cond (b == block && p == pointer) count (count_at block pointer xs)
count_at-with_count block pointer b p count xs = go (b == block && p == pointer) refl
  where
    go : (t : Bool) → (b == block && p == pointer) ≡ t → count_at block pointer (with_count b p count xs) ≡ cond t count (count_at block pointer xs)
    go true e =
        let block_is : b ≡ block = equal _ _ (and_true _ _ e).0 in
        let pointer_is : p ≡ pointer = equal _ _ (and_true _ _ e).1 in
        subst (λ (k : ℕ). count_at k pointer (with_count b p count xs) ≡ count) block_is (subst (λ (k : ℕ). count_at b k (with_count b p count xs) ≡ count) pointer_is (count_at-with_count_same b p count xs))
    go false e = count_at-with_count_other block pointer b p count xs e

-- a count that is worked out from the pointer's own
count_at-with_own : (block pointer b p : ℕ) (f : ℕ → ℕ) (xs : List Attachment) → count_at block pointer (with_count b p (f (count_at b p xs)) xs) ≡ cond (b == block && p == pointer) (f (count_at block pointer xs)) (count_at block pointer xs)
count_at-with_own block pointer b p f xs = count_at-with_count block pointer b p (f (count_at b p xs)) xs ∙ go (b == block && p == pointer) refl
  where
    go : (t : Bool) → (b == block && p == pointer) ≡ t → cond t (f (count_at b p xs)) (count_at block pointer xs) ≡ cond t (f (count_at block pointer xs)) (count_at block pointer xs)
    go true e = ap f (ap (λ (k : ℕ). count_at k p xs) (equal _ _ (and_true _ _ e).0) ∙ ap (λ (k : ℕ). count_at block k xs) (equal _ _ (and_true _ _ e).1))
    go false e = refl

-- the count of each pointer after an attachment or a detachment
pub count_at-attached_by : (block pointer : ℕ) (aim : Aim) (xs : List Attachment) → count_at block pointer (attached_by aim xs) ≡ count_after block pointer aim (count_at block pointer xs)
count_at-attached_by block pointer aims.None xs = refl
count_at-attached_by block pointer (aims.New p b target) xs = count_at-with_count block pointer b p 1 xs
count_at-attached_by block pointer (aims.Again p b) xs = count_at-with_own block pointer b p (λ n. n + 1) xs
count_at-attached_by block pointer (aims.Less p b) xs = count_at-with_own block pointer b p (λ n. n - 1) xs
count_at-attached_by block pointer (aims.Cleared p b) xs = count_at-with_count block pointer b p 0 xs

-- and those of the others as before
pub count_at-without_other : (block pointer other : ℕ) (xs : List Attachment) → (block == other) ≡ false → count_at block pointer (without_attachments other xs) ≡ count_at block pointer xs
count_at-without_other block pointer other xs differs = ap (λ o. unwrap_or (option_map (λ (a : Attachment). a.count) o) 0) (find-filter_kept (is_of block pointer) (λ a. not (a.block == other)) xs (λ x e. let block_is : x.block ≡ block = same_block block pointer x e in let t : (x.block == other) ≡ false = grind (arith, nat_tests) in rw t))

-- ---- the order of the counters

-- a new counter goes in where it keeps the order
rising-with : (new : Attachment) (xs : List Attachment) → AllByRecursion (λ x. is_of new.block new.pointer x ≡ false) xs → EachPair IsBefore xs → EachPair IsBefore (with_attachment new xs)
rising-with new xs other h = pairs-put (put_attachment new) IsBefore (λ x y first k. before-trans new x y first k) xs (AllByRecursion-weaker (λ x. is_of new.block new.pointer x ≡ false) (λ x. (is_before new x ≡ true → IsBefore new x) × (is_before new x ≡ false → IsBefore x new)) xs
    (λ x differs. (before new x, λ e. behind new x e differs)) other) h

-- the counters still rise after one is set
pub rising-with_count : (block pointer count : ℕ) (xs : List Attachment) → EachPair IsBefore xs → EachPair IsBefore (with_count block pointer count xs)
rising-with_count block pointer count xs h = go (count == 0)
  where
    left : EachPair IsBefore (without_attachment block pointer xs)
    left = EachPair-filter IsBefore (λ a. not (is_of block pointer a)) xs h

    go : (b : Bool) → EachPair IsBefore (cond b (without_attachment block pointer xs) (with_attachment (record { block = block; pointer = pointer; count = count }) (without_attachment block pointer xs)))
    go true = left
    go false = rising-with (record { block = block; pointer = pointer; count = count }) (without_attachment block pointer xs) (others block pointer xs) left

-- and after any attachment or detachment
pub rising-attached_by : (aim : Aim) (xs : List Attachment) → EachPair IsBefore xs → EachPair IsBefore (attached_by aim xs)
rising-attached_by aims.None xs h = h
rising-attached_by (aims.New pointer block target) xs h = rising-with_count block pointer 1 xs h
rising-attached_by (aims.Again pointer block) xs h = rising-with_count block pointer (count_at block pointer xs + 1) xs h
rising-attached_by (aims.Less pointer block) xs h = rising-with_count block pointer (count_at block pointer xs - 1) xs h
rising-attached_by (aims.Cleared pointer block) xs h = rising-with_count block pointer 0 xs h

-- and after those of a block are forgotten
pub rising-without : (block : ℕ) (xs : List Attachment) → EachPair IsBefore xs → EachPair IsBefore (without_attachments block xs)
rising-without block xs h = EachPair-filter IsBefore (λ a. not (a.block == block)) xs h

-- ---- bounds

-- a count is within the bounds where it is not zero
pub count_at-most : (most block pointer : ℕ) (xs : List Attachment) → AllByRecursion (IsCountWithin most) xs → count_at block pointer xs ≤ most
count_at-most most block pointer [] h = omega arith
count_at-most most block pointer (x ∷ xs) h = go (count_at-most most block pointer xs h.1) (is_of block pointer x)
  where
    go : count_at block pointer xs ≤ most → (b : Bool) → unwrap_or (option_map (λ (a : Attachment). a.count) (cond b (Some x) (find (is_of block pointer) xs))) 0 ≤ most
    go rest true = h.0.limit
    go rest false = rest

-- where a pointer counts nothing it has no counter
pub none_at : (most block pointer : ℕ) (xs : List Attachment) → AllByRecursion (IsCountWithin most) xs → count_at block pointer xs ≡ 0 → find (is_of block pointer) xs ≡ None
none_at most block pointer [] h e = refl
none_at most block pointer (x ∷ xs) h e = go (none_at most block pointer xs h.1) (is_of block pointer x) e
  where
    go : (count_at block pointer xs ≡ 0 → find (is_of block pointer) xs ≡ None) → (b : Bool) → unwrap_or (option_map (λ (a : Attachment). a.count) (cond b (Some x) (find (is_of block pointer) xs))) 0 ≡ 0 → cond b (Some x) (find (is_of block pointer) xs) ≡ None
    go rest true k = let some = h.0.some in absurd (omega (arith, k))
    go rest false k = rest k

-- the counters keep their bounds where one is set to a number up to the limit
pub counted-with_count : (most block pointer count : ℕ) (xs : List Attachment) → count ≤ most → AllByRecursion (IsCountWithin most) xs → AllByRecursion (IsCountWithin most) (with_count block pointer count xs)
counted-with_count most block pointer count xs le h = go (count == 0) refl
  where
    left : AllByRecursion (IsCountWithin most) (without_attachment block pointer xs)
    left = AllByRecursion-filter (IsCountWithin most) (λ a. not (is_of block pointer a)) xs h

    go : (b : Bool) → (count == 0) ≡ b → AllByRecursion (IsCountWithin most) (cond b (without_attachment block pointer xs) (with_attachment (record { block = block; pointer = pointer; count = count }) (without_attachment block pointer xs)))
    go true e = left
    go false e = all-put (put_attachment (record { block = block; pointer = pointer; count = count })) (IsCountWithin most) (without_attachment block pointer xs) (record { some = grind (arith, nat_tests); limit = le }) left

-- a detachment lowers the count, or leaves it
pub detached_within : (most : ℕ) (immediate : Bool) (block pointer : ℕ) (xs : List Attachment) → AllByRecursion (IsCountWithin most) xs → AllByRecursion (IsCountWithin most) (attached_by (detach immediate block pointer xs) xs)
detached_within most immediate block pointer xs h = go (count_at block pointer xs == 0) immediate
  where
    go : (b i : Bool) → AllByRecursion (IsCountWithin most) (attached_by (cond b aims.None (cond i (aims.Cleared pointer block) (aims.Less pointer block))) xs)
    go true i = h
    go false true = counted-with_count most block pointer 0 xs (omega arith) h
    go false false = let least = count_at-most most block pointer xs h in counted-with_count most block pointer (count_at block pointer xs - 1) xs (omega arith) h

-- the counters that are left of a block that is forgotten keep their bounds
pub within-without : (most block : ℕ) (xs : List Attachment) → AllByRecursion (IsCountWithin most) xs → AllByRecursion (IsCountWithin most) (without_attachments block xs)
within-without most block xs h = AllByRecursion-filter (IsCountWithin most) (λ a. not (a.block == block)) xs h

-- ---- the bytes that no transfer touches

-- an address is none of a counter's bytes where its pointer, in the block, does not cover it
skips-false : (block address : ℕ) (a : Attachment) → (a.block ≡ block → covers (pointer_at a.pointer) address ≡ false) → (a.block == block && covers (pointer_at a.pointer) address) ≡ false
skips-false block address a h = go (a.block == block) refl
  where
    go : (t : Bool) → (a.block == block) ≡ t → (t && covers (pointer_at a.pointer) address) ≡ false
    go true e = h (equal _ _ e)
    go false e = refl

-- a pointer that begins eight bytes or more below an address does not reach it
short_of : (pointer from address : ℕ) → nat_le (from - 7) pointer ≡ false → from ≤ address → covers (pointer_at pointer) address ≡ false
short_of pointer from address e le = go (nat_le pointer address) refl
  where
    go : (t : Bool) → nat_le pointer address ≡ t → (t && nat_lt address (pointer + 8)) ≡ false
    go true f = let less : pointer < from - 7 = grind (arith, nat_tests) in grind (arith, nat_tests)
    go false f = refl

-- nor does one that begins above it
past_it : (pointer address : ℕ) → address < pointer → covers (pointer_at pointer) address ≡ false
past_it pointer address less = let t : nat_le pointer address ≡ false = grind (arith, nat_tests) in rw t

-- where no pointer begins at seven bytes below an address or above, no byte from the address on is skipped
pub clear_to_end : (block from address : ℕ) (xs : List Attachment) → next_pointer block (from - 7) xs ≡ None → from ≤ address → is_skipped block xs address ≡ false
clear_to_end block from address [] e le = refl
clear_to_end block from address (x ∷ xs) e le = go (clear_to_end block from address xs) (x.block == block) refl (nat_le (from - 7) x.pointer) refl e
  where
    go : (next_pointer block (from - 7) xs ≡ None → from ≤ address → is_skipped block xs address ≡ false) → (s : Bool) → (x.block == block) ≡ s → (t : Bool) → nat_le (from - 7) x.pointer ≡ t
        → option_map (λ (a : Attachment). a.pointer) (cond (s && t) (Some x) (find (λ a. a.block == block && nat_le (from - 7) a.pointer) xs)) ≡ None → ((s && covers (pointer_at x.pointer) address) || is_skipped block xs address) ≡ false
    go rest true f true g h = cc
    go rest true f false g h = rw (short_of x.pointer from address g le) (rest h le)
    go rest false f t g h = rest h le

-- nor is one below a pointer skipped for the counters that stand behind it
clear_behind : (block address : ℕ) (x : Attachment) (xs : List Attachment) → x.block ≡ block → address < x.pointer → AllByRecursion (IsBefore x) xs → is_skipped block xs address ≡ false
clear_behind block address x [] e less h = refl
clear_behind block address x (y ∷ ys) e less h = rw (skips-false block address y (λ f. past_it y.pointer address (later f h.0))) (clear_behind block address x ys e less h.1)
  where
    later : y.block ≡ block → IsBefore x y → address < y.pointer
    later f (inl k) = absurd (omega arith)
    later f (inr k) = omega (arith, k.1)

-- where the next pointer begins above, no byte up to it is skipped
pub clear_to_next : (block from address next : ℕ) (xs : List Attachment) → EachPair IsBefore xs → next_pointer block (from - 7) xs ≡ Some next → from ≤ address → address < next → is_skipped block xs address ≡ false
clear_to_next block from address next [] r e le less = cc
clear_to_next block from address next (x ∷ xs) r e le less = go (clear_to_next block from address next xs r.1) (x.block == block) refl (nat_le (from - 7) x.pointer) refl e
  where
    go : (next_pointer block (from - 7) xs ≡ Some next → from ≤ address → address < next → is_skipped block xs address ≡ false) → (s : Bool) → (x.block == block) ≡ s → (t : Bool) → nat_le (from - 7) x.pointer ≡ t
        → option_map (λ (a : Attachment). a.pointer) (cond (s && t) (Some x) (find (λ a. a.block == block && nat_le (from - 7) a.pointer) xs)) ≡ Some next → ((s && covers (pointer_at x.pointer) address) || is_skipped block xs address) ≡ false
    go rest true f true g h =
        let is : x.pointer ≡ next = cc in
        let below : address < x.pointer = omega arith in
        rw (past_it x.pointer address below) (clear_behind block address x xs (equal _ _ f) below r.0)
    go rest true f false g h = rw (short_of x.pointer from address g le) (rest h le less)
    go rest false f t g h = rest h le less

-- and the eight bytes from the next pointer on are its own
pub skipped_at_next : (block from address next : ℕ) (xs : List Attachment) → next_pointer block from xs ≡ Some next → next ≤ address → address < next + 8 → is_skipped block xs address ≡ true
skipped_at_next block from address next [] e le less = cc
skipped_at_next block from address next (x ∷ xs) e le less = go (skipped_at_next block from address next xs) (x.block == block) (nat_le from x.pointer) e
  where
    go : (next_pointer block from xs ≡ Some next → next ≤ address → address < next + 8 → is_skipped block xs address ≡ true) → (s t : Bool)
        → option_map (λ (a : Attachment). a.pointer) (cond (s && t) (Some x) (find (λ a. a.block == block && nat_le from a.pointer) xs)) ≡ Some next → ((s && covers (pointer_at x.pointer) address) || is_skipped block xs address) ≡ true
    go rest true true h =
        let is : x.pointer ≡ next = cc in
        let low : nat_le x.pointer address ≡ true = grind (arith, nat_tests) in
        let high : nat_lt address (x.pointer + 8) ≡ true = grind (arith, nat_tests) in
        rw (low, high)
    go rest true false h = let later = rest h le less in go_or (covers (pointer_at x.pointer) address) later
      where
        go_or : (c : Bool) → is_skipped block xs address ≡ true → (c || is_skipped block xs address) ≡ true
        go_or true k = refl
        go_or false k = k
    go rest false t h = rest h le less
