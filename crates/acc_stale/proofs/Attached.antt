-- The attached pointers of one block, after each change of all of them.
use Rattle.std.proofs.Common.{◌≡◌, ℕ, ◌<◌, Bool, true, false, ◌==◌, not, cond, List, [], ◌∷◌, Option, Some, None, unwrap_or, option_map, refl, sym, ap, subst, ◌∙◌, arith, inl, inr}
use Rattle.std.specs.Prelude.{IsSome}
use Rattle.std.specs.List.{find, AllByRecursion}
use Rattle.std.proofs.lemmas.Bool.Decides.{nat_tests}
use Rattle.acc_base.specs.declared.attachments.Attachment.{Attachment}
use Rattle.acc_base.specs.declared.mappings.Block.{Block}
use Rattle.acc_base.specs.Accounts.{EachPair}
use Rattle.acc_base.specs.Blocks.{block_at}
use Rattle.acc_base.specs.Attachments.{is_of, IsBefore, is_before, count_at, with_attachment, without_attachment, with_count, without_attachments}
use Rattle.acc_base.proofs.Results.{equal, equal_self, differ}
use Rattle.acc_base.proofs.Elements.{EachPair-filter, AllByRecursion-weaker, filter-none}
use Rattle.acc_base.proofs.Attached.{same_block, before}
use Rattle.acc_stale.specs.Events.{pointers_of}

-- ---- another block's are taken out

pub kept_without : (b k : ℕ) (xs : List Attachment) → (b == k) ≡ false → pointers_of b (without_attachments k xs) ≡ pointers_of b xs
kept_without b k [] other = refl
kept_without b k (x ∷ xs) other = go (x.block == k) refl (x.block == b) refl (kept_without b k xs other)
  where
    go : (s : Bool) → (x.block == k) ≡ s → (t : Bool) → (x.block == b) ≡ t → pointers_of b (without_attachments k xs) ≡ pointers_of b xs
        → pointers_of b (cond (not s) (x ∷ without_attachments k xs) (without_attachments k xs)) ≡ cond t (x ∷ pointers_of b xs) (pointers_of b xs)
    go true f true g rest = absurd (differ b k other (sym (equal _ _ g) ∙ equal _ _ f))
    go true f false g rest = rest
    go false f t g rest = rw g (ap (λ ys. cond t (x ∷ ys) ys) rest)

-- none are there of a block that is not
pub none_of_new : (k : ℕ) (blocks : List Block) (xs : List Attachment) → block_at k blocks ≡ None → AllByRecursion (λ a. IsSome (block_at a.block blocks)) xs → pointers_of k xs ≡ []
none_of_new k blocks xs none there = filter-none (λ a. a.block == k) xs (AllByRecursion-weaker (λ a. IsSome (block_at a.block blocks)) (λ a. (a.block == k) ≡ false) xs (λ a some. other a some (a.block == k) refl) there)
  where
    other : (a : Attachment) → IsSome (block_at a.block blocks) → (s : Bool) → (a.block == k) ≡ s → s ≡ false
    other a some true e =
        let is : a.block ≡ k = equal _ _ e in
        let there : IsSome (block_at k blocks) = subst (λ (b : ℕ). IsSome (block_at b blocks)) is some in
        let bad : false ≡ true = rw none at there in cc
    other a some false e = refl

-- ---- one count is set

-- a pointer is taken out
out_same : (k p : ℕ) (xs : List Attachment) → pointers_of k (without_attachment k p xs) ≡ without_attachment k p (pointers_of k xs)
out_same k p [] = refl
out_same k p (x ∷ xs) = go (is_of k p x) refl (x.block == k) refl (out_same k p xs)
  where
    go : (s : Bool) → is_of k p x ≡ s → (t : Bool) → (x.block == k) ≡ t → pointers_of k (without_attachment k p xs) ≡ without_attachment k p (pointers_of k xs)
        → pointers_of k (cond (not s) (x ∷ without_attachment k p xs) (without_attachment k p xs)) ≡ without_attachment k p (cond t (x ∷ pointers_of k xs) (pointers_of k xs))
    go true f true g rest = rw f rest
    go true f false g rest = rest
    go false f true g rest = rw (f, g) (ap (λ ys. x ∷ ys) rest)
    go false f false g rest = rw g rest

out_other : (b k p : ℕ) (xs : List Attachment) → (b == k) ≡ false → pointers_of b (without_attachment k p xs) ≡ pointers_of b xs
out_other b k p [] other = refl
out_other b k p (x ∷ xs) other = go (is_of k p x) refl (x.block == b) refl (out_other b k p xs other)
  where
    go : (s : Bool) → is_of k p x ≡ s → (t : Bool) → (x.block == b) ≡ t → pointers_of b (without_attachment k p xs) ≡ pointers_of b xs
        → pointers_of b (cond (not s) (x ∷ without_attachment k p xs) (without_attachment k p xs)) ≡ cond t (x ∷ pointers_of b xs) (pointers_of b xs)
    go true f true g rest = absurd (differ b k other (sym (equal _ _ g) ∙ same_block k p x f))
    go true f false g rest = rest
    go false f t g rest = rw g (ap (λ ys. cond t (x ∷ ys) ys) rest)

-- a pointer is put in
in_other : (b : ℕ) (new : Attachment) (xs : List Attachment) → (new.block == b) ≡ false → pointers_of b (with_attachment new xs) ≡ pointers_of b xs
in_other b new [] other = rw other refl
in_other b new (x ∷ xs) other = go (is_before new x) (in_other b new xs other)
  where
    go : (s : Bool) → pointers_of b (with_attachment new xs) ≡ pointers_of b xs → pointers_of b (cond s (new ∷ x ∷ xs) (x ∷ with_attachment new xs)) ≡ pointers_of b (x ∷ xs)
    go true rest = rw other refl
    go false rest = ap (λ ys. cond (x.block == b) (x ∷ ys) ys) rest

-- those behind a block are of others
above : (k : ℕ) (x : Attachment) (xs : List Attachment) → k < x.block → AllByRecursion (IsBefore x) xs → pointers_of k xs ≡ []
above k x xs more all = filter-none (λ a. a.block == k) xs (AllByRecursion-weaker (IsBefore x) (λ a. (a.block == k) ≡ false) xs (λ a b. other a b) all)
  where
    other : (a : Attachment) → IsBefore x a → (a.block == k) ≡ false
    other a (inl h) = grind (arith, nat_tests, more, h)
    other a (inr h) = grind (arith, nat_tests, more, h.0)

in_same : (new : Attachment) (xs : List Attachment) → EachPair IsBefore xs → pointers_of new.block (with_attachment new xs) ≡ with_attachment new (pointers_of new.block xs)
in_same new [] rising = rw (equal_self new.block) refl
in_same new (x ∷ xs) rising = go (is_before new x) refl (x.block == new.block) refl (in_same new xs rising.1)
  where
    behind : (x.block == new.block) ≡ false → IsBefore new x → new.block < x.block
    behind g (inl h) = h
    behind g (inr h) = absurd (differ x.block new.block g (sym h.0))

    go : (s : Bool) → is_before new x ≡ s → (t : Bool) → (x.block == new.block) ≡ t → pointers_of new.block (with_attachment new xs) ≡ with_attachment new (pointers_of new.block xs)
        → pointers_of new.block (cond s (new ∷ x ∷ xs) (x ∷ with_attachment new xs)) ≡ with_attachment new (cond t (x ∷ pointers_of new.block xs) (pointers_of new.block xs))
    go true f true g rest = rw (equal_self new.block, g, f) refl
    go true f false g rest =
        let none : pointers_of new.block xs ≡ [] = above new.block x xs (behind g (before new x f)) rising.0 in
        rw (equal_self new.block, g, none) refl
    go false f true g rest = rw (f, g) (ap (λ ys. x ∷ ys) rest)
    go false f false g rest = rw g rest

-- the counter of a pointer of the block is set
pub set_same : (k p count : ℕ) (xs : List Attachment) → EachPair IsBefore xs → pointers_of k (with_count k p count xs) ≡ with_count k p count (pointers_of k xs)
set_same k p count xs rising = go (count == 0)
  where
    new : Attachment
    new = record { block = k; pointer = p; count = count }

    go : (s : Bool) → pointers_of k (cond s (without_attachment k p xs) (with_attachment new (without_attachment k p xs))) ≡ cond s (without_attachment k p (pointers_of k xs)) (with_attachment new (without_attachment k p (pointers_of k xs)))
    go true = out_same k p xs
    go false = in_same new (without_attachment k p xs) (EachPair-filter IsBefore (λ a. not (is_of k p a)) xs rising) ∙ ap (with_attachment new) (out_same k p xs)

-- or of one in another block
pub set_other : (b k p count : ℕ) (xs : List Attachment) → (b == k) ≡ false → pointers_of b (with_count k p count xs) ≡ pointers_of b xs
set_other b k p count xs other = go (count == 0)
  where
    swapped : (k == b) ≡ false
    swapped = grind (arith, nat_tests, other)

    go : (s : Bool) → pointers_of b (cond s (without_attachment k p xs) (with_attachment (record { block = k; pointer = p; count = count }) (without_attachment k p xs))) ≡ pointers_of b xs
    go true = out_other b k p xs other
    go false = in_other b (record { block = k; pointer = p; count = count }) (without_attachment k p xs) swapped ∙ out_other b k p xs other

-- ---- how often one is attached

pub count_in_block : (k p : ℕ) (xs : List Attachment) → count_at k p (pointers_of k xs) ≡ count_at k p xs
count_in_block k p [] = refl
count_in_block k p (x ∷ xs) = go (is_of k p x) refl (x.block == k) refl (count_in_block k p xs)
  where
    counted : Option Attachment → ℕ
    counted o = unwrap_or (option_map (λ (a : Attachment). a.count) o) 0

    go : (s : Bool) → is_of k p x ≡ s → (t : Bool) → (x.block == k) ≡ t → count_at k p (pointers_of k xs) ≡ count_at k p xs
        → count_at k p (cond t (x ∷ pointers_of k xs) (pointers_of k xs)) ≡ unwrap_or (option_map (λ (a : Attachment). a.count) (cond s (Some x) (find (is_of k p) xs))) 0
    go true f true g rest = rw f refl
    go true f false g rest = absurd (differ x.block k g (same_block k p x f))
    go false f true g rest = rw f rest
    go false f false g rest = rest
