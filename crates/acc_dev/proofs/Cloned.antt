-- What a copy of a device has: what contracts see of the device, and what it keeps.
use Rattle.std.proofs.Common.{ℕ, zero, suc, ◌≡◌, refl, sym, ap, ap₂, ◌∙◌, List, [], ◌∷◌, length, get_or, Option, Some, None}
use Rattle.std.specs.Prelude.{map, is_some, IsSome}
use Rattle.std.specs.List.{AllZip}
use Rattle.acc_base.proofs.Elements.{AllByRecursion-weaker}
use Rattle.acc_placement.specs.Space.{Space, IsCanonical, IsPartition, IsSameSpace}
use Rattle.slab.specs.Slab.{IsSlotClone}
use Rattle.acc_dev.specs.declared.entries.Stored.{Stored}
use Rattle.acc_dev.specs.Device.{IsUnchanged}
use Rattle.acc_dev.specs.Kept.{stored_place, stored_len, stored_bytes, stored_pins, stored_ended, stored_loan, block_from, memory_from, mark_from, loan_before, slot_of, blocks_in, memories_in, marks_in, loans_in, IsBacked, IsStoredCopy, AreSlotsKept}
use Rattle.acc_dev.proofs.Lent.{backed_like}
use Rattle.acc_dev.proofs.Lends.{none_here}
use Rattle.acc_dev.proofs.Keeping.{device_of}

-- ---- slots

-- what contracts see of a slot and of its copy
record IsAlike (a b : Option Stored) : Type 0 where
  filled : is_some b ≡ is_some a
  place : stored_place b ≡ stored_place a
  len : stored_len b ≡ stored_len a
  bytes : stored_bytes b ≡ stored_bytes a
  pins : stored_pins b ≡ stored_pins a
  ended : stored_ended b ≡ stored_ended a
  loan : stored_loan b ≡ stored_loan a

-- the copies of the slots stand in their places
abbrev pub AreCopies : List (Option Stored) → List (Option Stored) → Type 0
AreCopies s t = AllZip (IsSlotClone IsStoredCopy) s t

alike : (a b : Option Stored) → IsSlotClone IsStoredCopy a b → IsAlike a b
alike None b is = rw is (record { filled = refl; place = refl; len = refl; bytes = refl; pins = refl; ended = refl; loan = refl })
alike (Some a) None is = absurd is
alike (Some a) (Some b) is = record { filled = refl; place = is.place; len = is.len; bytes = is.bytes; pins = is.pins; ended = is.ended; loan = is.loan }

alike_at : (s t : List (Option Stored)) (k : ℕ) → AreCopies s t → IsAlike (get_or s k None) (get_or t k None)
alike_at [] [] k all = alike None None refl
alike_at [] (b ∷ t) k all = absurd all
alike_at (a ∷ s) [] k all = absurd all
alike_at (a ∷ s) (b ∷ t) zero all = alike a b all.0
alike_at (a ∷ s) (b ∷ t) (suc k) all = alike_at s t k all.1

-- what is made of the slots of an index is made of their copies
made-alike : {Y : Type 0} (f : ℕ → Option Stored → Y) (s t : List (Option Stored)) (xs : List (ℕ × ℕ)) → ((n : ℕ) (a b : Option Stored) → IsAlike a b → f n b ≡ f n a) → AreCopies s t → map (λ e. f e.0 (slot_of t e)) xs ≡ map (λ e. f e.0 (slot_of s e)) xs
made-alike f s t [] like all = refl
made-alike f s t (x ∷ xs) like all = ap₂ (λ y ys. y ∷ ys) (like x.0 (slot_of s x) (slot_of t x) (alike_at s t x.1 all)) (made-alike f s t xs like all)

pub blocks-copied : (s t : List (Option Stored)) (xs : List (ℕ × ℕ)) → AreCopies s t → blocks_in t xs ≡ blocks_in s xs
blocks-copied s t xs all = made-alike block_from s t xs (λ n a b is. rw (is.place, is.len) refl) all

memories-copied : (s t : List (Option Stored)) (xs : List (ℕ × ℕ)) → AreCopies s t → memories_in t xs ≡ memories_in s xs
memories-copied s t xs all = made-alike memory_from s t xs (λ n a b is. rw is.bytes refl) all

pub marks-copied : (s t : List (Option Stored)) (xs : List (ℕ × ℕ)) → AreCopies s t → marks_in t xs ≡ marks_in s xs
marks-copied s t xs all = made-alike mark_from s t xs (λ n a b is. rw (is.pins, is.ended) refl) all

loans-copied : (s t : List (Option Stored)) (xs : List (ℕ × ℕ)) → AreCopies s t → loans_in t xs ≡ loans_in s xs
loans-copied s t [] all = refl
loans-copied s t (x ∷ xs) all = ap₂ loan_before (alike_at s t x.1 all).loan (loans-copied s t xs all)

-- ---- the space

canonical_same : (h g : Space) → IsSameSpace h g → IsCanonical h → IsCanonical g
canonical_same h g is k = record {
  base_limit = rw is.base k.base_limit;
  base_aligned = rw is.base k.base_aligned;
  size_limit = rw is.size k.size_limit;
  rising = rw (is.base, is.size, is.holes) k.rising;
  aligned = rw is.holes k.aligned;
}

partition_same : (h g : Space) (ts : List (ℕ × ℕ)) → IsSameSpace h g → IsPartition h ts → IsPartition g ts
partition_same h g ts is p = record {
  count = p.count ∙ sym is.taken;
  sizes = rw (is.holes, is.size) p.sizes;
  aligned = p.aligned;
  not_empty = p.not_empty;
  disjoint = p.disjoint;
  within = rw (is.base, is.size) p.within;
  not_free = rw is.holes p.not_free;
  covered = rw (is.base, is.size, is.holes) p.covered;
}

-- ---- the device

-- a copy of the space and of the slots keeps what they do
pub copied_kept : (h g : Space) (s t : List (Option Stored)) (xs : List (ℕ × ℕ)) → IsSameSpace h g → AreCopies s t → AreSlotsKept h s xs → AreSlotsKept g t xs
copied_kept h g s t xs same all kept = record {
  canonical = canonical_same h g same kept.canonical;
  rising = kept.rising;
  distinct = kept.distinct;
  filled = AllByRecursion-weaker (λ (e : ℕ × ℕ). IsSome (slot_of s e)) (λ e. IsSome (slot_of t e)) xs (λ e some. (alike_at s t e.1 all).filled ∙ some) kept.filled;
  others_empty = λ slot off. none_here (get_or t slot None) ((alike_at s t slot all).filled ∙ ap (λ (o : Option Stored). is_some o) (kept.others_empty slot off));
  lens = rw (blocks-copied s t xs all) kept.lens;
  marks = rw (marks-copied s t xs all) kept.marks;
  backed = AllByRecursion-weaker (λ (e : ℕ × ℕ). IsBacked e.0 (slot_of s e)) (λ e. IsBacked e.0 (slot_of t e)) xs (λ e backed. let is = alike_at s t e.1 all in backed_like e.0 (slot_of s e) (slot_of t e) is.len (ap length is.bytes) is.loan (λ lent mapped. is.ended ∙ mapped) backed) kept.backed;
  partition = partition_same h g _ same (rw (blocks-copied s t xs all) kept.partition);
}

-- and contracts see the same of it
pub copied_unchanged : (h g : Space) (s t : List (Option Stored)) (xs ys : List (ℕ × ℕ)) (births : ℕ) (room more : List ℕ) → IsSameSpace h g → AreCopies s t → ys ≡ xs → IsUnchanged (device_of h s xs births room) (device_of g t ys births more)
copied_unchanged h g s t xs ys births room more same all is = rw is (record {
  memory = rw (same.base, same.size) refl;
  blocks = blocks-copied s t xs all;
  memories = memories-copied s t xs all;
  marks = marks-copied s t xs all;
  loans = loans-copied s t xs all;
  births = refl;
})
