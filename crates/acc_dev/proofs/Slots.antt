-- The blocks of an index, as the slots change.
use Rattle.std.proofs.Common.{ℕ, zero, suc, ◌≡◌, ◌≢◌, ◌<◌, refl, sym, ap, ◌∙◌, subst, false, List, [], ◌∷◌, ◌++◌, length, get_or, Option, Some, None, arith, inl, inr}
use Rattle.std.specs.Prelude.{◌==◌, ◌⊎◌, map, option_map, unwrap_or, IsSome}
use Rattle.std.specs.List.{AllByRecursion, AllZip, remove}
use Rattle.std.proofs.lemmas.Bool.{cases_eq, false≢true}
use Rattle.std.proofs.lemmas.Bool.Decides.{nat_tests}
use Rattle.std.proofs.lemmas.List.{map-append}
use Rattle.acc_base.specs.Records.{Memory}
use Rattle.acc_base.specs.Blocks.{block_at}
use Rattle.acc_base.specs.Bytes.{bytes_of, memory_changed}
use Rattle.acc_base.specs.Accounts.{EachPair}
use Rattle.acc_base.proofs.Elements.{AllByRecursion-weaker, find-map}
use Rattle.acc_base.proofs.Results.{equal_self}
use Rattle.acc_dev.specs.declared.entries.Stored.{Stored}
use Rattle.acc_dev.specs.Marks.{Mark, mark_numbered, pins_at, is_ended_at, mark_changed, IsMarkOf}
use Rattle.acc_index.specs.Indexed.{IsIndexRising}
use Rattle.acc_dev.specs.Slots.{IsEntry, IsSlotOf}
use Rattle.acc_dev.specs.Kept.{stored_place, stored_len, stored_bytes, stored_pins, stored_ended, block_from, memory_from, mark_from, slot_of, blocks_in, memories_in, marks_in}
use Rattle.acc_base.proofs.Splitting.{all_at}
use Rattle.acc_base.proofs.Lookups.{at-none}
use Rattle.acc_base.proofs.Keyed.{map-remove}
use Rattle.acc_dev.proofs.Rising.{start, entry_number, find_at}

-- the slots of these entries are as they were
abbrev pub AreSame : List (Option Stored) → List (Option Stored) → List (ℕ × ℕ) → Type 0
AreSame s t xs = AllByRecursion (λ e. slot_of t e ≡ slot_of s e) xs

-- every other slot is as it was
abbrev pub KeepsOthers : List (Option Stored) → List (Option Stored) → ℕ → Type 0
KeepsOthers s t k = (j : ℕ) → j ≢ k → get_or t j None ≡ get_or s j None

-- entries of other slots stay
pub same_from : (s t : List (Option Stored)) (k : ℕ) (xs : List (ℕ × ℕ)) → KeepsOthers s t k → AllByRecursion (λ e. e.1 ≡ k → ⊥) xs → AreSame s t xs
same_from s t k xs others off = AllByRecursion-weaker (λ (e : ℕ × ℕ). e.1 ≡ k → ⊥) (λ e. slot_of t e ≡ slot_of s e) xs (λ e differs. others e.1 differs) off

-- what is made of the slots of an index stays where they stay
pub map-same : {Y : Type 0} (f : ℕ → Option Stored → Y) (s t : List (Option Stored)) (xs : List (ℕ × ℕ)) → AreSame s t xs → map (λ e. f e.0 (slot_of t e)) xs ≡ map (λ e. f e.0 (slot_of s e)) xs
map-same f s t [] same = refl
map-same f s t (x ∷ xs) same = rw same.0 (ap (λ ys. f x.0 (slot_of s x) ∷ ys) (map-same f s t xs same.1))

-- a slot that was empty is no entry's
pub vacant_off : (s : List (Option Stored)) (k : ℕ) (xs : List (ℕ × ℕ)) → AllByRecursion (λ e. IsSome (slot_of s e)) xs → get_or s k None ≡ None → AllByRecursion (λ e. e.1 ≡ k → ⊥) xs
vacant_off s k xs filled vacant = AllByRecursion-weaker (λ (e : ℕ × ℕ). IsSome (slot_of s e)) (λ e. e.1 ≡ k → ⊥) xs (λ e some same. false≢true (subst IsSome (ap (λ j. get_or s j None) same ∙ vacant) some)) filled

-- the slot of one entry is no other's
pub others_off : (xs : List (ℕ × ℕ)) (i : ℕ) → EachPair (λ d e. d.1 ≡ e.1 → ⊥) xs → i < length xs → AllByRecursion (λ e. e.1 ≡ (get_or xs i start).1 → ⊥) (remove xs i)
others_off [] i h lt = absurd (omega arith)
others_off (x ∷ xs) zero h lt = AllByRecursion-weaker (λ (e : ℕ × ℕ). x.1 ≡ e.1 → ⊥) (λ e. e.1 ≡ x.1 → ⊥) xs (λ e differs same. differs (sym same)) h.0
others_off (x ∷ xs) (suc i) h lt = (all_at (λ (e : ℕ × ℕ). x.1 ≡ e.1 → ⊥) xs i start (omega arith) h.0, others_off xs i h.1 (omega arith))

-- ---- a birth

-- what is made of the slots, with an entry more
pub made-born : {Y : Type 0} (f : ℕ → Option Stored → Y) (s t : List (Option Stored)) (xs : List (ℕ × ℕ)) (number k : ℕ) (x : Stored) → AreSame s t xs → get_or t k None ≡ Some x
    → map (λ e. f e.0 (slot_of t e)) (xs ++ (number, k) ∷ []) ≡ map (λ e. f e.0 (slot_of s e)) xs ++ f number (Some x) ∷ []
made-born f s t xs number k x same new =
    map-append (λ (e : ℕ × ℕ). f e.0 (slot_of t e)) xs ((number, k) ∷ []) ∙ rw (map-same f s t xs same) (ap (λ o. map (λ (e : ℕ × ℕ). f e.0 (slot_of s e)) xs ++ f number o ∷ []) new)

-- ---- an end

-- what is made of the slots, with one entry less
pub made-removed : {Y : Type 0} (f : ℕ → Option Stored → Y) (s t : List (Option Stored)) (xs : List (ℕ × ℕ)) (i : ℕ) → AreSame s t (remove xs i)
    → map (λ e. f e.0 (slot_of t e)) (remove xs i) ≡ remove (map (λ e. f e.0 (slot_of s e)) xs) i
made-removed f s t xs i same = map-same f s t (remove xs i) same ∙ map-remove (λ (e : ℕ × ℕ). f e.0 (slot_of s e)) xs i

-- ---- look-ups

-- the block of a number is what the slot of its entry has
pub block_at-entry : (s : List (Option Stored)) (xs : List (ℕ × ℕ)) (i n : ℕ) → IsIndexRising xs → IsEntry xs n i → block_at n (blocks_in s xs) ≡ Some (block_from (get_or xs i start).0 (slot_of s (get_or xs i start)))
block_at-entry s xs i n rise entry =
    find-map (λ (e : ℕ × ℕ). block_from e.0 (slot_of s e)) (λ e. e.0 == n) (λ b. b.number == n) xs (λ e. refl) ∙ ap (option_map (λ (e : ℕ × ℕ). block_from e.0 (slot_of s e))) (find_at xs i n rise entry.in_bounds entry.number)

-- the bytes of a number are those of the slot of its entry
pub bytes_of-entry : (s : List (Option Stored)) (xs : List (ℕ × ℕ)) (i n : ℕ) → IsIndexRising xs → IsEntry xs n i → bytes_of n (memories_in s xs) ≡ stored_bytes (slot_of s (get_or xs i start))
bytes_of-entry s xs i n rise entry =
    ap (λ o. unwrap_or (option_map (λ (m : Memory). m.bytes) o) [])
    (find-map (λ (e : ℕ × ℕ). memory_from e.0 (slot_of s e)) (λ e. e.0 == n) (λ m. m.block == n) xs (λ e. refl) ∙ ap (option_map (λ (e : ℕ × ℕ). memory_from e.0 (slot_of s e))) (find_at xs i n rise entry.in_bounds entry.number))

-- a number without an entry has no block
pub block_at-none : (s : List (Option Stored)) (xs : List (ℕ × ℕ)) (n : ℕ) → AllByRecursion (λ e. e.0 ≡ n → ⊥) xs → block_at n (blocks_in s xs) ≡ None
block_at-none s xs n h =
    find-map (λ (e : ℕ × ℕ). block_from e.0 (slot_of s e)) (λ e. e.0 == n) (λ b. b.number == n) xs (λ e. refl) ∙ ap (option_map (λ (e : ℕ × ℕ). block_from e.0 (slot_of s e))) (at-none entry_number n xs h)

-- the marks run in step with the blocks
pub marks_in_step : (s : List (Option Stored)) (xs : List (ℕ × ℕ)) → AllZip IsMarkOf (marks_in s xs) (blocks_in s xs)
marks_in_step s [] = tt
marks_in_step s (x ∷ xs) = (refl, marks_in_step s xs)

-- the mark of a number is what the slot of its entry has
mark_at-entry : (s : List (Option Stored)) (xs : List (ℕ × ℕ)) (i n : ℕ) → IsIndexRising xs → IsEntry xs n i → mark_numbered n (marks_in s xs) ≡ Some (mark_from (get_or xs i start).0 (slot_of s (get_or xs i start)))
mark_at-entry s xs i n rise entry =
    find-map (λ (e : ℕ × ℕ). mark_from e.0 (slot_of s e)) (λ e. e.0 == n) (λ m. m.block == n) xs (λ e. refl) ∙ ap (option_map (λ (e : ℕ × ℕ). mark_from e.0 (slot_of s e))) (find_at xs i n rise entry.in_bounds entry.number)

-- so are its pins
pub pins_at-entry : (s : List (Option Stored)) (xs : List (ℕ × ℕ)) (i n : ℕ) → IsIndexRising xs → IsEntry xs n i → pins_at n (marks_in s xs) ≡ stored_pins (slot_of s (get_or xs i start))
pins_at-entry s xs i n rise entry = ap (λ o. unwrap_or (option_map (λ (m : Mark). m.pins) o) 0) (mark_at-entry s xs i n rise entry)

-- and whether it has ended
pub is_ended_at-entry : (s : List (Option Stored)) (xs : List (ℕ × ℕ)) (i n : ℕ) → IsIndexRising xs → IsEntry xs n i → is_ended_at n (marks_in s xs) ≡ stored_ended (slot_of s (get_or xs i start))
is_ended_at-entry s xs i n rise entry = ap (λ o. unwrap_or (option_map (λ (m : Mark). m.ended) o) false) (mark_at-entry s xs i n rise entry)

-- ---- a change of one slot

-- a slot that has something still has something
filled_changed : (s t : List (Option Stored)) (k j : ℕ) → KeepsOthers s t k → IsSome (get_or t k None) → IsSome (get_or s j None) → IsSome (get_or t j None)
filled_changed s t k j others filled some = elim (cases_eq j k) [
  | inl same ↦ subst (λ (i : ℕ). IsSome (get_or t i None)) (sym same) filled
  | inr differs ↦ subst IsSome (sym (others j differs)) some
]

-- each slot of an index still has something
pub all_filled : (s t : List (Option Stored)) (k : ℕ) (xs : List (ℕ × ℕ)) → KeepsOthers s t k → IsSome (get_or t k None) → AllByRecursion (λ e. IsSome (slot_of s e)) xs → AllByRecursion (λ e. IsSome (slot_of t e)) xs
all_filled s t k xs others filled all = AllByRecursion-weaker (λ (e : ℕ × ℕ). IsSome (slot_of s e)) (λ e. IsSome (slot_of t e)) xs (λ e some. filled_changed s t k e.1 others filled some) all

-- what is made of a slot stays where that of the one slot does
same_made : {Y : Type 0} (f : ℕ → Option Stored → Y) (s t : List (Option Stored)) (k number j : ℕ) → KeepsOthers s t k → ((n : ℕ) → f n (get_or t k None) ≡ f n (get_or s k None)) → f number (get_or t j None) ≡ f number (get_or s j None)
same_made f s t k number j others same = elim (cases_eq j k) [
  | inl here ↦ rw here (same number)
  | inr differs ↦ ap (f number) (others j differs)
]

-- and so does what is made of all slots of an index
pub made-kept : {Y : Type 0} (f : ℕ → Option Stored → Y) (s t : List (Option Stored)) (k : ℕ) (xs : List (ℕ × ℕ)) → KeepsOthers s t k → ((n : ℕ) → f n (get_or t k None) ≡ f n (get_or s k None)) → map (λ e. f e.0 (slot_of t e)) xs ≡ map (λ e. f e.0 (slot_of s e)) xs
made-kept f s t k [] others same = refl
made-kept f s t k (x ∷ xs) others same = rw (same_made f s t k x.0 x.1 others same) (ap (λ ys. f x.0 (slot_of s x) ∷ ys) (made-kept f s t k xs others same))

-- a slot of the same place and length leaves the blocks
pub blocks_in-kept : (s t : List (Option Stored)) (k : ℕ) (xs : List (ℕ × ℕ)) → KeepsOthers s t k → stored_place (get_or t k None) ≡ stored_place (get_or s k None) → stored_len (get_or t k None) ≡ stored_len (get_or s k None) → blocks_in t xs ≡ blocks_in s xs
blocks_in-kept s t k xs others place len = made-kept block_from s t k xs others (λ n. rw (place, len))

-- one of the same bytes leaves those of the blocks
pub memories_in-kept : (s t : List (Option Stored)) (k : ℕ) (xs : List (ℕ × ℕ)) → KeepsOthers s t k → stored_bytes (get_or t k None) ≡ stored_bytes (get_or s k None) → memories_in t xs ≡ memories_in s xs
memories_in-kept s t k xs others bytes = made-kept memory_from s t k xs others (λ n. rw bytes)

-- one of the same mark leaves the marks
pub marks_in-kept : (s t : List (Option Stored)) (k : ℕ) (xs : List (ℕ × ℕ)) → KeepsOthers s t k → stored_pins (get_or t k None) ≡ stored_pins (get_or s k None) → stored_ended (get_or t k None) ≡ stored_ended (get_or s k None) → marks_in t xs ≡ marks_in s xs
marks_in-kept s t k xs others pins ended = made-kept mark_from s t k xs others (λ n. rw (pins, ended))

-- an entry is that of the slot exactly where it is that of the block
abbrev pub AreTold : List (ℕ × ℕ) → ℕ → ℕ → Type 0
AreTold xs n k = AllByRecursion (λ e. ((e.0 ≡ n) × (e.1 ≡ k)) ⊎ ((e.0 ≡ n → ⊥) × (e.1 ≡ k → ⊥))) xs

-- the entries differ in their numbers as in their slots
slot_told : (xs : List (ℕ × ℕ)) (i : ℕ) → IsIndexRising xs → EachPair (λ d e. d.1 ≡ e.1 → ⊥) xs → i < length xs → AreTold xs (get_or xs i start).0 (get_or xs i start).1
slot_told [] i rise distinct lt = absurd (omega arith)
slot_told (x ∷ xs) zero rise distinct lt = (inl (refl, refl), off xs rise.0 distinct.0)
  where
    off : (ys : List (ℕ × ℕ)) → AllByRecursion (λ (e : ℕ × ℕ). x.0 < e.0) ys → AllByRecursion (λ (e : ℕ × ℕ). x.1 ≡ e.1 → ⊥) ys → AreTold ys x.0 x.1
    off [] above differs = tt
    off (y ∷ ys) above differs = (inr (λ same. omega (arith, above.0), λ same. differs.0 (sym same)), off ys above.1 differs.1)
slot_told (x ∷ xs) (suc i) rise distinct lt =
    let less : x.0 < (get_or xs i start).0 = all_at (λ (e : ℕ × ℕ). x.0 < e.0) xs i start (omega arith) rise.0 in
    (inr (λ same. omega arith, all_at (λ (e : ℕ × ℕ). x.1 ≡ e.1 → ⊥) xs i start (omega arith) distinct.0), slot_told xs i rise.1 distinct.1 (omega arith))

-- so is the entry of a block, by its slot
pub told_slot : (xs : List (ℕ × ℕ)) (n k : ℕ) → IsIndexRising xs → EachPair (λ d e. d.1 ≡ e.1 → ⊥) xs → IsSlotOf xs n k → AreTold xs n k
told_slot xs n k rise distinct slot = subst (λ (j : ℕ). AreTold xs n j) slot.is (subst (λ (m : ℕ). AreTold xs m (get_or xs slot.at start).1) slot.entry.number (slot_told xs slot.at rise distinct slot.entry.in_bounds))

-- what is made of the slot of one entry changes alone, where entries differ
made-changed : {Y : Type 0} (f : ℕ → Option Stored → Y) (change : Y → Y) (s t : List (Option Stored)) (n k : ℕ) (xs : List (ℕ × ℕ)) → KeepsOthers s t k → f n (get_or t k None) ≡ change (f n (get_or s k None)) → ((m : ℕ) (o : Option Stored) → (m ≡ n → ⊥) → change (f m o) ≡ f m o) → AreTold xs n k
    → map (λ e. f e.0 (slot_of t e)) xs ≡ map change (map (λ e. f e.0 (slot_of s e)) xs)
made-changed f change s t n k [] others is else told_of = refl
made-changed f change s t n k (x ∷ xs) others is else told_of =
    let rest = made-changed f change s t n k xs others is else told_of.1 in
    let here : f x.0 (slot_of t x) ≡ change (f x.0 (slot_of s x)) =
    elim told_of.0 [
      | inl same ↦ rw (same.0, same.1) is
      | inr differs ↦ ap (f x.0) (others x.1 differs.1) ∙ sym (else x.0 (slot_of s x) differs.0)
    ] in
    rw here (ap (λ ys. change (f x.0 (slot_of s x)) ∷ ys) rest)

-- a change of a block's memory is a change of its bytes
changed_here : (n : ℕ) (change : List ℕ → List ℕ) (bytes : List ℕ) → memory_changed n change (record { block = n; bytes = bytes }) ≡ record { block = n; bytes = change bytes }
changed_here n change bytes = rw (equal_self n)

-- a change of a block's memory leaves that of another block
changed_elsewhere : (n : ℕ) (change : List ℕ → List ℕ) (m : ℕ) (o : Option Stored) → (m ≡ n → ⊥) → memory_changed n change (memory_from m o) ≡ memory_from m o
changed_elsewhere n change m o differs = let t : (m == n) ≡ false = grind (arith, nat_tests, differs) in rw t

-- a change of the bytes of a block's slot changes its memory alone
pub memories_in-changed : (s t : List (Option Stored)) (xs : List (ℕ × ℕ)) (n k : ℕ) (change : List ℕ → List ℕ) → IsIndexRising xs → EachPair (λ d e. d.1 ≡ e.1 → ⊥) xs → IsSlotOf xs n k → KeepsOthers s t k
    → stored_bytes (get_or t k None) ≡ change (stored_bytes (get_or s k None)) → memories_in t xs ≡ map (memory_changed n change) (memories_in s xs)
memories_in-changed s t xs n k change rise distinct slot others is =
    made-changed memory_from (memory_changed n change) s t n k xs others
    (ap (λ (b : List ℕ). let m : Memory = record { block = n; bytes = b } in m) is ∙ sym (changed_here n change (stored_bytes (get_or s k None))))
    (changed_elsewhere n change) (told_slot xs n k rise distinct slot)

-- a change of a block's mark is a change of what its slot has
marked_here : (n : ℕ) (change : Mark → Mark) (o : Option Stored) → mark_changed n change (mark_from n o) ≡ change (mark_from n o)
marked_here n change o = rw (equal_self n)

-- a change of a block's mark leaves that of another block
marked_elsewhere : (n : ℕ) (change : Mark → Mark) (m : ℕ) (o : Option Stored) → (m ≡ n → ⊥) → mark_changed n change (mark_from m o) ≡ mark_from m o
marked_elsewhere n change m o differs = let t : (m == n) ≡ false = grind (arith, nat_tests, differs) in rw t

-- a change of the mark of a block's slot changes its mark alone
pub marks_in-changed : (s t : List (Option Stored)) (xs : List (ℕ × ℕ)) (n k : ℕ) (change : Mark → Mark) → IsIndexRising xs → EachPair (λ d e. d.1 ≡ e.1 → ⊥) xs → IsSlotOf xs n k → KeepsOthers s t k
    → mark_from n (get_or t k None) ≡ change (mark_from n (get_or s k None)) → marks_in t xs ≡ map (mark_changed n change) (marks_in s xs)
marks_in-changed s t xs n k change rise distinct slot others is =
    made-changed mark_from (mark_changed n change) s t n k xs others (is ∙ sym (marked_here n change (get_or s k None))) (marked_elsewhere n change) (told_slot xs n k rise distinct slot)
