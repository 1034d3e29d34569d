-- What the end of a block leaves.
use Rattle.std.proofs.Common.{ℕ, zero, suc, ◌≡◌, ◌<◌, ◌≤◌, refl, sym, ap, ◌∙◌, subst, List, [], ◌∷◌, ◌++◌, length, get_or, Option, Some, None, arith, inl, inr}
use Rattle.std.specs.Prelude.{◌==◌, not, map, IsSome}
use Rattle.std.specs.List.{AllByRecursion, remove}
use Rattle.std.proofs.lemmas.Bool.{cases_eq}
use Rattle.acc_base.specs.declared.addresses.TheConstants.{MEMORY_MAX}
use Rattle.acc_base.specs.declared.mappings.Block.{Block}
use Rattle.acc_base.specs.Limits.{IsFromOne}
use Rattle.acc_base.specs.Blocks.{rounded, without_block}
use Rattle.acc_base.specs.Bytes.{memories_kept}
use Rattle.acc_base.specs.Accounts.{EachPair}
use Rattle.acc_base.proofs.Elements.{AllByRecursion-both, filter-map}
use Rattle.acc_base.proofs.KeptMemories.{memories_kept-without}
use Rattle.acc_placement.specs.Space.{Space, IsCanonical, IsPartition, IsTaken}
use Rattle.acc_placement.proofs.Partitions.{partition_without, taken_at}
use Rattle.acc_dev.specs.declared.entries.Stored.{Stored}
use Rattle.acc_dev.specs.Device.{IsRetired}
use Rattle.acc_base.specs.Holes.{taken_range}
use Rattle.acc_dev.specs.Marks.{without_mark, IsSoundMark}
use Rattle.acc_index.specs.Indexed.{IsIndexRising}
use Rattle.acc_dev.specs.Slots.{IsEntry}
use Rattle.acc_dev.specs.Kept.{memory_of, block_from, memory_from, mark_from, slot_of, blocks_in, memories_in, marks_in, loans_in, IsBacked, AreSlotsKept, AreNumbersBorn}
use Rattle.acc_base.proofs.Keyed.{all-remove, apart-remove, map-remove}
use Rattle.acc_dev.proofs.Rising.{start, remove-filter}
use Rattle.acc_dev.proofs.Slots.{AreSame, KeepsOthers, same_from, others_off, made-removed}
use Rattle.acc_dev.proofs.Lent.{AreBacked, in_step}
use Rattle.acc_dev.proofs.Keeping.{device_of}

-- the addresses that a slot takes
abbrev pub range_stored : Stored → ℕ × ℕ
range_stored x = (x.place, rounded x.len)

-- they stand at the place of its entry
range_at : (s : List (Option Stored)) (xs : List (ℕ × ℕ)) (i : ℕ) (x : Stored) (d : ℕ × ℕ) → i < length xs → slot_of s (get_or xs i start) ≡ Some x → range_stored x ≡ get_or (map taken_range (blocks_in s xs)) i d
range_at s [] i x d lt is = absurd (omega arith)
range_at s (y ∷ ys) zero x d lt is = sym (ap (λ (o : Option Stored). taken_range (block_from y.0 o)) is)
range_at s (y ∷ ys) (suc i) x d lt is = range_at s ys i x d (omega arith) is

length_ranges : (s : List (Option Stored)) (xs : List (ℕ × ℕ)) → length (map taken_range (blocks_in s xs)) ≡ length xs
length_ranges s [] = refl
length_ranges s (x ∷ xs) = ap suc (length_ranges s xs)

-- so they are taken, and can be given back
pub taken_stored : (h : Space) (s : List (Option Stored)) (xs : List (ℕ × ℕ)) (i : ℕ) (x : Stored) → AreSlotsKept h s xs → i < length xs → slot_of s (get_or xs i start) ≡ Some x → IsTaken h x.place (rounded x.len)
taken_stored h s xs i x k lt is =
    taken_at h (map taken_range (blocks_in s xs)) i (range_stored x) _ (range_at s xs i x (range_stored x) lt is) refl (omega (arith, length_ranges s xs)) k.partition

-- the slots of the other entries are as they were
pub same_left : (s t : List (Option Stored)) (xs : List (ℕ × ℕ)) (i : ℕ) → EachPair (λ d e. d.1 ≡ e.1 → ⊥) xs → i < length xs → KeepsOthers s t (get_or xs i start).1 → AreSame s t (remove xs i)
same_left s t xs i distinct lt others = same_from s t (get_or xs i start).1 (remove xs i) others (others_off xs i distinct lt)

-- a slot that no entry but one has is no entry's, or that one's
off_removed : (xs : List (ℕ × ℕ)) (i j : ℕ) → AllByRecursion (λ e. e.1 ≡ j → ⊥) (remove xs i) → (j ≡ (get_or xs i start).1 → ⊥) → AllByRecursion (λ e. e.1 ≡ j → ⊥) xs
off_removed [] i j h differs = tt
off_removed (x ∷ xs) zero j h differs = (λ same. differs (sym same), h)
off_removed (x ∷ xs) (suc i) j h differs = (h.0, off_removed xs i j h.1 differs)

-- each slot that no entry is left for is empty
left_empty : (s t : List (Option Stored)) (xs : List (ℕ × ℕ)) (i j : ℕ) → ((k : ℕ) → AllByRecursion (λ e. e.1 ≡ k → ⊥) xs → get_or s k None ≡ None) → KeepsOthers s t (get_or xs i start).1 → get_or t (get_or xs i start).1 None ≡ None
    → AllByRecursion (λ e. e.1 ≡ j → ⊥) (remove xs i) → get_or t j None ≡ None
left_empty s t xs i j before others empty off = elim (cases_eq j (get_or xs i start).1) [
  | inl same ↦ rw same empty
  | inr differs ↦ others j differs ∙ before j (off_removed xs i j off differs)
]

-- without the entry and its slot the device keeps what it keeps
pub left_kept : (old new : Space) (s t : List (Option Stored)) (xs : List (ℕ × ℕ)) (i : ℕ) (x : Stored) → AreSlotsKept old s xs → i < length xs → slot_of s (get_or xs i start) ≡ Some x → KeepsOthers s t (get_or xs i start).1 → get_or t (get_or xs i start).1 None ≡ None
    → IsCanonical new → ((before after : List (ℕ × ℕ)) → IsPartition old (before ++ range_stored x ∷ after) → IsPartition new (before ++ after)) → AreSlotsKept new t (remove xs i)
left_kept old new s t xs i x kept lt is others empty canonical part =
    let same : AreSame s t (remove xs i) = same_left s t xs i kept.distinct lt others in
    let blocks : blocks_in t (remove xs i) ≡ remove (blocks_in s xs) i = made-removed block_from s t xs i same in
    record {
      canonical = canonical;
      rising = apart-remove (λ (d : ℕ × ℕ) (e : ℕ × ℕ). d.0 < e.0) xs i kept.rising;
      distinct = apart-remove (λ (d : ℕ × ℕ) (e : ℕ × ℕ). d.1 ≡ e.1 → ⊥) xs i kept.distinct;
      filled = AllByRecursion-both (λ (e : ℕ × ℕ). slot_of t e ≡ slot_of s e) (λ e. IsSome (slot_of s e)) (λ e. IsSome (slot_of t e)) (remove xs i) (λ e q some. subst IsSome (sym q) some) same (all-remove (λ (e : ℕ × ℕ). IsSome (slot_of s e)) xs i kept.filled);
      others_empty = λ j off. left_empty s t xs i j kept.others_empty others empty off;
      lens = rw blocks (all-remove (λ (b : Block). IsFromOne MEMORY_MAX b.len) (blocks_in s xs) i kept.lens);
      marks = rw (made-removed mark_from s t xs i same) (all-remove IsSoundMark (marks_in s xs) i kept.marks);
      backed = AllByRecursion-both (λ (e : ℕ × ℕ). slot_of t e ≡ slot_of s e) (λ e. IsBacked e.0 (slot_of s e)) (λ e. IsBacked e.0 (slot_of t e)) (remove xs i) (λ e q backed. subst (IsBacked e.0) (sym q) backed) same (all-remove (λ (e : ℕ × ℕ). IsBacked e.0 (slot_of s e)) xs i kept.backed);
      partition = rw (blocks, map-remove taken_range (blocks_in s xs) i) (partition_without old new (map taken_range (blocks_in s xs)) i (range_stored x) _ (range_at s xs i x (range_stored x) lt is) refl (omega (arith, length_ranges s xs)) kept.partition part);
    }

-- the blocks without that of an entry
pub without-removed : (s : List (Option Stored)) (xs : List (ℕ × ℕ)) (i n : ℕ) → IsIndexRising xs → IsEntry xs n i → without_block n (blocks_in s xs) ≡ remove (blocks_in s xs) i
without-removed s xs i n rise entry =
    filter-map (λ (e : ℕ × ℕ). block_from e.0 (slot_of s e)) (λ e. not (e.0 == n)) (λ b. not (b.number == n)) xs (λ e. refl)
    ∙ ap (map (λ (e : ℕ × ℕ). block_from e.0 (slot_of s e))) (remove-filter xs i n rise entry.in_bounds entry.number)
    ∙ map-remove (λ (e : ℕ × ℕ). block_from e.0 (slot_of s e)) xs i

-- and their bytes
pub kept-removed : (s : List (Option Stored)) (xs : List (ℕ × ℕ)) (i n : ℕ) → IsIndexRising xs → AreBacked s xs → IsEntry xs n i → memories_kept (remove (blocks_in s xs) i) (memories_in s xs) ≡ remove (memories_in s xs) i
kept-removed s xs i n rise backed entry =
    ap (λ bs. memories_kept bs (memories_in s xs)) (sym (without-removed s xs i n rise entry))
    ∙ memories_kept-without (loans_in s xs) n (memories_in s xs) (blocks_in s xs) (in_step s xs rise backed)
    ∙ filter-map (λ (e : ℕ × ℕ). memory_from e.0 (slot_of s e)) (λ e. not (e.0 == n)) (λ m. not (m.block == n)) xs (λ e. refl)
    ∙ ap (map (λ (e : ℕ × ℕ). memory_from e.0 (slot_of s e))) (remove-filter xs i n rise entry.in_bounds entry.number)
    ∙ map-remove (λ (e : ℕ × ℕ). memory_from e.0 (slot_of s e)) xs i

-- and their marks
marks-removed : (s : List (Option Stored)) (xs : List (ℕ × ℕ)) (i n : ℕ) → IsIndexRising xs → IsEntry xs n i → without_mark n (marks_in s xs) ≡ remove (marks_in s xs) i
marks-removed s xs i n rise entry =
    filter-map (λ (e : ℕ × ℕ). mark_from e.0 (slot_of s e)) (λ e. not (e.0 == n)) (λ m. not (m.block == n)) xs (λ e. refl)
    ∙ ap (map (λ (e : ℕ × ℕ). mark_from e.0 (slot_of s e))) (remove-filter xs i n rise entry.in_bounds entry.number)
    ∙ map-remove (λ (e : ℕ × ℕ). mark_from e.0 (slot_of s e)) xs i

-- what an end leaves, as contracts see it
pub retired_of : (old new : Space) (s t : List (Option Stored)) (xs ys : List (ℕ × ℕ)) (births i n : ℕ) (room : List ℕ) → AreSlotsKept old s xs → IsEntry xs n i → memory_of new ≡ memory_of old → blocks_in t ys ≡ remove (blocks_in s xs) i → memories_in t ys ≡ remove (memories_in s xs) i → marks_in t ys ≡ remove (marks_in s xs) i → loans_in t ys ≡ loans_in s xs
    → IsRetired (device_of old s xs births room) (device_of new t ys births room) n
retired_of old new s t xs ys births i n room k entry memory blocks memories marks loans =
    record {
      memory = memory;
      blocks = blocks ∙ sym (without-removed s xs i n k.rising entry);
      memories = memories ∙ sym (kept-removed s xs i n k.rising k.backed entry) ∙ ap (λ bs. memories_kept bs (memories_in s xs)) (sym blocks);
      marks = marks ∙ sym (marks-removed s xs i n k.rising entry);
      loans = loans;
      births = refl;
      room = refl;
    }

-- the numbers that are left are at most the births
pub counted_left : (xs ys : List (ℕ × ℕ)) (births i : ℕ) → AreNumbersBorn xs births → ys ≡ remove xs i → AreNumbersBorn ys births
counted_left xs ys births i c is = record { below = rw is (all-remove (λ (e : ℕ × ℕ). e.0 ≤ births) xs i c.below); few = c.few }
