-- What a birth leaves.
use Rattle.std.proofs.Common.{ℕ, ◌≡◌, ◌+◌, ◌^◌, ◌<◌, ◌≤◌, refl, sym, ap, ◌∙◌, subst, Bool, true, false, cond, List, [], ◌∷◌, ◌++◌, length, get_or, Option, Some, None, Result, Ok, Err, arith, replicate}
use Rattle.std.specs.Prelude.{◌==◌, map, IsSome, IsErrAnd, IfSome, IfNone}
use Rattle.std.specs.List.{AllByRecursion}
use Rattle.std.proofs.lemmas.Bool.Decides.{nat_tests}
use Rattle.std.proofs.lemmas.List.{map-append, append-nil, length-replicate}
use Rattle.acc_base.specs.declared.addresses.TheConstants.{MEMORY_MAX}
use Rattle.acc_base.specs.declared.mappings.Block.{Block}
use Rattle.acc_base.specs.declared.faults.Fault.{Fault}
use Rattle.acc_base.specs.declared.faults.Fault.TheVariants.{Memory as NoMemory, DeviceFull}
use Rattle.acc_base.specs.Limits.{IsFromOne}
use Rattle.acc_base.specs.Records.{Memory}
use Rattle.acc_base.specs.Blocks.{rounded, block_at, place_for, fits_at, Fits, IsPlaceFor}
use Rattle.acc_base.specs.Bytes.{bytes_of, fill_byte}
use Rattle.acc_base.proofs.Elements.{AllByRecursion-weaker, AllByRecursion-both, AllByRecursion-append, AllByRecursion-map, EachPair-push}
use Rattle.acc_base.proofs.Places.{place_for-least, place_for-found, IsFoundPlace, fits_says}
use Rattle.acc_base.proofs.Results.{equal_self}
use Rattle.acc_placement.specs.Ranges.{IsFit, IsLeastFit, IsFitBeside, IsLeastFitBeside}
use Rattle.acc_placement.specs.Space.{Space, IsCanonical, IsPartition}
use Rattle.acc_placement.proofs.Partitions.{partition_last}
use Rattle.acc_dev.specs.declared.entries.Stored.{Stored}
use Rattle.acc_dev.specs.Device.{DeviceState, HasBlock, IsBorn, IsBornWith, birth_place}
use Rattle.acc_base.specs.Holes.{taken_range}
use Rattle.acc_dev.specs.Marks.{new_mark, IsSoundMark}
use Rattle.acc_dev.specs.Kept.{memory_of, stored_loan, block_from, memory_from, mark_from, slot_of, blocks_in, memories_in, marks_in, loans_in, IsInOrOut, IsBacked, AreSlotsKept, AreNumbersBorn}
use Rattle.acc_dev.proofs.Slots.{AreSame, KeepsOthers, same_from, vacant_off, made-born}
use Rattle.acc_dev.proofs.Lent.{loans_in-same, loans_in-push}
use Rattle.acc_dev.proofs.Placing.{some_bytes, planned_place, birth_at, fit_from}
use Rattle.acc_dev.proofs.Keeping.{device_of, shared}

-- the block of a slot
abbrev stored_block : ℕ → Stored → Block
stored_block number x = record { number = number; place = x.place; len = x.len }

-- the blocks, their bytes and what a device keeps, with an entry more
pub blocks-born : (s t : List (Option Stored)) (xs : List (ℕ × ℕ)) (number k : ℕ) (x : Stored) → AllByRecursion (λ e. IsSome (slot_of s e)) xs → get_or s k None ≡ None → get_or t k None ≡ Some x → KeepsOthers s t k
    → blocks_in t (xs ++ (number, k) ∷ []) ≡ blocks_in s xs ++ record { number = number; place = x.place; len = x.len } ∷ []
blocks-born s t xs number k x filled vacant new others = made-born block_from s t xs number k x (same_from s t k xs others (vacant_off s k xs filled vacant)) new

pub memories-born : (s t : List (Option Stored)) (xs : List (ℕ × ℕ)) (number k : ℕ) (x : Stored) → AllByRecursion (λ e. IsSome (slot_of s e)) xs → get_or s k None ≡ None → get_or t k None ≡ Some x → KeepsOthers s t k
    → memories_in t (xs ++ (number, k) ∷ []) ≡ memories_in s xs ++ record { block = number; bytes = x.bytes.items } ∷ []
memories-born s t xs number k x filled vacant new others = made-born memory_from s t xs number k x (same_from s t k xs others (vacant_off s k xs filled vacant)) new

pub marks-born : (s t : List (Option Stored)) (xs : List (ℕ × ℕ)) (number k : ℕ) (x : Stored) → AllByRecursion (λ e. IsSome (slot_of s e)) xs → get_or s k None ≡ None → get_or t k None ≡ Some x → KeepsOthers s t k
    → marks_in t (xs ++ (number, k) ∷ []) ≡ marks_in s xs ++ record { block = number; pins = x.pins; ended = x.ended } ∷ []
marks-born s t xs number k x filled vacant new others = made-born mark_from s t xs number k x (same_from s t k xs others (vacant_off s k xs filled vacant)) new

-- the loans stay where the new slot is not lent
pub loans-born : (s t : List (Option Stored)) (xs : List (ℕ × ℕ)) (number k : ℕ) (x : Stored) → AllByRecursion (λ e. IsSome (slot_of s e)) xs → get_or s k None ≡ None → get_or t k None ≡ Some x → KeepsOthers s t k → x.loan ≡ None
    → loans_in t (xs ++ (number, k) ∷ []) ≡ loans_in s xs
loans-born s t xs number k x filled vacant new others none = loans_in-push t xs (number, k) (ap stored_loan new ∙ none) ∙ loans_in-same s t xs (same_from s t k xs others (vacant_off s k xs filled vacant))

-- a new slot that is not lent has its bytes
backed_new : (number : ℕ) (x : Stored) → x.loan ≡ None → x.len ≡ length x.bytes.items → IsBacked number (Some x)
backed_new number x none long = subst (IsInOrOut number (Some x)) (sym none) (sym long)

-- a slot that is no entry's of a longer index
off_parts : (xs : List (ℕ × ℕ)) (x : ℕ × ℕ) (j : ℕ) → AllByRecursion (λ e. e.1 ≡ j → ⊥) (xs ++ x ∷ []) → AllByRecursion (λ e. e.1 ≡ j → ⊥) xs × (x.1 ≡ j → ⊥)
off_parts [] x j h = (tt, h.0)
off_parts (y ∷ ys) x j h = let rest = off_parts ys x j h.1 in ((h.0, rest.0), rest.1)

-- a device keeps what it keeps
pub born_kept : (old new : Space) (s t : List (Option Stored)) (xs : List (ℕ × ℕ)) (number k : ℕ) (x : Stored) → AreSlotsKept old s xs → AllByRecursion (λ e. e.0 < number) xs → get_or s k None ≡ None → get_or t k None ≡ Some x → KeepsOthers s t k
    → IsFromOne MEMORY_MAX x.len → x.len ≡ length x.bytes.items → x.loan ≡ None → IsSoundMark (record { block = number; pins = x.pins; ended = x.ended }) → IsCanonical new → ((ts : List (ℕ × ℕ)) → IsPartition old ts → IsPartition new ((x.place, rounded x.len) ∷ ts)) → AreSlotsKept new t (xs ++ (number, k) ∷ [])
born_kept old new s t xs number k x kept above vacant is others len long free mark canonical part =
    let off = vacant_off s k xs kept.filled vacant in
    let same : AreSame s t xs = same_from s t k xs others off in
    let blocks : blocks_in t (xs ++ (number, k) ∷ []) ≡ blocks_in s xs ++ stored_block number x ∷ [] = blocks-born s t xs number k x kept.filled vacant is others in
    let ranges : map taken_range (blocks_in s xs ++ stored_block number x ∷ []) ≡ map taken_range (blocks_in s xs) ++ taken_range (stored_block number x) ∷ [] = map-append taken_range (blocks_in s xs) (stored_block number x ∷ []) in
    record {
      canonical = canonical;
      rising = EachPair-push (λ (d : ℕ × ℕ) (e : ℕ × ℕ). d.0 < e.0) xs (number, k) above kept.rising;
      distinct = EachPair-push (λ (d : ℕ × ℕ) (e : ℕ × ℕ). d.1 ≡ e.1 → ⊥) xs (number, k) off kept.distinct;
      filled = AllByRecursion-append (λ (e : ℕ × ℕ). IsSome (slot_of t e)) xs ((number, k) ∷ [])
          (AllByRecursion-both (λ (e : ℕ × ℕ). slot_of t e ≡ slot_of s e) (λ e. IsSome (slot_of s e)) (λ e. IsSome (slot_of t e)) xs (λ e q some. subst IsSome (sym q) some) same kept.filled)
          (subst IsSome (sym is) refl, tt);
      others_empty = λ j off_all. let parts = off_parts xs (number, k) j off_all in others j (λ same. parts.1 (sym same)) ∙ kept.others_empty j parts.0;
      lens = rw blocks (AllByRecursion-append (λ (b : Block). IsFromOne MEMORY_MAX b.len) (blocks_in s xs) (stored_block number x ∷ []) kept.lens (len, tt));
      marks = rw (marks-born s t xs number k x kept.filled vacant is others) (AllByRecursion-append IsSoundMark (marks_in s xs) (mark_from number (Some x) ∷ []) kept.marks (mark, tt));
      backed = AllByRecursion-append (λ (e : ℕ × ℕ). IsBacked e.0 (slot_of t e)) xs ((number, k) ∷ [])
          (AllByRecursion-both (λ (e : ℕ × ℕ). slot_of t e ≡ slot_of s e) (λ e. IsBacked e.0 (slot_of s e)) (λ e. IsBacked e.0 (slot_of t e)) xs (λ e q backed. subst (IsBacked e.0) (sym q) backed) same kept.backed)
          (subst (IsBacked number) (sym is) (backed_new number x free long), tt);
      partition = rw (blocks, ranges) (partition_last new (map taken_range (blocks_in s xs)) (taken_range (stored_block number x)) (part (map taken_range (blocks_in s xs)) kept.partition));
    }

-- the place that a look ahead finds is that of a birth
pub birth_found : (h : Space) (s : List (Option Stored)) (xs : List (ℕ × ℕ)) (births len : ℕ) (room : List ℕ) (o : Option ℕ) → AreSlotsKept h s xs → 1 ≤ len
    → IfSome o (IsLeastFitBeside h.holes [] (rounded len)) → IfNone o ((q : ℕ) → IsFitBeside h.holes [] (rounded len) q → ⊥) → o ≡ birth_place (device_of h s xs births room) len
birth_found h s xs births len room o k some place none =
    planned_place h (blocks_in s xs) 0 0 [] (rounded len) o (omega arith) (λ i d lt. absurd (omega arith)) k.lens (shared h s xs k) place none
    ∙ ap (λ bs. place_for (memory_of h) bs (rounded len)) (append-nil (blocks_in s xs))

-- a refusal for lack of memory comes only where there is a place
pub refused_full : (r : Result ℕ Fault) (o : Option ℕ) (p n : ℕ) → IsErrAnd r (λ fault. fault ≡ NoMemory) → o ≡ Some p → (r ≡ Err (DeviceFull 0 n) → o ≡ None) × (o ≡ None → r ≡ Err (DeviceFull 0 n))
refused_full (Ok x) o p n only place = absurd only
refused_full (Err fault) o p n only place = (λ full. let bad : ⊥ = cc in absurd bad, λ none. let bad : ⊥ = cc in absurd bad)

-- it is the least of all device addresses at which the length fits
pub birth_least : (h : Space) (s : List (Option Stored)) (xs : List (ℕ × ℕ)) (births len : ℕ) (room : List ℕ) → AreSlotsKept h s xs → 1 ≤ len → IsPlaceFor (memory_of h) (blocks_in s xs) (rounded len) (birth_place (device_of h s xs births room) len)
birth_least h s xs births len room k some = place_for-least (memory_of h) (blocks_in s xs) (rounded len) (omega arith) (some_bytes (blocks_in s xs) k.lens)

-- what a birth with these bytes leaves, as contracts see it
pub born_with : (old new : Space) (s s' t : List (Option Stored)) (xs xs' ys : List (ℕ × ℕ)) (births len place : ℕ) (bytes room left : List ℕ) → AreSlotsKept old s xs → 1 ≤ len → s' ≡ s → xs' ≡ xs → memory_of new ≡ memory_of old → length bytes ≡ len
    → IsLeastFit old.holes (rounded (length bytes)) place
    → blocks_in t ys ≡ blocks_in s' xs' ++ record { number = births + 1; place = place; len = length bytes } ∷ []
    → memories_in t ys ≡ memories_in s' xs' ++ record { block = births + 1; bytes = bytes } ∷ []
    → marks_in t ys ≡ marks_in s' xs' ++ new_mark (births + 1) ∷ []
    → loans_in t ys ≡ loans_in s' xs'
    → IsBornWith (device_of old s xs births room) (device_of new t ys (births + 1) left) len bytes (births + 1)
born_with old new s s' t xs xs' ys births len place bytes room left k some slots index memory long least blocks memories marks loans =
    let at : birth_place (device_of old s xs births room) len ≡ Some place = birth_at old (blocks_in s xs) (rounded len) place (omega arith) k.lens (shared old s xs k) (rw long at least) in
    record {
      place = place;
      place_is = at;
      block_is = refl;
      memory = memory;
      blocks = rw (long, slots, index) at blocks;
      memories = memories ∙ rw (slots, index) refl;
      marks = marks ∙ rw (slots, index) refl;
      loans = loans ∙ rw (slots, index) refl;
      births = refl;
    }

-- what a birth leaves, as contracts see it
pub born_of : (old new : Space) (s s' t : List (Option Stored)) (xs xs' ys : List (ℕ × ℕ)) (births len place : ℕ) (clear : Bool) (bytes room left : List ℕ) → AreSlotsKept old s xs → 1 ≤ len → s' ≡ s → xs' ≡ xs → memory_of new ≡ memory_of old → bytes ≡ replicate len (fill_byte clear)
    → IsLeastFit old.holes (rounded (length bytes)) place
    → blocks_in t ys ≡ blocks_in s' xs' ++ record { number = births + 1; place = place; len = length bytes } ∷ []
    → memories_in t ys ≡ memories_in s' xs' ++ record { block = births + 1; bytes = bytes } ∷ []
    → marks_in t ys ≡ marks_in s' xs' ++ new_mark (births + 1) ∷ []
    → loans_in t ys ≡ loans_in s' xs'
    → IsBorn (device_of old s xs births room) (device_of new t ys (births + 1) left) len clear (births + 1)
born_of old new s s' t xs xs' ys births len place clear bytes room left k some slots index memory filled least blocks memories marks loans =
    let long : length bytes ≡ len = ap length filled ∙ length-replicate len (fill_byte clear) in
    subst (λ b. IsBornWith (device_of old s xs births room) (device_of new t ys (births + 1) left) len b (births + 1)) filled
    (born_with old new s s' t xs xs' ys births len place bytes room left k some slots index memory long least blocks memories marks loans)

-- a length for which there is a place fits in the holes
pub fits_there : (h : Space) (s : List (Option Stored)) (xs : List (ℕ × ℕ)) (births len : ℕ) (room : List ℕ) → AreSlotsKept h s xs → (birth_place (device_of h s xs births room) len ≡ None → ⊥) → (q : ℕ) × IsFit h.holes (rounded len) q
fits_there h s xs births len room k some = go (place_for (memory_of h) (blocks_in s xs) (rounded len)) (place_for-found (memory_of h) (blocks_in s xs) (rounded len)) some
  where
    go : (o : Option ℕ) → IsFoundPlace (fits_at (memory_of h) (blocks_in s xs) (rounded len)) o → (o ≡ None → ⊥) → (q : ℕ) × IsFit h.holes (rounded len) q
    go None found none = absurd (none refl)
    go (Some p) found none =
        let fits : Fits (memory_of h) (blocks_in s xs) (rounded len) p = fits_says (memory_of h) (blocks_in s xs) (rounded len) p found.0 in
        let beside : IsFitBeside h.holes [] (rounded len) p = fit_from h (blocks_in s xs) [] (rounded len) p (shared h s xs k) (subst (λ bs. Fits (memory_of h) bs (rounded len) p) (sym (append-nil (blocks_in s xs))) fits) in
        (p, λ a w. (beside a w).0)

-- a new block is there
found_last : (blocks : List Block) (b : Block) → IsSome (block_at b.number (blocks ++ b ∷ []))
found_last [] b = rw (equal_self b.number)
found_last (x ∷ xs) b = go (found_last xs b) (x.number == b.number)
  where
    go : IsSome (block_at b.number (xs ++ b ∷ [])) → (t : Bool) → IsSome (cond t (Some x) (block_at b.number (xs ++ b ∷ [])))
    go rest true = refl
    go rest false = rest

pub there_after_birth : (old new : DeviceState) (len : ℕ) (clear : Bool) (block : ℕ) → IsBorn old new len clear block → HasBlock new block
there_after_birth old new len clear block born = rw born.blocks (found_last old.blocks (record { number = block; place = born.place; len = len }))

-- and has its bytes
bytes_last : (ms : List Memory) (n : ℕ) (bytes : List ℕ) → AllByRecursion (λ m. m.block ≡ n → ⊥) ms → bytes_of n (ms ++ record { block = n; bytes = bytes } ∷ []) ≡ bytes
bytes_last [] n bytes h = rw (equal_self n)
bytes_last (m ∷ ms) n bytes h =
    let t : (m.block == n) ≡ false = grind (arith, nat_tests, h.0) in
    rw t (bytes_last ms n bytes h.1)

pub filled_after_birth : (old : Space) (s : List (Option Stored)) (xs : List (ℕ × ℕ)) (births len : ℕ) (clear : Bool) (room : List ℕ) (new : DeviceState) → AreNumbersBorn xs births → IsBorn (device_of old s xs births room) new len clear (births + 1) → bytes_of (births + 1) new.memories ≡ replicate len (fill_byte clear)
filled_after_birth old s xs births len clear room new c born =
    ap (bytes_of (births + 1)) born.memories
    ∙ bytes_last (memories_in s xs) (births + 1) (replicate len (fill_byte clear))
    (AllByRecursion-map (λ (m : Memory). m.block ≡ births + 1 → ⊥) (λ (e : ℕ × ℕ). memory_from e.0 (slot_of s e)) xs (AllByRecursion-weaker (λ (e : ℕ × ℕ). e.0 ≤ births) (λ e. e.0 ≡ births + 1 → ⊥) xs (λ e le same. omega arith) c.below))

-- the numbers stay at most the births
pub born_counted : (xs ys : List (ℕ × ℕ)) (births slot : ℕ) → AreNumbersBorn xs births → births < 2 ^ 48 → ys ≡ xs ++ (births + 1, slot) ∷ [] → AreNumbersBorn ys (births + 1)
born_counted xs ys births slot c few is = record {
  below = rw is (AllByRecursion-append (λ (e : ℕ × ℕ). e.0 ≤ births + 1) xs ((births + 1, slot) ∷ []) (AllByRecursion-weaker (λ (e : ℕ × ℕ). e.0 ≤ births) (λ e. e.0 ≤ births + 1) xs (λ e le. omega arith) c.below) (omega arith, tt));
  few = omega arith;
}

-- the next number is above all
pub above_all : (xs ys : List (ℕ × ℕ)) (births : ℕ) → AreNumbersBorn xs births → ys ≡ xs → AllByRecursion (λ e. e.0 < births + 1) ys
above_all xs ys births c is = rw is (AllByRecursion-weaker (λ (e : ℕ × ℕ). e.0 ≤ births) (λ e. e.0 < births + 1) xs (λ e le. omega arith) c.below)
