-- What a device keeps, and what a look-up in it finds.
use Rattle.std.proofs.Common.{ℕ, ◌≡◌, ◌+◌, ◌^◌, ◌<◌, ◌≤◌, refl, sym, ap, ◌∙◌, subst, List, [], ◌∷◌, false, length, get_or, Option, Some, None, Vec, Global, arith, ◌↔◌}
use Rattle.std.specs.Prelude.{map, find, nat_le, option_map, IsSome, IfSome, IfNone, IsTrue, is_some}
use Rattle.std.specs.List.{AllByRecursion}
use Rattle.std.proofs.lemmas.Bool.{false≢true}
use Rattle.acc_base.specs.declared.addresses.TheConstants.{MEMORY_MAX}
use Rattle.acc_base.specs.declared.loans.Loan.{Loan}
use Rattle.acc_base.specs.declared.items.Section.{Section}
use Rattle.acc_base.specs.declared.mappings.Block.{Block}
use Rattle.acc_base.specs.Limits.{IsFromOne}
use Rattle.acc_base.specs.Holes.{taken_range, AreHoles, IsDevice, IsNextHole}
use Rattle.acc_base.specs.Blocks.{block_at, used_bytes}
use Rattle.acc_base.specs.Bytes.{bytes_of}
use Rattle.acc_base.specs.Loans.{loan_of, is_lent, len_of}
use Rattle.acc_base.specs.Accounts.{EachPair}
use Rattle.acc_base.proofs.Elements.{AllByRecursion-map}
use Rattle.acc_placement.specs.Space.{Space}
use Rattle.acc_placement.proofs.Partitions.{all_disjoint, all_whole}
use Rattle.slab.specs.Slab.{Slab, slab_len}
use Rattle.acc_dev.specs.declared.entries.Stored.{Stored}
use Rattle.acc_dev.specs.declared.devices.Device.TheInside.{Inside}
use Rattle.acc_dev.specs.Room.{room_ready, HasRoom}
use Rattle.acc_dev.specs.Device.{DeviceState, HasBlock, HasBlocksApart, IsLoanOn}
use Rattle.acc_dev.specs.Marks.{pins_at, is_ended_at, IsSoundMark}
use Rattle.acc_index.specs.Indexed.{IsIndexRising}
use Rattle.acc_dev.specs.Slots.{IsEntry, IsSlotOf}
use Rattle.acc_dev.specs.Kept.{memory_of, stored_len, stored_bytes, stored_pins, stored_ended, stored_loan, block_from, mark_from, marks_in, loans_in, slot_of, blocks_in, memories_in, IsOut, IsInOrOut, IsBacked, AreSlotsKept, AreNumbersBorn, IsStoredOf}
use Rattle.acc_base.proofs.Splitting.{all_at}
use Rattle.acc_base.proofs.Keyed.{all_from}
use Rattle.acc_dev.proofs.Rising.{start}
use Rattle.acc_dev.proofs.Slots.{block_at-entry, bytes_of-entry, pins_at-entry, is_ended_at-entry, block_at-none}
use Rattle.acc_dev.proofs.Lent.{AreBacked, loans_each, loan_of-entry, len_of-entry, long_entry, ended_free}
use Rattle.acc_dev.proofs.Vacant.{hole_of, holes_listed, next_of}
use Rattle.acc_dev.proofs.Placing.{IsShared, total-used, some_bytes, clear_of, on_device}

-- what contracts see of a device
abbrev pub device_of : Space → List (Option Stored) → List (ℕ × ℕ) → ℕ → List ℕ → DeviceState
device_of h s xs births room = record { memory = memory_of h; blocks = blocks_in s xs; memories = memories_in s xs; marks = marks_in s xs; loans = loans_in s xs; births = births; room = room }

-- ---- what holds of every device

-- the blocks stand in the order of their births
rising_blocks : (s : List (Option Stored)) (xs : List (ℕ × ℕ)) → IsIndexRising xs → EachPair (λ (b : Block) (c : Block). b.number < c.number) (blocks_in s xs)
rising_blocks s [] h = tt
rising_blocks s (x ∷ xs) h = (AllByRecursion-map (λ (b : Block). x.0 < b.number) (λ (e : ℕ × ℕ). block_from e.0 (slot_of s e)) xs h.0, rising_blocks s xs h.1)

-- a space that begins where another does, and is as long, has the same addresses
pub same_memory : (old new : Space) → new.base ≡ old.base → new.size ≡ old.size → memory_of new ≡ memory_of old
same_memory old new base size = let section : ℕ → ℕ → Section = λ p n. record { start = p; len = n } in ap (λ (p : ℕ). section p new.size) base ∙ ap (λ (n : ℕ). section old.base n) size

-- the holes and the blocks are the device
pub shared : (h : Space) (s : List (Option Stored)) (xs : List (ℕ × ℕ)) → AreSlotsKept h s xs → IsShared h (blocks_in s xs)
shared h s xs k = record { canonical = k.canonical; partition = k.partition }

-- blocks lie on the device and apart
pub apart_of : (h : Space) (s : List (Option Stored)) (xs : List (ℕ × ℕ)) (births : ℕ) (room : List ℕ) → AreSlotsKept h s xs → AreNumbersBorn xs births → HasBlocksApart (device_of h s xs births room)
apart_of h s xs births room k c = record {
  on_device = on_device h (blocks_in s xs) k.lens k.partition.within k.partition.aligned;
  apart = clear_of (blocks_in s xs) (some_bytes (blocks_in s xs) k.lens) (rising_blocks s xs k.rising) k.partition.disjoint;
  born = AllByRecursion-map (λ (b : Block). b.number ≤ births) (λ (e : ℕ × ℕ). block_from e.0 (slot_of s e)) xs c.below;
}

-- the listed holes are those that they leave
pub holes_kept : (h : Space) (s : List (Option Stored)) (xs : List (ℕ × ℕ)) → AreSlotsKept h s xs → AreHoles (memory_of h) (blocks_in s xs) h.holes
holes_kept h s xs k =
    let ts : List (ℕ × ℕ) = map taken_range (blocks_in s xs) in
    record {
      listed = holes_listed h (blocks_in s xs) (shared h s xs k);
      rising = k.canonical.rising;
      disjoint = all_disjoint h ts k.canonical k.partition;
      whole = all_whole h ts k.canonical k.partition;
      bytes = omega (arith, total-used (blocks_in s xs), k.partition.sizes);
    }

-- with the holes they are the device
pub divided : (h : Space) (s : List (Option Stored)) (xs : List (ℕ × ℕ)) → AreSlotsKept h s xs → IsDevice (memory_of h) (blocks_in s xs)
divided h s xs k = (h.holes, holes_kept h s xs k)

-- the first listed hole from an address on is the next one
pub next_found : (h : Space) (s : List (Option Stored)) (xs : List (ℕ × ℕ)) (from : ℕ) (o : Option (ℕ × ℕ)) → AreSlotsKept h s xs → o ≡ find (λ x. nat_le from x.0) h.holes → IsNextHole from (memory_of h) (blocks_in s xs) (option_map hole_of o)
next_found h s xs from o k found = next_of h (blocks_in s xs) from o (shared h s xs k) found

-- and take no more bytes than it has
pub kept_used_within : (h : Space) (s : List (Option Stored)) (xs : List (ℕ × ℕ)) → AreSlotsKept h s xs → used_bytes (blocks_in s xs) ≤ h.size
kept_used_within h s xs k = omega (arith, total-used (blocks_in s xs), k.partition.sizes)

-- the block of the loan of a slot is there and mapped, and the section lies in it
loan_on : (h : Space) (s : List (Option Stored)) (xs : List (ℕ × ℕ)) (births i : ℕ) (room : List ℕ) (l : Loan) → AreSlotsKept h s xs → i < length xs → stored_loan (slot_of s (get_or xs i start)) ≡ Some l → IsLoanOn (device_of h s xs births room) l
loan_on h s xs births i room l k lt is =
    let n = (get_or xs i start).0 in
    let o = slot_of s (get_or xs i start) in
    let out : IsOut n o l = subst (IsInOrOut n o) is (all_at (λ (e : ℕ × ℕ). IsBacked e.0 (slot_of s e)) xs i start lt k.backed) in
    let entry : IsEntry xs l.block i = record { in_bounds = lt; number = sym out.block } in
    record {
      there = subst IsSome (sym (block_at-entry s xs i l.block k.rising entry)) refl;
      mapped = is_ended_at-entry s xs i l.block k.rising entry ∙ out.mapped;
      within = rw (len_of-entry s xs i l.block k.rising entry) out.within;
    }

-- and so it is with each loan
pub loans_on : (h : Space) (s : List (Option Stored)) (xs : List (ℕ × ℕ)) (births : ℕ) (room : List ℕ) → AreSlotsKept h s xs → AllByRecursion (IsLoanOn (device_of h s xs births room)) (loans_in s xs)
loans_on h s xs births room k =
    loans_each (IsLoanOn (device_of h s xs births room)) s xs (all_from (λ (e : ℕ × ℕ). (l : Loan) → stored_loan (slot_of s e) ≡ Some l → IsLoanOn (device_of h s xs births room) l) xs start (λ i lt l is. loan_on h s xs births i room l k lt is))

-- ---- look-ups

-- the block of a number is there exactly where the search finds it
pub found_there : (s : List (Option Stored)) (xs : List (ℕ × ℕ)) (n : ℕ) (o : Option ℕ) → IsIndexRising xs → IfSome o (IsSlotOf xs n) → IfNone o (AllByRecursion (λ e. e.0 ≡ n → ⊥) xs) → IsTrue (is_some o) ↔ IsSome (block_at n (blocks_in s xs))
found_there s xs n None rise found none = (λ e. absurd (false≢true e), λ some. subst IsSome (block_at-none s xs n none) some)
found_there s xs n (Some slot) rise found none = (λ e. subst IsSome (sym (block_at-entry s xs found.at n rise found.entry)) refl, λ some. refl)

all-unmap : {X Y : Type 0} (P : Y → Type 0) (f : X → Y) (xs : List X) → AllByRecursion P (map f xs) → AllByRecursion (λ x. P (f x)) xs
all-unmap P f [] h = tt
all-unmap P f (x ∷ xs) h = (h.0, all-unmap P f xs h.1)

-- each block has a byte at least, and not too many
pub len_from : (s : List (Option Stored)) (xs : List (ℕ × ℕ)) (i : ℕ) → AllByRecursion (λ b. IsFromOne MEMORY_MAX b.len) (blocks_in s xs) → i < length xs → IsFromOne MEMORY_MAX (stored_len (slot_of s (get_or xs i start)))
len_from s xs i lens lt = all_at (λ (e : ℕ × ℕ). IsFromOne MEMORY_MAX (stored_len (slot_of s e))) xs i start lt (all-unmap (λ (b : Block). IsFromOne MEMORY_MAX b.len) (λ (e : ℕ × ℕ). block_from e.0 (slot_of s e)) xs lens)

pub len_at : (h : Space) (s : List (Option Stored)) (xs : List (ℕ × ℕ)) (i : ℕ) → AreSlotsKept h s xs → i < length xs → IsFromOne MEMORY_MAX (stored_len (slot_of s (get_or xs i start)))
len_at h s xs i k lt = len_from s xs i k.lens lt

-- the same of what its slot has
pub len_stored : (h : Space) (s : List (Option Stored)) (xs : List (ℕ × ℕ)) (i : ℕ) (x : Stored) → AreSlotsKept h s xs → i < length xs → slot_of s (get_or xs i start) ≡ Some x → IsFromOne MEMORY_MAX x.len
len_stored h s xs i x k lt is = subst (λ (o : Option Stored). IsFromOne MEMORY_MAX (stored_len o)) is (len_at h s xs i k lt)

-- each mark may be
sound_at : (h : Space) (s : List (Option Stored)) (xs : List (ℕ × ℕ)) (i : ℕ) → AreSlotsKept h s xs → i < length xs → IsSoundMark (mark_from (get_or xs i start).0 (slot_of s (get_or xs i start)))
sound_at h s xs i k lt = all_at (λ (e : ℕ × ℕ). IsSoundMark (mark_from e.0 (slot_of s e))) xs i start lt (all-unmap IsSoundMark (λ (e : ℕ × ℕ). mark_from e.0 (slot_of s e)) xs k.marks)

-- the slot of an entry is not empty
pub filled_at : (h : Space) (s : List (Option Stored)) (xs : List (ℕ × ℕ)) (i : ℕ) → AreSlotsKept h s xs → i < length xs → IsSome (slot_of s (get_or xs i start))
filled_at h s xs i k lt = all_at (λ (e : ℕ × ℕ). IsSome (slot_of s e)) xs i start lt k.filled

-- ---- the slot of a block

-- what is known of the slot of an entry is known by its place
slot_known : (P : Option Stored → Type 0) (s : List (Option Stored)) (xs : List (ℕ × ℕ)) (n k : ℕ) (slot : IsSlotOf xs n k) → P (slot_of s (get_or xs slot.at start)) → P (get_or s k None)
slot_known P s xs n k slot known = subst (λ (j : ℕ). P (get_or s j None)) slot.is known

-- a block that is there has an entry
pub block_listed : (d : Inside) (now : DeviceState) (n : ℕ) → device_of d.holes d.slab.slots d.index.entries d.births (room_ready d) ≡ now → HasBlock now n → AllByRecursion (λ e. e.0 ≡ n → ⊥) d.index.entries → ⊥
block_listed d now n is there none = false≢true (subst IsSome (block_at-none d.slab.slots d.index.entries n none) (subst (λ (x : DeviceState). HasBlock x n) (sym is) there))

-- the slot of a block is not empty
pub filled_slot : (h : Space) (s : List (Option Stored)) (xs : List (ℕ × ℕ)) (n k : ℕ) → AreSlotsKept h s xs → IsSlotOf xs n k → IsSome (get_or s k None)
filled_slot h s xs n k kept slot = slot_known IsSome s xs n k slot (filled_at h s xs slot.at kept slot.entry.in_bounds)

-- the bytes of a block are those of its slot
pub bytes_at : (s : List (Option Stored)) (xs : List (ℕ × ℕ)) (n k : ℕ) → IsIndexRising xs → IsSlotOf xs n k → bytes_of n (memories_in s xs) ≡ stored_bytes (get_or s k None)
bytes_at s xs n k rise slot = slot_known (λ o. bytes_of n (memories_in s xs) ≡ stored_bytes o) s xs n k slot (bytes_of-entry s xs slot.at n rise slot.entry)

-- the loan of a block is that of its slot
pub loan_of_slot : (s : List (Option Stored)) (xs : List (ℕ × ℕ)) (n k : ℕ) → IsIndexRising xs → AreBacked s xs → IsSlotOf xs n k → loan_of n (loans_in s xs) ≡ stored_loan (get_or s k None)
loan_of_slot s xs n k rise backed slot = slot_known (λ o. loan_of n (loans_in s xs) ≡ stored_loan o) s xs n k slot (loan_of-entry s xs slot.at n rise backed slot.entry.in_bounds slot.entry.number)

-- whether the mapping of a block has ended is what its slot says
pub ended_at : (s : List (Option Stored)) (xs : List (ℕ × ℕ)) (n k : ℕ) → IsIndexRising xs → IsSlotOf xs n k → is_ended_at n (marks_in s xs) ≡ stored_ended (get_or s k None)
ended_at s xs n k rise slot = slot_known (λ o. is_ended_at n (marks_in s xs) ≡ stored_ended o) s xs n k slot (is_ended_at-entry s xs slot.at n rise slot.entry)

-- how many transfers name a block is what its slot says
pub pins_at_slot : (s : List (Option Stored)) (xs : List (ℕ × ℕ)) (n k : ℕ) → IsIndexRising xs → IsSlotOf xs n k → pins_at n (marks_in s xs) ≡ stored_pins (get_or s k None)
pins_at_slot s xs n k rise slot = slot_known (λ o. pins_at n (marks_in s xs) ≡ stored_pins o) s xs n k slot (pins_at-entry s xs slot.at n rise slot.entry)

-- the length of a block is that of its slot
pub long_at : (s : List (Option Stored)) (xs : List (ℕ × ℕ)) (n k : ℕ) → IsIndexRising xs → IsSlotOf xs n k → len_of n (blocks_in s xs) ≡ stored_len (get_or s k None)
long_at s xs n k rise slot = slot_known (λ o. len_of n (blocks_in s xs) ≡ stored_len o) s xs n k slot (len_of-entry s xs slot.at n rise slot.entry)

-- the slot of a block that is not lent has as many bytes as it is long
pub whole_at : (s : List (Option Stored)) (xs : List (ℕ × ℕ)) (n k : ℕ) → IsIndexRising xs → AreBacked s xs → IsSlotOf xs n k → is_lent n (loans_in s xs) ≡ false → length (stored_bytes (get_or s k None)) ≡ stored_len (get_or s k None)
whole_at s xs n k rise backed slot free = slot_known (λ o. length (stored_bytes o) ≡ stored_len o) s xs n k slot (long_entry s xs slot.at n rise backed slot.entry.in_bounds slot.entry.number free)

-- each block has a byte at least, and not too many
pub len_slot : (h : Space) (s : List (Option Stored)) (xs : List (ℕ × ℕ)) (n k : ℕ) → AreSlotsKept h s xs → IsSlotOf xs n k → IsFromOne MEMORY_MAX (stored_len (get_or s k None))
len_slot h s xs n k kept slot = slot_known (λ o. IsFromOne MEMORY_MAX (stored_len o)) s xs n k slot (len_at h s xs slot.at kept slot.entry.in_bounds)

-- what the slot of a block has is the block's, as contracts see it
pub stored_of : (h : Space) (s : List (Option Stored)) (xs : List (ℕ × ℕ)) (births n k : ℕ) (room : List ℕ) (x : Stored) → AreSlotsKept h s xs → IsSlotOf xs n k → get_or s k None ≡ Some x → IsStoredOf (device_of h s xs births room) n x
stored_of h s xs births n k room x kept slot is =
    let i = slot.at in
    let entry = slot.entry in
    record {
      block_is = block_at-entry s xs i n kept.rising entry ∙ ap (λ (m : ℕ). Some (block_from m (slot_of s (get_or xs i start)))) entry.number
          ∙ ap (λ (j : ℕ). Some (block_from n (get_or s j None))) slot.is ∙ ap (λ (o : Option Stored). Some (block_from n o)) is;
      bytes = sym (bytes_at s xs n k kept.rising slot ∙ ap stored_bytes is);
      long = λ free. subst (λ (o : Option Stored). length (stored_bytes o) ≡ stored_len o) is (whole_at s xs n k kept.rising kept.backed slot free);
      len = subst (λ (o : Option Stored). IsFromOne MEMORY_MAX (stored_len o)) is (len_slot h s xs n k kept slot);
      pins = sym (pins_at_slot s xs n k kept.rising slot ∙ ap stored_pins is);
      few = subst (λ (o : Option Stored). stored_pins o ≤ 2 ^ 32) is (slot_known (λ o. stored_pins o ≤ 2 ^ 32) s xs n k slot (sound_at h s xs i kept entry.in_bounds).few);
      ended = sym (ended_at s xs n k kept.rising slot ∙ ap stored_ended is);
      loan = sym (loan_of_slot s xs n k kept.rising kept.backed slot ∙ ap stored_loan is);
      free = λ ended. ended_free s xs i n kept.rising kept.backed entry.in_bounds entry.number (rw (slot.is, is) ended);
    }

-- ---- room

-- a change of a slot leaves the room that was made
pub room_kept : (d : Inside) (t : Slab Stored) → HasRoom d → slab_len t ≡ slab_len d.slab → t.capacity ≡ d.slab.capacity → HasRoom (record d { slab = t })
room_kept d t r slots capacity = record { few = r.few; empty = r.empty; holes = r.holes; slots = omega (arith, r.slots, slots, capacity); entries = r.entries; ended = r.ended }

-- a birth for which room was made leaves the room of those behind it
pub room_used : (d e : Inside) (v : Vec ℕ Global) → HasRoom d → d.ready.items ≡ v ∷ e.ready.items → d.holes.spare ≤ e.holes.spare + 1 → slab_len e.slab ≡ slab_len d.slab + 1 → e.slab.capacity ≡ d.slab.capacity → d.index.room ≤ e.index.room + 1 → d.ended_blocks.room ≤ e.ended_blocks.room + 1
    → HasRoom e
room_used d e v r items spare slots slab_capacity entries ended =
    let longer = ap length items in
    let empty = subst (λ (vs : List (Vec ℕ Global)). AllByRecursion (λ u. u.items ≡ []) vs) items r.empty in
    record {
      few = omega (arith, r.few, longer);
      empty = empty.1;
      holes = omega (arith, r.holes, longer, spare);
      slots = omega (arith, r.slots, longer, slots, slab_capacity);
      entries = omega (arith, r.entries, longer, entries);
      ended = omega (arith, r.ended, longer, ended);
    }
