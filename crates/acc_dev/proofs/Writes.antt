-- What a change of one slot leaves: of its bytes, of its mark, or of its loan.
use Rattle.std.proofs.Common.{ℕ, ◌≡◌, ◌+◌, ◌≤◌, refl, sym, ap, ◌∙◌, subst, Bool, true, false, List, [], ◌∷◌, length, get_or, Option, Some, None, arith, inl, inr, length-append, length-drop}
use Rattle.std.specs.Prelude.{IsSome, is_some}
use Rattle.acc_base.specs.Limits.{recorded}
use Rattle.std.specs.List.{AllByRecursion}
use Rattle.std.proofs.lemmas.Bool.{false≢true, cases_eq}
use Rattle.std.proofs.lemmas.List.{length-take}
use Rattle.acc_base.specs.declared.loans.Loan.{Loan}
use Rattle.acc_base.specs.Bytes.{bytes_of}
use Rattle.acc_base.specs.Loans.{Leased, loan_of, is_lent, len_of}
use Rattle.acc_placement.specs.Space.{Space}
use Rattle.slab.specs.Slab.{Slab}
use Rattle.acc_dev.specs.declared.entries.Stored.{Stored}
use Rattle.acc_dev.specs.Marks.{Mark, pins_at, is_ended_at, IsSoundMark}
use Rattle.acc_base.specs.Overwriting.{overwritten}
use Rattle.acc_dev.specs.Device.{DeviceState, IsBlockWritten, IsMarked, IsTakenOut, IsPutBack}
use Rattle.acc_index.specs.Indexed.{IsIndexRising}
use Rattle.acc_dev.specs.Slots.{IsEntry, IsSlotOf}
use Rattle.acc_dev.specs.Kept.{stored_len, stored_bytes, stored_ended, stored_loan, mark_from, slot_of, blocks_in, marks_in, loans_in, IsInOrOut, IsBacked, AreSlotsKept, IsRewritten, IsRemarked, IsRelent}
use Rattle.acc_dev.proofs.Rising.{start}
use Rattle.acc_dev.proofs.Slots.{KeepsOthers, told_slot, all_filled, blocks_in-kept, memories_in-kept, marks_in-kept, memories_in-changed, marks_in-changed}
use Rattle.acc_dev.proofs.Lent.{AreBacked, loan_of-entry, loans_in-kept, loans_in-lent, loans_in-restored, backed_changed, backed_kept, backed_like}
use Rattle.acc_dev.proofs.Keeping.{device_of, filled_slot, bytes_at, loan_of_slot, ended_at, pins_at_slot, long_at}

-- a slot that has something is not empty
some_not_none : {o : Option Stored} → IsSome o → o ≡ None → ⊥
some_not_none some none = false≢true (subst IsSome none some)

-- ---- what a device keeps

-- a device keeps its laws where one slot changes and still has the block's place and length, with an allowed mark and
-- loan
changed_kept : (h : Space) (s t : List (Option Stored)) (xs : List (ℕ × ℕ)) (k : ℕ) → AreSlotsKept h s xs → IsSome (get_or s k None) → IsSome (get_or t k None) → KeepsOthers s t k → blocks_in t xs ≡ blocks_in s xs → AllByRecursion IsSoundMark (marks_in t xs) → AreBacked t xs → AreSlotsKept h t xs
changed_kept h s t xs k kept some filled others blocks marks backed =
    record {
      canonical = kept.canonical;
      rising = kept.rising;
      distinct = kept.distinct;
      filled = all_filled s t k xs others filled kept.filled;
      others_empty = λ j off. others j (λ same. some_not_none some (subst (λ (i : ℕ). get_or s i None ≡ None) same (kept.others_empty j off))) ∙ kept.others_empty j off;
      lens = rw blocks kept.lens;
      marks = marks;
      backed = backed;
      partition = rw blocks kept.partition;
    }

-- a slot whose block is not lent has no loan
pub free_at : (h : Space) (s : List (Option Stored)) (xs : List (ℕ × ℕ)) (i n : ℕ) → AreSlotsKept h s xs → IsEntry xs n i → is_lent n (loans_in s xs) ≡ false → stored_loan (slot_of s (get_or xs i start)) ≡ None
free_at h s xs i n k entry free = go (stored_loan (slot_of s (get_or xs i start))) (loan_of-entry s xs i n k.rising k.backed entry.in_bounds entry.number)
  where
    go : (o : Option Loan) → loan_of n (loans_in s xs) ≡ o → o ≡ None
    go None found = refl
    go (Some l) found = absurd (false≢true (sym free ∙ ap (λ (o : Option Loan). is_some o) found))

-- ---- a write

-- a write within the bytes leaves as many
length-overwritten : (offset : ℕ) (bytes old : List ℕ) → offset + length bytes ≤ length old → length (overwritten offset bytes old) ≡ length old
length-overwritten offset bytes old within = simp (length-append, length-take, length-drop) (omega arith)

-- what lies within the bytes of a block lies within those of its slot
pub within_slot : (h : Space) (s : List (Option Stored)) (xs : List (ℕ × ℕ)) (births n k offset len : ℕ) (room : List ℕ) (d : DeviceState) → device_of h s xs births room ≡ d → IsIndexRising xs → IsSlotOf xs n k → offset + len ≤ length (bytes_of n d.memories) → offset + len ≤ length (stored_bytes (get_or s k None))
within_slot h s xs births n k offset len room d is rise slot within =
    subst (λ (b : List ℕ). offset + len ≤ length b) (ap (λ (x : DeviceState). bytes_of n x.memories) (sym is) ∙ bytes_at s xs n k rise slot) within

-- a write leaves what a device keeps
pub written_kept : (h : Space) (s t : Slab Stored) (xs : List (ℕ × ℕ)) (n k offset : ℕ) (bytes : List ℕ) → AreSlotsKept h s.slots xs → IsSlotOf xs n k → offset + length bytes ≤ length (stored_bytes (get_or s.slots k None)) → IsRewritten s t k offset bytes → AreSlotsKept h t.slots xs
written_kept h s t xs n k offset bytes kept slot within w =
    let long : length (stored_bytes (get_or t.slots k None)) ≡ length (stored_bytes (get_or s.slots k None)) = ap length w.bytes_are ∙ length-overwritten offset bytes (stored_bytes (get_or s.slots k None)) within in
    changed_kept h s.slots t.slots xs k kept (filled_slot h s.slots xs n k kept slot) w.filled w.others (blocks_in-kept s.slots t.slots k xs w.others w.place w.len)
    (rw (marks_in-kept s.slots t.slots k xs w.others w.pins w.ended) kept.marks)
    (backed_kept s.slots t.slots k xs w.others (λ n. backed_like n (get_or s.slots k None) (get_or t.slots k None) w.len long w.loan (λ lent mapped. w.ended ∙ mapped)) kept.backed)

-- what a write leaves, as contracts see it
pub written_of : (h : Space) (s t : Slab Stored) (xs : List (ℕ × ℕ)) (births n k offset : ℕ) (room bytes : List ℕ) → AreSlotsKept h s.slots xs → IsSlotOf xs n k → IsRewritten s t k offset bytes
    → IsBlockWritten (device_of h s.slots xs births room) (device_of h t.slots xs births room) n offset bytes
written_of h s t xs births n k offset room bytes kept slot w =
    record {
      memory = refl;
      blocks = blocks_in-kept s.slots t.slots k xs w.others w.place w.len;
      memories = memories_in-changed s.slots t.slots xs n k (overwritten offset bytes) kept.rising kept.distinct slot w.others w.bytes_are;
      marks = marks_in-kept s.slots t.slots k xs w.others w.pins w.ended;
      loans = loans_in-kept s.slots t.slots k xs w.others w.loan;
      births = refl;
      room = refl;
    }

-- ---- a mark

-- each mark may be where the new one may
sound_changed : (s t : List (Option Stored)) (k : ℕ) (xs : List (ℕ × ℕ)) → KeepsOthers s t k → ((n : ℕ) → IsSoundMark (mark_from n (get_or t k None))) → AllByRecursion IsSoundMark (marks_in s xs) → AllByRecursion IsSoundMark (marks_in t xs)
sound_changed s t k [] others sound all = tt
sound_changed s t k (x ∷ xs) others sound all = (
  elim (cases_eq x.1 k) [
    | inl same ↦ subst (λ (j : ℕ). IsSoundMark (mark_from x.0 (get_or t j None))) (sym same) (sound x.0)
    | inr differs ↦ subst (λ (o : Option Stored). IsSoundMark (mark_from x.0 o)) (sym (others x.1 differs)) all.0
  ],
  sound_changed s t k xs others sound all.1,
)

-- the mark that a slot was given
mark_given : (s t : Slab Stored) (k pins n : ℕ) (ended : Bool) → IsRemarked s t k pins ended → mark_from n (get_or t.slots k None) ≡ record { block = n; pins = pins; ended = ended }
mark_given s t k pins n ended m = rw (m.pins_are, m.ended_is)

-- a mark that may be leaves what a device keeps
pub marked_kept : (h : Space) (s t : Slab Stored) (xs : List (ℕ × ℕ)) (k pins : ℕ) (ended : Bool) → AreSlotsKept h s.slots xs → IsSome (get_or s.slots k None) → ((n : ℕ) → IsSoundMark (record { block = n; pins = pins; ended = ended })) → (IsSome (stored_loan (get_or s.slots k None)) → ended ≡ false) → IsRemarked s t k pins ended → AreSlotsKept h t.slots xs
marked_kept h s t xs k pins ended kept some sound mapped m =
    changed_kept h s.slots t.slots xs k kept some m.filled m.others (blocks_in-kept s.slots t.slots k xs m.others m.place m.len)
    (sound_changed s.slots t.slots k xs m.others (λ n. rw (mark_given s t k pins n ended m) (sound n)) kept.marks)
    (backed_kept s.slots t.slots k xs m.others (λ n. backed_like n (get_or s.slots k None) (get_or t.slots k None) m.len (ap length m.bytes) m.loan (λ lent was. m.ended_is ∙ mapped lent)) kept.backed)

-- a block that is lent does not end
pub lent_mapped : (s : List (Option Stored)) (xs : List (ℕ × ℕ)) (n k : ℕ) (ended : Bool) → IsIndexRising xs → AreBacked s xs → IsSlotOf xs n k → (ended ≡ true → is_lent n (loans_in s xs) ≡ false) → IsSome (stored_loan (get_or s k None)) → ended ≡ false
lent_mapped s xs n k false rise backed slot free some = refl
lent_mapped s xs n k true rise backed slot free some =
    absurd (false≢true (sym (free refl) ∙ (ap (λ (o : Option Loan). is_some o) (loan_of_slot s xs n k rise backed slot) ∙ some)))

-- what a mark leaves, as contracts see it
pub marked_of : (h : Space) (s t : Slab Stored) (xs : List (ℕ × ℕ)) (births n k pins : ℕ) (ended : Bool) (room : List ℕ) (change : Mark → Mark) → AreSlotsKept h s.slots xs → IsSlotOf xs n k → IsRemarked s t k pins ended
    → change (record { block = n; pins = pins_at n (marks_in s.slots xs); ended = is_ended_at n (marks_in s.slots xs) }) ≡ record { block = n; pins = pins; ended = ended }
    → IsMarked (device_of h s.slots xs births room) (device_of h t.slots xs births room) n change
marked_of h s t xs births n k pins ended room change kept slot m is =
    let was : mark_from n (get_or s.slots k None) ≡ record { block = n; pins = pins_at n (marks_in s.slots xs); ended = is_ended_at n (marks_in s.slots xs) } = rw (pins_at_slot s.slots xs n k kept.rising slot, ended_at s.slots xs n k kept.rising slot) in
    record {
      memory = refl;
      blocks = blocks_in-kept s.slots t.slots k xs m.others m.place m.len;
      memories = memories_in-kept s.slots t.slots k xs m.others m.bytes;
      marks = marks_in-changed s.slots t.slots xs n k change kept.rising kept.distinct slot m.others (mark_given s t k pins n ended m ∙ sym is ∙ ap change (sym was));
      loans = loans_in-kept s.slots t.slots k xs m.others m.loan;
      births = refl;
      room = refl;
    }

-- ---- a loan

-- a slot that is lent has its loan
lent_backed : (n : ℕ) (o : Option Stored) (loan : Loan) → stored_loan o ≡ Some loan → stored_ended o ≡ false → loan.block ≡ n → loan.offset + loan.len ≤ stored_len o → IsBacked n o
lent_backed n o loan is mapped block within = subst (IsInOrOut n o) (sym is) (record { mapped = mapped; block = block; within = within })

-- one that is not lent has its bytes
restored_backed : (n : ℕ) (o : Option Stored) → stored_loan o ≡ None → length (stored_bytes o) ≡ stored_len o → IsBacked n o
restored_backed n o is long = subst (IsInOrOut n o) (sym is) long

-- a loan that may be leaves what a device keeps
relent_kept : (h : Space) (s t : Slab Stored) (xs : List (ℕ × ℕ)) (n k : ℕ) (loan : Option Loan) (bytes : List ℕ) → AreSlotsKept h s.slots xs → IsSlotOf xs n k → IsRelent s t k loan bytes → IsBacked n (get_or t.slots k None) → AreSlotsKept h t.slots xs
relent_kept h s t xs n k loan bytes kept slot r backed =
    changed_kept h s.slots t.slots xs k kept (filled_slot h s.slots xs n k kept slot) r.filled r.others (blocks_in-kept s.slots t.slots k xs r.others r.place r.len)
    (rw (marks_in-kept s.slots t.slots k xs r.others r.pins r.ended) kept.marks)
    (backed_changed s.slots t.slots n k xs r.others (told_slot xs n k kept.rising kept.distinct slot) (λ was. backed) kept.backed)

-- a device keeps what it keeps where a block is lent
pub lent_kept : (h : Space) (s t : Slab Stored) (xs : List (ℕ × ℕ)) (k : ℕ) (loan : Loan) (stays : List ℕ) → AreSlotsKept h s.slots xs → IsSlotOf xs loan.block k → IsRelent s t k (Some loan) stays → is_ended_at loan.block (marks_in s.slots xs) ≡ false → loan.offset + loan.len ≤ len_of loan.block (blocks_in s.slots xs) → AreSlotsKept h t.slots xs
lent_kept h s t xs k loan stays kept slot r mapped within =
    let ended : stored_ended (get_or t.slots k None) ≡ false = r.ended ∙ (sym (ended_at s.slots xs loan.block k kept.rising slot) ∙ mapped) in
    let long : len_of loan.block (blocks_in s.slots xs) ≡ stored_len (get_or t.slots k None) = long_at s.slots xs loan.block k kept.rising slot ∙ sym r.len in
    relent_kept h s t xs loan.block k (Some loan) stays kept slot r (lent_backed loan.block (get_or t.slots k None) loan r.loan_is ended refl (subst (λ (len : ℕ). loan.offset + loan.len ≤ len) long within))

-- and where it is lent no longer
pub restored_kept : (h : Space) (s t : Slab Stored) (xs : List (ℕ × ℕ)) (n k : ℕ) (bytes : List ℕ) → AreSlotsKept h s.slots xs → IsSlotOf xs n k → IsRelent s t k None bytes → stored_len (get_or s.slots k None) ≡ length bytes → AreSlotsKept h t.slots xs
restored_kept h s t xs n k bytes kept slot r long =
    relent_kept h s t xs n k None bytes kept slot r (restored_backed n (get_or t.slots k None) r.loan_is (ap length r.bytes_are ∙ (sym long ∙ sym r.len)))

-- what a new loan leaves, as contracts see it
pub taken_out_of : (h : Space) (s t : Slab Stored) (xs : List (ℕ × ℕ)) (births k : ℕ) (room : List ℕ) (loan : Loan) (keep : Bool) (stays : List ℕ) → AreSlotsKept h s.slots xs → IsSlotOf xs loan.block k → stored_loan (get_or s.slots k None) ≡ None → stays ≡ recorded keep (stored_bytes (get_or s.slots k None)) → IsRelent s t k (Some loan) stays
    → IsTakenOut (device_of h s.slots xs births room) (device_of h t.slots xs births room) loan keep
taken_out_of h s t xs births k room loan keep stays kept slot free copied r =
    record {
      memory = refl;
      blocks = blocks_in-kept s.slots t.slots k xs r.others r.place r.len;
      memories = memories_in-changed s.slots t.slots xs loan.block k (recorded keep) kept.rising kept.distinct slot r.others (r.bytes_are ∙ copied);
      marks = marks_in-kept s.slots t.slots k xs r.others r.pins r.ended;
      loans = loans_in-lent s.slots t.slots xs slot.at loan kept.rising kept.distinct kept.backed slot.entry.in_bounds (rw slot.is r.others) (sym slot.entry.number) (rw slot.is free) (rw slot.is r.loan_is);
      births = refl;
      room = refl;
    }

-- what the end of a loan leaves, as contracts see it
pub put_back_of : (h : Space) (s t : Slab Stored) (xs : List (ℕ × ℕ)) (births k : ℕ) (room : List ℕ) (lease : Leased) → AreSlotsKept h s.slots xs → IsSlotOf xs lease.block k → IsRelent s t k None lease.bytes
    → IsPutBack (device_of h s.slots xs births room) (device_of h t.slots xs births room) lease
put_back_of h s t xs births k room lease kept slot r =
    record {
      memory = refl;
      blocks = blocks_in-kept s.slots t.slots k xs r.others r.place r.len;
      memories = memories_in-changed s.slots t.slots xs lease.block k (λ bytes. lease.bytes) kept.rising kept.distinct slot r.others r.bytes_are;
      marks = marks_in-kept s.slots t.slots k xs r.others r.pins r.ended;
      loans = loans_in-restored s.slots t.slots xs slot.at lease.block kept.rising kept.distinct kept.backed slot.entry.in_bounds (rw slot.is r.others) slot.entry.number (rw slot.is r.loan_is);
      births = refl;
      room = refl;
    }
