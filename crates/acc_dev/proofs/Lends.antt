-- What the slot of an entry says of its loan, as contracts see it.
use Rattle.std.proofs.Common.{ℕ, ◌≡◌, ◌+◌, ◌≤◌, refl, sym, ap, ap₂, ◌∙◌, subst, Bool, true, false, List, length, get_or, Option, Some, None}
use Rattle.std.specs.Prelude.{◌==◌, ◌&&◌, ◌||◌, not, is_some}
use Rattle.acc_base.specs.Bytes.{bytes_of}
use Rattle.std.specs.List.{AllByRecursion}
use Rattle.acc_base.specs.declared.addresses.TheConstants.{MEMORY_MAX}
use Rattle.acc_base.specs.declared.loans.Loan.{Loan}
use Rattle.acc_base.specs.Loans.{Leased, loan_of, is_lent, len_of, is_loan_of}
use Rattle.acc_base.specs.Leases.{is_kept_outside, is_returnable}
use Rattle.acc_base.proofs.Results.{and_true, equal}
use Rattle.acc_placement.specs.Space.{Space}
use Rattle.acc_dev.specs.declared.entries.Stored.{Stored}
use Rattle.acc_index.specs.Indexed.{IsIndexRising}
use Rattle.acc_dev.specs.Slots.{IsSlotOf}
use Rattle.acc_dev.specs.Kept.{stored_len, stored_bytes, stored_loan, blocks_in, memories_in, loans_in, is_back_at, AreSlotsKept}
use Rattle.acc_dev.proofs.LoanLists.{loan_of-none}
use Rattle.acc_dev.proofs.Lent.{AreBacked, loans_all}
use Rattle.acc_dev.proofs.Keeping.{loan_of_slot, long_at, whole_at, len_slot, bytes_at}

-- a look at a slot returns whether the block is lent
pub lent_at : (s : List (Option Stored)) (xs : List (ℕ × ℕ)) (n k : ℕ) (loan : Option Loan) (is : Bool) → IsIndexRising xs → AreBacked s xs → IsSlotOf xs n k → loan ≡ stored_loan (get_or s k None) → is_some loan ≡ is → is_lent n (loans_in s xs) ≡ is
lent_at s xs n k loan is rise backed slot here some = ap (λ (o : Option Loan). is_some o) (loan_of_slot s xs n k rise backed slot ∙ sym here) ∙ some

-- where it returns no, there is no loan
pub none_here : {T : Type 0} (o : Option T) → is_some o ≡ false → o ≡ None
none_here None e = refl
none_here (Some x) e = cc

-- a section of a block that is not lent lies within the bytes of its slot
pub section_within : (s : List (Option Stored)) (xs : List (ℕ × ℕ)) (n k offset len : ℕ) → IsIndexRising xs → AreBacked s xs → IsSlotOf xs n k → is_lent n (loans_in s xs) ≡ false → offset + len ≤ len_of n (blocks_in s xs) → offset + len ≤ length (stored_bytes (get_or s k None))
section_within s xs n k offset len rise backed slot free within = subst (λ (m : ℕ). offset + len ≤ m) (long_at s xs n k rise slot ∙ sym (whole_at s xs n k rise backed slot free)) within

-- and these are not too many
pub capped_at : (h : Space) (s : List (Option Stored)) (xs : List (ℕ × ℕ)) (n k : ℕ) → AreSlotsKept h s xs → IsSlotOf xs n k → is_lent n (loans_in s xs) ≡ false → length (stored_bytes (get_or s k None)) ≤ MEMORY_MAX
capped_at h s xs n k kept slot free = subst (λ (m : ℕ). m ≤ MEMORY_MAX) (sym (whole_at s xs n k kept.rising kept.backed slot free)) (len_slot h s xs n k kept slot).1

-- a look at a slot returns whether a lease brings its block back
pub returnable_at : (s : List (Option Stored)) (xs : List (ℕ × ℕ)) (k d : ℕ) (lease : Leased) (kept is : Bool) → IsIndexRising xs → AreBacked s xs → IsSlotOf xs lease.block k
    → is ≡ is_back_at kept d lease (get_or s k None) → is_returnable kept d lease (blocks_in s xs) (loans_in s xs) (memories_in s xs) ≡ is
returnable_at s xs k d lease kept is rise backed slot here =
    ap₂ (λ (o : Option Loan) (n : ℕ). is_loan_of lease o && n == length lease.bytes && lease.device == d && (not kept || is_kept_outside lease (bytes_of lease.block (memories_in s xs)))) (loan_of_slot s xs lease.block k rise backed slot) (long_at s xs lease.block k rise slot)
    ∙ (ap (λ (bytes : List ℕ). is_loan_of lease (stored_loan (get_or s k None)) && stored_len (get_or s k None) == length lease.bytes && lease.device == d && (not kept || is_kept_outside lease bytes)) (bytes_at s xs lease.block k rise slot) ∙ sym here)

-- a block that is not there is not lent
pub not_lent : (s : List (Option Stored)) (xs : List (ℕ × ℕ)) (n : ℕ) → AreBacked s xs → AllByRecursion (λ e. e.0 ≡ n → ⊥) xs → loan_of n (loans_in s xs) ≡ None
not_lent s xs n backed none = loan_of-none n (loans_in s xs) (loans_all (λ m. m ≡ n → ⊥) s xs backed none)

-- a lease of a block that is not there brings none back
pub unknown_block : (s : List (Option Stored)) (xs : List (ℕ × ℕ)) (d : ℕ) (lease : Leased) (kept : Bool) → AreBacked s xs → AllByRecursion (λ e. e.0 ≡ lease.block → ⊥) xs → is_returnable kept d lease (blocks_in s xs) (loans_in s xs) (memories_in s xs) ≡ false
unknown_block s xs d lease kept backed none = rw (not_lent s xs lease.block backed none)

-- a lease that brings its block back has as many bytes as it is long
pub long_lease : (o : Option Stored) (d : ℕ) (lease : Leased) (kept is : Bool) → is ≡ is_back_at kept d lease o → is ≡ true → stored_len o ≡ length lease.bytes
long_lease o d lease kept is here fits = equal _ _ (and_true _ _ (and_true _ _ (and_true _ _ (sym here ∙ fits)).0).0).1
