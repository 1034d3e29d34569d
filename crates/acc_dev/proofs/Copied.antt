-- A walk along the index: one entry more of those that are not gone.
use Rattle.std.proofs.Common.{ℕ, zero, suc, ◌≡◌, ◌+◌, ◌<◌, refl, sym, ap, ◌∙◌, List, [], ◌∷◌, ◌++◌, length, get_or, take, Option, Some, None, arith}
use Rattle.std.specs.Prelude.{map}
use Rattle.std.specs.List.{AllByRecursion}
use Rattle.std.proofs.lemmas.List.{map-append}
use Rattle.acc_base.specs.declared.loans.Loan.{Loan}
use Rattle.acc_dev.specs.declared.entries.Stored.{Stored}
use Rattle.acc_index.specs.declared.index.IndexEntry.{IndexEntry}
use Rattle.acc_dev.specs.Kept.{stored_loan, loan_before, slot_of, loans_in}
use Rattle.acc_index.specs.Indexed.{live_before, live_entries, blank_entry}
use Rattle.acc_dev.proofs.Lent.{loans_in-push}
use Rattle.acc_index.proofs.Indexing.{live_more}

-- what is made of the slots of those that are not gone
pub made_more : {Y : Type 0} (f : ℕ → Option Stored → Y) (s : List (Option Stored)) (xs : List (IndexEntry ℕ)) (i slot : ℕ) → i < length xs → (get_or xs i blank_entry).value ≡ Some slot
    → map (λ e. f e.0 (slot_of s e)) (live_entries (take (i + 1) xs)) ≡ map (λ e. f e.0 (slot_of s e)) (live_entries (take i xs)) ++ f (get_or xs i blank_entry).number (slot_of s ((get_or xs i blank_entry).number, slot)) ∷ []
made_more f s xs i slot lt here = ap (map (λ e. f e.0 (slot_of s e))) (live_more xs i blank_entry slot lt here) ∙ map-append (λ e. f e.0 (slot_of s e)) (live_entries (take i xs)) (((get_or xs i blank_entry).number, slot) ∷ [])

-- what all that are not gone have, it has
pub live_has : (P : ℕ × ℕ → Type 0) (xs : List (IndexEntry ℕ)) (i slot : ℕ) → i < length xs → (get_or xs i blank_entry).value ≡ Some slot → AllByRecursion P (live_entries xs) → P ((get_or xs i blank_entry).number, slot)
live_has P [] i slot lt here all = absurd (omega arith)
live_has P (x ∷ xs) zero slot lt here all = (rw here at all).0
live_has P (x ∷ xs) (suc i) slot lt here all = live_has P xs i slot (omega arith) here (go x.value all)
  where
    go : (o : Option ℕ) → AllByRecursion P (live_before x.number o (live_entries xs)) → AllByRecursion P (live_entries xs)
    go None h = h
    go (Some v) h = h.1

-- ---- loans

loans_in-append : (s : List (Option Stored)) (xs : List (ℕ × ℕ)) (e : ℕ × ℕ) → loans_in s (xs ++ e ∷ []) ≡ loans_in s xs ++ loan_before (stored_loan (slot_of s e)) []
loans_in-append s [] e = refl
loans_in-append s (x ∷ xs) e = ap (loan_before (stored_loan (slot_of s x))) (loans_in-append s xs e) ∙ before_append (stored_loan (slot_of s x))
  where
    before_append : (l : Option Loan) → loan_before l (loans_in s xs ++ loan_before (stored_loan (slot_of s e)) []) ≡ loan_before l (loans_in s xs) ++ loan_before (stored_loan (slot_of s e)) []
    before_append None = refl
    before_append (Some l) = refl

-- a block that is lent is a loan more
pub loans_lent : (s : List (Option Stored)) (xs : List (IndexEntry ℕ)) (i slot : ℕ) (l : Loan) → i < length xs → (get_or xs i blank_entry).value ≡ Some slot → Some l ≡ stored_loan (slot_of s ((get_or xs i blank_entry).number, slot))
    → loans_in s (live_entries (take (i + 1) xs)) ≡ loans_in s (live_entries (take i xs)) ++ l ∷ []
loans_lent s xs i slot l lt here lent = ap (loans_in s) (live_more xs i blank_entry slot lt here) ∙ loans_in-append s (live_entries (take i xs)) _ ∙ ap (λ (o : Option Loan). loans_in s (live_entries (take i xs)) ++ loan_before o []) (sym lent)

-- another one is none
pub loans_idle : (s : List (Option Stored)) (xs : List (IndexEntry ℕ)) (i slot : ℕ) → i < length xs → (get_or xs i blank_entry).value ≡ Some slot → None ≡ stored_loan (slot_of s ((get_or xs i blank_entry).number, slot))
    → loans_in s (live_entries (take (i + 1) xs)) ≡ loans_in s (live_entries (take i xs))
loans_idle s xs i slot lt here idle = ap (loans_in s) (live_more xs i blank_entry slot lt here) ∙ loans_in-push s (live_entries (take i xs)) _ (sym idle)
