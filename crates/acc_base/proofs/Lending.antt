-- Loans: look-ups after each change of their list, and what keeps them sound.
use Rattle.std.proofs.Common.{ℕ, ◌≡◌, refl, sym, ◌∙◌, ap, Bool, true, false, List, Option, Some, None, arith}
use Rattle.std.specs.Prelude.{◌==◌, ◌<◌, not, nat_lt, is_some}
use Rattle.std.specs.List.{AllByRecursion}
use Rattle.std.proofs.lemmas.Bool.Decides.{nat_tests}
use Rattle.acc_base.specs.Words.{Loan, Range}
use Rattle.acc_base.specs.Ranges.{range_of, with_range}
use Rattle.acc_base.specs.Loans.{loan_of, is_lent, with_loan, without_loan}
use Rattle.acc_base.specs.Accounts.{IsLoanSound, AreLoansSound}
use Rattle.acc_base.proofs.Results.{equal, equal_self}
use Rattle.acc_base.proofs.Lookups.{at-without_other}
use Rattle.acc_base.proofs.InPlace.{IsPut, all-put, pairs-put, find-put_other, is_some-put_new}
use Rattle.acc_base.proofs.RangeChanges.{put_range}
use Rattle.acc_base.proofs.Elements.{AllByRecursion-weaker, AllByRecursion-both, AllByRecursion-filter, EachPair-filter, find_none}

abbrev block_named : Loan → ℕ
block_named l = l.block

-- ---- one loan more

-- it goes in by its block
pub put_loan : (new : Loan) → IsPut new (λ l. nat_lt new.block l.block) (with_loan new)
put_loan new = record { alone = refl; among = λ l ls. refl }

-- its block is lent
pub is_lent-with_same : (new : Loan) (ls : List Loan) (b : ℕ) → new.block ≡ b → is_lent b (with_loan new ls) ≡ true
is_lent-with_same new ls b e = is_some-put_new (put_loan new) (λ l. l.block == b) ls (rw (e, equal_self b) refl)

-- what is not lent with it was not lent before
pub is_lent-with_free : (new : Loan) (ls : List Loan) (b : ℕ) → is_lent b (with_loan new ls) ≡ false → is_lent b ls ≡ false
is_lent-with_free new ls b free = go (new.block == b) refl
  where
    go : (t : Bool) → (new.block == b) ≡ t → is_lent b ls ≡ false
    go true e = let both : true ≡ false = sym (is_lent-with_same new ls b (equal _ _ e)) ∙ free in cc
    go false e = sym (ap is_some (find-put_other (put_loan new) (λ l. l.block == b) ls e)) ∙ free

-- ---- one loan fewer

pub is_lent-without_other : (b k : ℕ) (ls : List Loan) → (b == k) ≡ false → is_lent b (without_loan k ls) ≡ is_lent b ls
is_lent-without_other b k ls e = ap is_some (at-without_other block_named k b ls e)

-- ---- loans are sound

-- a block that is not lent has no loan
pub none_of : (k : ℕ) (ls : List Loan) → is_lent k ls ≡ false → AllByRecursion (λ (l : Loan). (l.block == k) ≡ false) ls
none_of k ls free = find_none (λ (l : Loan). l.block == k) ls (go (loan_of k ls) free)
  where
    go : (o : Option Loan) → is_some o ≡ false → o ≡ None
    go None e = refl
    go (Some l) e = cc

-- they stay so where the ranges of their blocks keep their lengths
pub loans-weaker : (rs ts : List Range) (ls : List Loan) → ((l : Loan) → IsLoanSound rs l → IsLoanSound ts l) → AreLoansSound rs ls → AreLoansSound ts ls
loans-weaker rs ts ls f h = record { rising = h.rising; sound = AllByRecursion-weaker (IsLoanSound rs) (IsLoanSound ts) ls f h.sound }

-- they stay so where the mapping to a block ends that is not lent
pub loans-other : (k : ℕ) (rs ts : List Range) (ls : List Loan) → is_lent k ls ≡ false → ((l : Loan) → (l.block == k) ≡ false → IsLoanSound rs l → IsLoanSound ts l) → AreLoansSound rs ls → AreLoansSound ts ls
loans-other k rs ts ls free f h = record { rising = h.rising; sound = AllByRecursion-both (λ (l : Loan). (l.block == k) ≡ false) (IsLoanSound rs) (IsLoanSound ts) ls f (none_of k ls free) h.sound }

-- the range of a block is found still, where one of another block is mapped
pub range_of-with_other : (new : Range) (b : ℕ) (rs : List Range) → (new.block == b) ≡ false → range_of b (with_range new rs) ≡ range_of b rs
range_of-with_other new b rs e = find-put_other (put_range new) (λ r. r.block == b) rs e

-- and with one loan more, of a block that is not lent
pub loans-with : (rs : List Range) (new : Loan) (ls : List Loan) → is_lent new.block ls ≡ false → IsLoanSound rs new → AreLoansSound rs ls → AreLoansSound rs (with_loan new ls)
loans-with rs new ls free sound h = record {
  rising = pairs-put (put_loan new) (λ (l m : Loan). l.block < m.block) (λ l m low high. omega arith) ls (AllByRecursion-weaker (λ l. (l.block == new.block) ≡ false) (λ l. (nat_lt new.block l.block ≡ true → new.block < l.block) × (nat_lt new.block l.block ≡ false → l.block < new.block)) ls
      (λ l differs. (λ e. grind (arith, nat_tests), λ e. grind (arith, nat_tests))) (none_of new.block ls free)) h.rising;
  sound = all-put (put_loan new) (IsLoanSound rs) ls sound h.sound;
}

-- and with one loan fewer
pub loans-without : (rs : List Range) (k : ℕ) (ls : List Loan) → AreLoansSound rs ls → AreLoansSound rs (without_loan k ls)
loans-without rs k ls h = record {
  rising = EachPair-filter (λ (l m : Loan). l.block < m.block) (λ l. not (l.block == k)) ls h.rising;
  sound = AllByRecursion-filter (IsLoanSound rs) (λ l. not (l.block == k)) ls h.sound;
}
