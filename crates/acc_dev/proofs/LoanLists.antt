-- Loans by rising block: one more in its place, and all but that of a block.
use Rattle.std.proofs.Common.{ℕ, ◌≡◌, ◌<◌, refl, false, true, List, [], ◌∷◌, Some, None, arith}
use Rattle.std.specs.Prelude.{◌==◌, nat_lt}
use Rattle.std.specs.List.{AllByRecursion}
use Rattle.std.proofs.lemmas.Bool.Decides.{nat_tests}
use Rattle.acc_base.specs.declared.loans.Loan.{Loan}
use Rattle.acc_base.specs.Loans.{loan_of, with_loan, without_loan}
use Rattle.acc_base.proofs.Lookups.{at-none}
use Rattle.acc_base.proofs.Keyed.{filter_all}

-- ---- look-ups

-- the first loan is found by its block
pub loan_of-here : (n : ℕ) (l : Loan) (ls : List Loan) → l.block ≡ n → loan_of n (l ∷ ls) ≡ Some l
loan_of-here n l ls is = let t : (l.block == n) ≡ true = grind (arith, nat_tests) in rw t

-- a search passes a loan of another block
pub loan_of-later : (n : ℕ) (l : Loan) (ls : List Loan) → (l.block ≡ n → ⊥) → loan_of n (l ∷ ls) ≡ loan_of n ls
loan_of-later n l ls differs = let t : (l.block == n) ≡ false = grind (arith, nat_tests, differs) in rw t

-- a block of no loan is not lent
pub loan_of-none : (n : ℕ) (ls : List Loan) → AllByRecursion (λ l. l.block ≡ n → ⊥) ls → loan_of n ls ≡ None
loan_of-none n ls h = at-none (λ (l : Loan). l.block) n ls h

-- ---- one more

-- a loan of a lesser block than all stands first
pub with_loan-first : (new : Loan) (ls : List Loan) → AllByRecursion (λ l. new.block < l.block) ls → with_loan new ls ≡ new ∷ ls
with_loan-first new [] h = refl
with_loan-first new (l ∷ ls) h =
    let less : new.block < l.block = h.0 in
    let t : nat_lt new.block l.block ≡ true = grind (arith, nat_tests) in
    rw t

-- and one of a greater block behind the first
pub with_loan-later : (new l : Loan) (ls : List Loan) → l.block < new.block → with_loan new (l ∷ ls) ≡ l ∷ with_loan new ls
with_loan-later new l ls less = let t : nat_lt new.block l.block ≡ false = grind (arith, nat_tests) in rw t

-- ---- one less

-- without the loan of a block that is not lent all are left
pub without_loan-none : (n : ℕ) (ls : List Loan) → AllByRecursion (λ l. l.block ≡ n → ⊥) ls → without_loan n ls ≡ ls
without_loan-none n ls h = filter_all (λ (l : Loan). l.block) n ls h

-- the first loan goes where it is the block's
pub without_loan-here : (n : ℕ) (l : Loan) (ls : List Loan) → l.block ≡ n → without_loan n (l ∷ ls) ≡ without_loan n ls
without_loan-here n l ls is = let t : (l.block == n) ≡ true = grind (arith, nat_tests) in rw t

-- and stays where it is another's
pub without_loan-later : (n : ℕ) (l : Loan) (ls : List Loan) → (l.block ≡ n → ⊥) → without_loan n (l ∷ ls) ≡ l ∷ without_loan n ls
without_loan-later n l ls differs = let t : (l.block == n) ≡ false = grind (arith, nat_tests, differs) in rw t
