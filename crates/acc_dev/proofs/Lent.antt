-- The loans of an index, as the slots change, and what they leave of the memories.
use Rattle.std.proofs.Common.{ℕ, zero, suc, ◌≡◌, ◌<◌, refl, sym, ap, ◌∙◌, subst, true, false, List, [], ◌∷◌, ◌++◌, length, get_or, Option, Some, None, arith, inl, inr}
use Rattle.std.specs.Prelude.{is_some, option_map, unwrap_or, IsSome}
use Rattle.std.specs.List.{AllByRecursion, AllZip, remove}
use Rattle.std.proofs.lemmas.Bool.{cases_eq, false≢true}
use Rattle.acc_base.specs.declared.loans.Loan.{Loan}
use Rattle.acc_base.specs.declared.mappings.Block.{Block}
use Rattle.acc_base.specs.Loans.{loan_of, is_lent, len_of, with_loan, without_loan}
use Rattle.acc_base.specs.Accounts.{EachPair, IsMemoryOf}
use Rattle.acc_base.proofs.Elements.{AllByRecursion-weaker}
use Rattle.acc_dev.specs.declared.entries.Stored.{Stored}
use Rattle.acc_dev.specs.Device.{AreLoansRising}
use Rattle.acc_index.specs.Indexed.{IsIndexRising}
use Rattle.acc_dev.specs.Slots.{IsEntry}
use Rattle.acc_dev.specs.Kept.{stored_len, stored_bytes, stored_ended, stored_loan, slot_of, blocks_in, memories_in, loans_in, loan_before, IsInOrOut, IsBacked}
use Rattle.acc_base.proofs.Splitting.{all_at}
use Rattle.acc_base.proofs.Keyed.{all_from}
use Rattle.acc_dev.proofs.Rising.{start}
use Rattle.acc_dev.proofs.Slots.{AreSame, AreTold, KeepsOthers, block_at-entry}
use Rattle.acc_dev.proofs.LoanLists.{loan_of-here, loan_of-later, loan_of-none, with_loan-first, with_loan-later, without_loan-none, without_loan-here, without_loan-later}

-- the slots of an index have their bytes, or are lent
abbrev pub AreBacked : List (Option Stored) → List (ℕ × ℕ) → Type 0
AreBacked s xs = AllByRecursion (λ e. IsBacked e.0 (slot_of s e)) xs

-- ---- the loans of an index

-- what holds of the numbers of an index holds of the blocks of its loans
pub loans_all : (P : ℕ → Type 0) (s : List (Option Stored)) (xs : List (ℕ × ℕ)) → AreBacked s xs → AllByRecursion (λ e. P e.0) xs → AllByRecursion (λ l. P l.block) (loans_in s xs)
loans_all P s [] backed h = tt
loans_all P s (x ∷ xs) backed h = go (loans_all P s xs backed.1 h.1) (stored_loan (slot_of s x)) backed.0
  where
    go : AllByRecursion (λ l. P l.block) (loans_in s xs) → (o : Option Loan) → IsInOrOut x.0 (slot_of s x) o → AllByRecursion (λ l. P l.block) (loan_before o (loans_in s xs))
    go rest None out = rest
    go rest (Some l) out = (subst P (sym out.block) h.0, rest)

-- what holds of the loan of each slot holds of the loans of an index
pub loans_each : (P : Loan → Type 0) (s : List (Option Stored)) (xs : List (ℕ × ℕ)) → AllByRecursion (λ e. (l : Loan) → stored_loan (slot_of s e) ≡ Some l → P l) xs → AllByRecursion P (loans_in s xs)
loans_each P s [] h = tt
loans_each P s (x ∷ xs) h = go (loans_each P s xs h.1) (stored_loan (slot_of s x)) refl
  where
    go : AllByRecursion P (loans_in s xs) → (o : Option Loan) → stored_loan (slot_of s x) ≡ o → AllByRecursion P (loan_before o (loans_in s xs))
    go rest None is = rest
    go rest (Some l) is = (h.0 l is, rest)

-- loans rise with the index
pub loans_rise : (s : List (Option Stored)) (xs : List (ℕ × ℕ)) → IsIndexRising xs → AreBacked s xs → AreLoansRising (loans_in s xs)
loans_rise s [] rise backed = tt
loans_rise s (x ∷ xs) rise backed = go (loans_rise s xs rise.1 backed.1) (loans_all (λ n. x.0 < n) s xs backed.1 rise.0) (stored_loan (slot_of s x)) backed.0
  where
    go : AreLoansRising (loans_in s xs) → AllByRecursion (λ l. x.0 < l.block) (loans_in s xs) → (o : Option Loan) → IsInOrOut x.0 (slot_of s x) o → AreLoansRising (loan_before o (loans_in s xs))
    go rest above None out = rest
    go rest above (Some l) out = (subst (λ (n : ℕ). AllByRecursion (λ (m : Loan). n < m.block) (loans_in s xs)) (sym out.block) above, rest)

-- the numbers behind the first one differ from it
behind_off : (x : ℕ × ℕ) (n : ℕ) (xs : List (ℕ × ℕ)) → x.0 ≡ n → AllByRecursion (λ (e : ℕ × ℕ). x.0 < e.0) xs → AllByRecursion (λ (e : ℕ × ℕ). e.0 ≡ n → ⊥) xs
behind_off x n xs is above = AllByRecursion-weaker (λ (e : ℕ × ℕ). x.0 < e.0) (λ e. e.0 ≡ n → ⊥) xs (λ e less same. omega arith) above

-- the loan of a number is that of the slot of its entry
pub loan_of-entry : (s : List (Option Stored)) (xs : List (ℕ × ℕ)) (i n : ℕ) → IsIndexRising xs → AreBacked s xs → i < length xs → (get_or xs i start).0 ≡ n → loan_of n (loans_in s xs) ≡ stored_loan (slot_of s (get_or xs i start))
loan_of-entry s [] i n rise backed lt is = absurd (omega arith)
loan_of-entry s (x ∷ xs) zero n rise backed lt is = go (loan_of-none n (loans_in s xs) (loans_all (λ m. m ≡ n → ⊥) s xs backed.1 (behind_off x n xs is rise.0))) (stored_loan (slot_of s x)) backed.0
  where
    go : loan_of n (loans_in s xs) ≡ None → (o : Option Loan) → IsInOrOut x.0 (slot_of s x) o → loan_of n (loan_before o (loans_in s xs)) ≡ o
    go none None out = none
    go none (Some l) out = loan_of-here n l (loans_in s xs) (out.block ∙ is)
loan_of-entry s (x ∷ xs) (suc i) n rise backed lt is =
    let less : x.0 < (get_or xs i start).0 = all_at (λ (e : ℕ × ℕ). x.0 < e.0) xs i start (omega arith) rise.0 in
    go less (stored_loan (slot_of s x)) backed.0 ∙ loan_of-entry s xs i n rise.1 backed.1 (omega arith) is
  where
    go : x.0 < (get_or xs i start).0 → (o : Option Loan) → IsInOrOut x.0 (slot_of s x) o → loan_of n (loan_before o (loans_in s xs)) ≡ loan_of n (loans_in s xs)
    go less None out = refl
    go less (Some l) out = loan_of-later n l (loans_in s xs) (λ same. let block : l.block ≡ x.0 = out.block in omega arith)

-- ---- changes of slots

-- the loans stay where the slots stay
pub loans_in-same : (s t : List (Option Stored)) (xs : List (ℕ × ℕ)) → AreSame s t xs → loans_in t xs ≡ loans_in s xs
loans_in-same s t [] same = refl
loans_in-same s t (x ∷ xs) same = rw same.0 (ap (loan_before (stored_loan (slot_of s x))) (loans_in-same s t xs same.1))

-- and where the one slot that changes keeps its loan
pub loans_in-kept : (s t : List (Option Stored)) (k : ℕ) (xs : List (ℕ × ℕ)) → KeepsOthers s t k → stored_loan (get_or t k None) ≡ stored_loan (get_or s k None) → loans_in t xs ≡ loans_in s xs
loans_in-kept s t k [] others loan = refl
loans_in-kept s t k (x ∷ xs) others loan =
    let here : stored_loan (slot_of t x) ≡ stored_loan (slot_of s x) = elim (cases_eq x.1 k) [
      | inl same ↦ rw same loan
      | inr differs ↦ ap stored_loan (others x.1 differs)
    ] in
    rw here (ap (loan_before (stored_loan (slot_of s x))) (loans_in-kept s t k xs others loan))

-- an entry more that is not lent leaves the loans
pub loans_in-push : (s : List (Option Stored)) (xs : List (ℕ × ℕ)) (e : ℕ × ℕ) → stored_loan (slot_of s e) ≡ None → loans_in s (xs ++ e ∷ []) ≡ loans_in s xs
loans_in-push s [] e none = rw none
loans_in-push s (x ∷ xs) e none = ap (loan_before (stored_loan (slot_of s x))) (loans_in-push s xs e none)

-- so does one less
pub loans_in-remove : (s : List (Option Stored)) (xs : List (ℕ × ℕ)) (i : ℕ) → i < length xs → stored_loan (slot_of s (get_or xs i start)) ≡ None → loans_in s (remove xs i) ≡ loans_in s xs
loans_in-remove s [] i lt none = absurd (omega arith)
loans_in-remove s (x ∷ xs) zero lt none = rw none
loans_in-remove s (x ∷ xs) (suc i) lt none = ap (loan_before (stored_loan (slot_of s x))) (loans_in-remove s xs i (omega arith) none)

-- the slots behind the first one are not its own
rest_same : (s t : List (Option Stored)) (x : ℕ × ℕ) (xs : List (ℕ × ℕ)) → KeepsOthers s t x.1 → AllByRecursion (λ (e : ℕ × ℕ). x.1 ≡ e.1 → ⊥) xs → AreSame s t xs
rest_same s t x xs others distinct = AllByRecursion-weaker (λ (e : ℕ × ℕ). x.1 ≡ e.1 → ⊥) (λ e. slot_of t e ≡ slot_of s e) xs (λ e differs. others e.1 (λ same. differs (sym same))) distinct

-- a slot that is lent is a loan more
pub loans_in-lent : (s t : List (Option Stored)) (xs : List (ℕ × ℕ)) (i : ℕ) (loan : Loan) → IsIndexRising xs → EachPair (λ d e. d.1 ≡ e.1 → ⊥) xs → AreBacked s xs → i < length xs → KeepsOthers s t (get_or xs i start).1 → loan.block ≡ (get_or xs i start).0
    → stored_loan (slot_of s (get_or xs i start)) ≡ None → stored_loan (slot_of t (get_or xs i start)) ≡ Some loan → loans_in t xs ≡ with_loan loan (loans_in s xs)
loans_in-lent s t [] i loan rise distinct backed lt others block none some = absurd (omega arith)
loans_in-lent s t (x ∷ xs) zero loan rise distinct backed lt others block none some =
    let rest : loans_in t xs ≡ loans_in s xs = loans_in-same s t xs (rest_same s t x xs others distinct.0) in
    let above : AllByRecursion (λ (l : Loan). loan.block < l.block) (loans_in s xs) = loans_all (λ n. loan.block < n) s xs backed.1 (AllByRecursion-weaker (λ (e : ℕ × ℕ). x.0 < e.0) (λ e. loan.block < e.0) xs (λ e less. omega arith) rise.0) in
    rw (none, some, rest) (sym (with_loan-first loan (loans_in s xs) above))
loans_in-lent s t (x ∷ xs) (suc i) loan rise distinct backed lt others block none some =
    let less : x.0 < (get_or xs i start).0 = all_at (λ (e : ℕ × ℕ). x.0 < e.0) xs i start (omega arith) rise.0 in
    let differs = all_at (λ (e : ℕ × ℕ). x.1 ≡ e.1 → ⊥) xs i start (omega arith) distinct.0 in
    let below : x.0 < loan.block = omega arith in
    let same : slot_of t x ≡ slot_of s x = others x.1 differs in
    rw same (ap (loan_before (stored_loan (slot_of s x))) (loans_in-lent s t xs i loan rise.1 distinct.1 backed.1 (omega arith) others block none some) ∙ go below (stored_loan (slot_of s x)) backed.0)
  where
    go : x.0 < loan.block → (o : Option Loan) → IsInOrOut x.0 (slot_of s x) o → loan_before o (with_loan loan (loans_in s xs)) ≡ with_loan loan (loan_before o (loans_in s xs))
    go below None out = refl
    go below (Some l) out = sym (with_loan-later loan l (loans_in s xs) (let block : l.block ≡ x.0 = out.block in omega arith))

-- and one that is lent no longer a loan less
pub loans_in-restored : (s t : List (Option Stored)) (xs : List (ℕ × ℕ)) (i n : ℕ) → IsIndexRising xs → EachPair (λ d e. d.1 ≡ e.1 → ⊥) xs → AreBacked s xs → i < length xs → KeepsOthers s t (get_or xs i start).1 → (get_or xs i start).0 ≡ n
    → stored_loan (slot_of t (get_or xs i start)) ≡ None → loans_in t xs ≡ without_loan n (loans_in s xs)
loans_in-restored s t [] i n rise distinct backed lt others is none = absurd (omega arith)
loans_in-restored s t (x ∷ xs) zero n rise distinct backed lt others is none =
    let rest : loans_in t xs ≡ loans_in s xs = loans_in-same s t xs (rest_same s t x xs others distinct.0) in
    rw (none, rest) (sym (go (without_loan-none n (loans_in s xs) (loans_all (λ m. m ≡ n → ⊥) s xs backed.1 (behind_off x n xs is rise.0))) (stored_loan (slot_of s x)) backed.0))
  where
    go : without_loan n (loans_in s xs) ≡ loans_in s xs → (o : Option Loan) → IsInOrOut x.0 (slot_of s x) o → without_loan n (loan_before o (loans_in s xs)) ≡ loans_in s xs
    go left None out = left
    go left (Some l) out = without_loan-here n l (loans_in s xs) (out.block ∙ is) ∙ left
loans_in-restored s t (x ∷ xs) (suc i) n rise distinct backed lt others is none =
    let less : x.0 < (get_or xs i start).0 = all_at (λ (e : ℕ × ℕ). x.0 < e.0) xs i start (omega arith) rise.0 in
    let differs = all_at (λ (e : ℕ × ℕ). x.1 ≡ e.1 → ⊥) xs i start (omega arith) distinct.0 in
    let below : x.0 < n = omega arith in
    let same : slot_of t x ≡ slot_of s x = others x.1 differs in
    rw same (ap (loan_before (stored_loan (slot_of s x))) (loans_in-restored s t xs i n rise.1 distinct.1 backed.1 (omega arith) others is none) ∙ go below (stored_loan (slot_of s x)) backed.0)
  where
    go : x.0 < n → (o : Option Loan) → IsInOrOut x.0 (slot_of s x) o → loan_before o (without_loan n (loans_in s xs)) ≡ without_loan n (loan_before o (loans_in s xs))
    go below None out = refl
    go below (Some l) out = sym (without_loan-later n l (loans_in s xs) (λ same. let block : l.block ≡ x.0 = out.block in omega arith))

-- ---- what is kept

-- slots keep their bytes or their loans where the one that changes does
pub backed_changed : (s t : List (Option Stored)) (n k : ℕ) (xs : List (ℕ × ℕ)) → KeepsOthers s t k → AreTold xs n k → (IsBacked n (get_or s k None) → IsBacked n (get_or t k None)) → AreBacked s xs → AreBacked t xs
backed_changed s t n k [] others told keeps backed = tt
backed_changed s t n k (x ∷ xs) others told keeps backed = (
  elim told.0 [
    | inl same ↦ rw (same.0, same.1) (keeps (rw (same.0, same.1) at backed.0))
    | inr differs ↦ subst (λ (o : Option Stored). IsBacked x.0 o) (sym (others x.1 differs.1)) backed.0
  ],
  backed_changed s t n k xs others told.1 keeps backed.1,
)

-- and where it does, whatever its block
pub backed_kept : (s t : List (Option Stored)) (k : ℕ) (xs : List (ℕ × ℕ)) → KeepsOthers s t k → ((n : ℕ) → IsBacked n (get_or s k None) → IsBacked n (get_or t k None)) → AreBacked s xs → AreBacked t xs
backed_kept s t k [] others keeps backed = tt
backed_kept s t k (x ∷ xs) others keeps backed = (
  elim (cases_eq x.1 k) [
    | inl same ↦ rw same (keeps x.0 (rw same at backed.0))
    | inr differs ↦ subst (λ (o : Option Stored). IsBacked x.0 o) (sym (others x.1 differs)) backed.0
  ],
  backed_kept s t k xs others keeps backed.1,
)

-- a slot keeps its bytes or its loan where length and loan stay, the bytes stay as many, and no lent block ends
pub backed_like : (n : ℕ) (a b : Option Stored) → stored_len b ≡ stored_len a → length (stored_bytes b) ≡ length (stored_bytes a) → stored_loan b ≡ stored_loan a → (IsSome (stored_loan a) → stored_ended a ≡ false → stored_ended b ≡ false) → IsBacked n a → IsBacked n b
backed_like n a b len bytes loan mapped backed = subst (IsInOrOut n b) (sym loan) (go (stored_loan a) mapped backed)
  where
    go : (o : Option Loan) → (IsSome o → stored_ended a ≡ false → stored_ended b ≡ false) → IsInOrOut n a o → IsInOrOut n b o
    go None mapped h = bytes ∙ (h ∙ sym len)
    go (Some l) mapped h = record { mapped = mapped refl h.mapped; block = h.block; within = rw len h.within }

-- ---- memories

-- a slot that is not lent has as many bytes as its block is long
pub long_entry : (s : List (Option Stored)) (xs : List (ℕ × ℕ)) (i n : ℕ) → IsIndexRising xs → AreBacked s xs → i < length xs → (get_or xs i start).0 ≡ n → is_lent n (loans_in s xs) ≡ false → length (stored_bytes (slot_of s (get_or xs i start))) ≡ stored_len (slot_of s (get_or xs i start))
long_entry s xs i n rise backed lt is free = go (stored_loan (slot_of s (get_or xs i start))) (loan_of-entry s xs i n rise backed lt is) (all_at (λ (e : ℕ × ℕ). IsBacked e.0 (slot_of s e)) xs i start lt backed)
  where
    go : (o : Option Loan) → loan_of n (loans_in s xs) ≡ o → IsInOrOut (get_or xs i start).0 (slot_of s (get_or xs i start)) o → length (stored_bytes (slot_of s (get_or xs i start))) ≡ stored_len (slot_of s (get_or xs i start))
    go None found h = h
    go (Some l) found h = absurd (false≢true (sym free ∙ ap (λ (o : Option Loan). is_some o) found))

-- a block that has ended is not lent
pub ended_free : (s : List (Option Stored)) (xs : List (ℕ × ℕ)) (i n : ℕ) → IsIndexRising xs → AreBacked s xs → i < length xs → (get_or xs i start).0 ≡ n → stored_ended (slot_of s (get_or xs i start)) ≡ true → is_lent n (loans_in s xs) ≡ false
ended_free s xs i n rise backed lt is ended = go (stored_loan (slot_of s (get_or xs i start))) (loan_of-entry s xs i n rise backed lt is) (all_at (λ (e : ℕ × ℕ). IsBacked e.0 (slot_of s e)) xs i start lt backed)
  where
    go : (o : Option Loan) → loan_of n (loans_in s xs) ≡ o → IsInOrOut (get_or xs i start).0 (slot_of s (get_or xs i start)) o → is_lent n (loans_in s xs) ≡ false
    go None found h = ap (λ (o : Option Loan). is_some o) found
    go (Some l) found h = absurd (false≢true (sym h.mapped ∙ ended))

-- the memories run in step with the blocks, by what each entry says
zip_from : (s : List (Option Stored)) (loans : List Loan) (xs : List (ℕ × ℕ)) → AllByRecursion (λ e. is_lent e.0 loans ≡ false → length (stored_bytes (slot_of s e)) ≡ stored_len (slot_of s e)) xs → AllZip (IsMemoryOf loans) (memories_in s xs) (blocks_in s xs)
zip_from s loans [] h = tt
zip_from s loans (x ∷ xs) h = (record { block = refl; len = h.0 }, zip_from s loans xs h.1)

-- the memories run in step with the blocks
pub in_step : (s : List (Option Stored)) (xs : List (ℕ × ℕ)) → IsIndexRising xs → AreBacked s xs → AllZip (IsMemoryOf (loans_in s xs)) (memories_in s xs) (blocks_in s xs)
in_step s xs rise backed = zip_from s (loans_in s xs) xs (all_from (λ (e : ℕ × ℕ). is_lent e.0 (loans_in s xs) ≡ false → length (stored_bytes (slot_of s e)) ≡ stored_len (slot_of s e)) xs start (λ i lt. long_entry s xs i (get_or xs i start).0 rise backed lt refl))

-- the length of a block is that of the slot of its entry
pub len_of-entry : (s : List (Option Stored)) (xs : List (ℕ × ℕ)) (i n : ℕ) → IsIndexRising xs → IsEntry xs n i → len_of n (blocks_in s xs) ≡ stored_len (slot_of s (get_or xs i start))
len_of-entry s xs i n rise entry = ap (λ o. unwrap_or (option_map (λ (b : Block). b.len) o) 0) (block_at-entry s xs i n rise entry)
