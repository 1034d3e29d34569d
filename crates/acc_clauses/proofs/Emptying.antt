-- While a queue is emptied, none of the transfers that are left is of a block that is lent.
use Rattle.std.proofs.lemmas.Bool.Decides.{nat_tests}
use Rattle.std.proofs.Common.{ℕ, zero, suc, ◌+◌, ◌≡◌, refl, sym, ◌∙◌, ap, List, [], ◌∷◌, Some, Ok, take, drop, replicate, arith}
use Rattle.std.specs.Prelude.{slice_set}
use Rattle.std.specs.List.{flat_map}
use Rattle.acc_clauses.specs.Words.{Loan, Transfer}
use Rattle.acc_base.specs.Loans.{not_lent, none_lent}
use Rattle.acc_base.specs.Queues.{queue_at, popped}
use Rattle.acc_base.specs.Records.{Records, State}
use Rattle.acc_base.specs.Steps.{released}
use Rattle.acc_base.specs.Waits.{stepped, drained}
use Rattle.acc_base.proofs.Results.{then_ok}
use Rattle.acc_base.proofs.Walked.{records-drained}
use Rattle.acc_base.proofs.Loaned.{loans-drained}
use Rattle.acc_clauses.proofs.Emptied.{later-drained}
use Rattle.acc_clauses.proofs.Freed.{queues-split}

abbrev AreFree : List Transfer → List Loan → Type 0
AreFree ts loans = none_lent ts loans ≡ Ok tt

-- ---- parts of a list of transfers

free-drop : (n : ℕ) (ts : List Transfer) (loans : List Loan) → AreFree ts loans → AreFree (drop n ts) loans
free-drop (suc n) (t ∷ ts) loans h = free-drop n ts loans (then_ok (not_lent (Some t.block) loans) (none_lent ts loans) tt h).1
free-drop _ _ loans h = h

free-first : (ts : List Transfer) (loans : List Loan) → AreFree ts loans → AreFree (take 1 ts) loans
free-first [] loans h = h
free-first (t ∷ ts) loans h = rw (then_ok (not_lent (Some t.block) loans) (none_lent ts loans) tt h).0 refl

-- ---- a queue after some of its steps

queue-set : (queues : List (List Transfer)) (q : ℕ) → queue_at q (popped q queues) ≡ drop 1 (queue_at q queues)
queue-set queues q = go queues q (drop 1 (queue_at q queues)) refl
  where
    go : (qs : List (List Transfer)) (i : ℕ) (ts : List Transfer) → ts ≡ drop 1 (queue_at i qs) → queue_at i (slice_set qs i ts) ≡ ts
    go [] zero ts e = sym e
    go [] (suc i) ts e = sym e
    go (x ∷ xs) zero ts e = refl
    go (x ∷ xs) (suc i) ts e = go xs i ts e

queue-stepped : (q : ℕ) (s : State) → queue_at q (stepped q s).records.queues ≡ drop 1 (queue_at q s.records.queues)
unfolding stepped released
queue-stepped q s = grind (arith, nat_tests, queue-set)

drop-one : (n : ℕ) (ts : List Transfer) → drop n (drop 1 ts) ≡ drop (suc n) ts
drop-one zero [] = refl
drop-one (suc n) [] = refl
drop-one n (t ∷ ts) = refl

queue-drained : (q n : ℕ) (s : State) → queue_at q (drained (replicate n q) s).records.queues ≡ drop n (queue_at q s.records.queues)
unfolding drained
queue-drained q zero s = refl
queue-drained q (suc n) s = queue-drained q n (stepped q s) ∙ (ap (drop n) (queue-stepped q s) ∙ drop-one n (queue_at q s.records.queues))

pub same_loans : (qs : List ℕ) (s : State) → (drained qs s).records.loans ≡ s.records.loans
same_loans qs s = ap (λ (w : Records). w.loans) (records-drained qs s) ∙ loans-drained qs s.records

-- the next step of a queue makes a transfer whose block is not lent, where none that waited there is of such a block
pub next_free : (q n : ℕ) (s t : State) → none_lent (queue_at q s.records.queues) s.records.loans ≡ Ok tt → t ≡ drained (replicate n q) s → none_lent (take 1 (queue_at q t.records.queues)) t.records.loans ≡ Ok tt
next_free q n s t free e = grind (arith, nat_tests, free-first, free-drop, queue-drained, same_loans)

-- ---- all queues

-- those from a queue on are its own, and those of the queues behind it
split_free : (q : ℕ) (queues : List (List Transfer)) (loans : List Loan) → AreFree (flat_map (λ ts. ts) (drop q queues)) loans → AreFree (queue_at q queues) loans × AreFree (flat_map (λ ts. ts) (drop (suc q) queues)) loans
split_free q queues loans h = then_ok (none_lent (queue_at q queues) loans) (none_lent (flat_map (λ ts. ts) (drop (suc q) queues)) loans) tt (sym (queues-split q queues loans) ∙ h)

pub queue_free : (q : ℕ) (s : State) → none_lent (flat_map (λ ts. ts) (drop q s.records.queues)) s.records.loans ≡ Ok tt → none_lent (queue_at q s.records.queues) s.records.loans ≡ Ok tt
queue_free q s h = (split_free q s.records.queues s.records.loans h).0

-- once a queue is emptied, those behind it are as free as before
pub rest_free : (q n : ℕ) (s t : State) → none_lent (flat_map (λ ts. ts) (drop q s.records.queues)) s.records.loans ≡ Ok tt → t ≡ drained (replicate n q) s → none_lent (flat_map (λ ts. ts) (drop (q + 1) t.records.queues)) t.records.loans ≡ Ok tt
rest_free q n s t h e = grind (arith, nat_tests, split_free q s.records.queues s.records.loans h, later-drained q n s, same_loans (replicate n q) s)
