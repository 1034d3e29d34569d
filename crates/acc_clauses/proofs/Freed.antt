-- Whether a step needs a block that is lent, and whether queued transfers are of one, with the first such block.
use Rattle.std.proofs.lemmas.Bool.Decides.{nat_tests}
use Rattle.std.proofs.Common.{ℕ, zero, suc, ◌≡◌, ◌+◌, refl, sym, ◌∙◌, ap, List, [], ◌∷◌, ◌++◌, drop, add-one, Option, Result, Ok, Err, length, arith}
use Rattle.std.specs.Prelude.{⊤, option_map, slice_get}
use Rattle.std.specs.List.{flat_map}
use Rattle.std.proofs.lemmas.List.Concat.{flat_map-cons}
use Rattle.acc_clauses.specs.Words.{Loan, Transfer, Task, Aim, Step, Fault}
use Rattle.acc_base.specs.Results.{◌>>◌}
use Rattle.acc_base.specs.Loans.{not_lent, none_lent}
use Rattle.acc_base.specs.Records.{Records}
use Rattle.acc_base.specs.Queues.{queue_at}
use Rattle.acc_base.specs.Tasks.{queue_of}
use Rattle.acc_base.specs.Transfers.{transfer_of, room_for}
use Rattle.acc_base.specs.Detaching.{block_aimed}
use Rattle.acc_base.specs.Steps.{block_needed}
use Rattle.acc_base.proofs.Loaned.{loans-act_all}
use Rattle.acc_clauses.specs.declared.acted.Acted.{Acted}
use Rattle.acc_clauses.specs.Overlays.{records_after}
use Rattle.acc_clauses.specs.Aims.{step_free}

-- ---- tests in a row

-- the first that refuses decides
pub first_refused : (a b all : Result ⊤ Fault) (fault : Fault) → (a >> b) ≡ all → Err fault ≡ a → Err fault ≡ all
first_refused a b all fault e h = grind (arith, nat_tests)

-- where it passes, the rest decides
pub first_passed : (a b all : Result ⊤ Fault) (x : ⊤) → (a >> b) ≡ all → Ok x ≡ a → b ≡ all
first_passed a b all x e h = grind (arith, nat_tests)

-- ---- a step

-- after tasks the same blocks are lent
pub free_after : (xs : List Acted) (task : Task) (step : Step) (before : Aim) (cap : ℕ) (w : Records) (aimed needed : Option ℕ) → aimed ≡ block_aimed before → needed ≡ block_needed task step
    → (not_lent aimed w.loans >> (not_lent needed w.loans >> room_for cap (queue_of task) (transfer_of task step (records_after xs w).ranges) (records_after xs w).queues)) ≡ step_free task step before cap (records_after xs w)
free_after xs task step before cap w aimed needed e f = grind (arith, nat_tests, loans-act_all)

-- the block in which a pointer is detached is lent
pub detached_lent : (xs : List Acted) (task : Task) (step : Step) (before : Aim) (cap : ℕ) (w : Records) (aimed : Option ℕ) (fault : Fault) → aimed ≡ block_aimed before → Err fault ≡ not_lent aimed w.loans → Err fault ≡ step_free task step before cap (records_after xs w)
detached_lent xs task step before cap w aimed fault e h = first_refused (not_lent aimed w.loans) _ _ fault (free_after xs task step before cap w aimed (block_needed task step) e refl) h

-- ---- the transfers of one queue

-- those from a place on are the one that is there, and those behind it
places-split : (place : ℕ) (ts : List Transfer) (loans : List Loan) → none_lent (drop place ts) loans ≡ (not_lent (option_map (λ (t : Transfer). t.block) (slice_get ts place)) loans >> none_lent (drop (suc place) ts) loans)
places-split zero [] loans = refl
places-split (suc place) (t ∷ ts) loans = places-split place ts loans
places-split _ _ loans = refl

module _ (place : ℕ) (ts : List Transfer) (loans : List Loan) (all : Result ⊤ Fault) (block : Option ℕ) (named : block ≡ option_map (λ (t : Transfer). t.block) (slice_get ts place)) (left : none_lent (drop place ts) loans ≡ all) where
  -- the one at the place, and then those behind it, decide as all do
  here : (not_lent block loans >> none_lent (drop (suc place) ts) loans) ≡ all
  here = ap (λ o. not_lent o loans >> none_lent (drop (suc place) ts) loans) named ∙ (sym (places-split place ts loans) ∙ left)

  -- the one at the place is lent
  pub place_lent : (fault : Fault) → Err fault ≡ not_lent block loans → Err fault ≡ all
  place_lent fault e = first_refused (not_lent block loans) (none_lent (drop (suc place) ts) loans) all fault here e

  -- it is not
  pub place_free : (x : ⊤) → Ok x ≡ not_lent block loans → none_lent (drop (place + 1) ts) loans ≡ all
  place_free x e = ap (λ n. none_lent (drop n ts) loans) (add-one place) ∙ first_passed (not_lent block loans) (none_lent (drop (suc place) ts) loans) all x here e

-- ---- none is lent

-- where no block is lent, no transfer is of one
pub none_unlent : (ts : List Transfer) (loans : List Loan) → length loans ≡ 0 → Ok tt ≡ none_lent ts loans
none_unlent [] loans e = refl
none_unlent (t ∷ ts) [] e = none_unlent ts [] e
none_unlent (t ∷ ts) (l ∷ loans) e = absurd (omega (arith, e))

-- ---- those of all queues

-- the transfers of these queues
abbrev pub all_of : List (List Transfer) → List Transfer
all_of queues = flat_map (λ transfers. transfers) queues

-- two lists
none_lent-append : (xs ys : List Transfer) (loans : List Loan) → none_lent (xs ++ ys) loans ≡ (none_lent xs loans >> none_lent ys loans)
none_lent-append [] ys loans = refl
none_lent-append (x ∷ xs) ys loans = grind (arith, nat_tests, none_lent-append xs ys loans)

-- those from a queue on are its own, and those of the queues behind it
pub queues-split : (q : ℕ) (queues : List (List Transfer)) (loans : List Loan) → none_lent (all_of (drop q queues)) loans ≡ (none_lent (queue_at q queues) loans >> none_lent (all_of (drop (suc q) queues)) loans)
queues-split zero [] loans = refl
queues-split zero (ts ∷ queues) loans = ap (λ us. none_lent us loans) (flat_map-cons (λ (us : List Transfer). us) ts queues) ∙ none_lent-append ts (all_of queues) loans
queues-split (suc q) [] loans = refl
queues-split (suc q) (ts ∷ queues) loans = queues-split q queues loans

module _ (q : ℕ) (queues : List (List Transfer)) (loans : List Loan) (all : Result ⊤ Fault) (left : none_lent (all_of (drop q queues)) loans ≡ all) where
  -- those of the queue, and then those of the queues behind it, decide as all do
  own : (none_lent (queue_at q queues) loans >> none_lent (all_of (drop (suc q) queues)) loans) ≡ all
  own = sym (queues-split q queues loans) ∙ left

  -- one of the queue is lent
  pub queue_lent : (fault : Fault) → Err fault ≡ none_lent (queue_at q queues) loans → Err fault ≡ all
  queue_lent fault e = first_refused (none_lent (queue_at q queues) loans) (none_lent (all_of (drop (suc q) queues)) loans) all fault own e

  -- none is
  pub queue_free : (x : ⊤) → Ok x ≡ none_lent (queue_at q queues) loans → none_lent (all_of (drop (q + 1) queues)) loans ≡ all
  queue_free x e = ap (λ n. none_lent (all_of (drop n queues)) loans) (add-one q) ∙ first_passed (none_lent (queue_at q queues) loans) (none_lent (all_of (drop (suc q) queues)) loans) all x own e
