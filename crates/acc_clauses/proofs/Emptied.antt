-- Queues that are emptied one after the other, from the first to the last.
use Rattle.std.proofs.lemmas.Bool.Decides.{nat_tests}
use Rattle.std.proofs.Common.{ℕ, zero, suc, ◌≡◌, ◌+◌, ◌≤◌, refl, sym, ◌∙◌, ap, List, [], ◌∷◌, ◌++◌, length, drop, replicate, add-one, arith, length-append}
use Rattle.std.specs.Prelude.{slice_set}
use Rattle.std.proofs.lemmas.List.{drop_all, length-replicate}
use Rattle.acc_base.specs.declared.transfers.Transfer.{Transfer}
use Rattle.acc_base.specs.Records.{State}
use Rattle.acc_base.specs.Queues.{queue_at}
use Rattle.acc_base.specs.Steps.{released}
use Rattle.acc_base.specs.Waits.{stepped, drained, steps_from}

-- ---- one queue

-- a list of steps is done in two parts
drained-append : (xs ys : List ℕ) (s : State) → drained (xs ++ ys) s ≡ drained ys (drained xs s)
unfolding drained
drained-append [] ys s = refl
drained-append (x ∷ xs) ys s = drained-append xs ys (stepped x s)

-- the steps of one queue come in any order
stepped-first : (q n : ℕ) (s : State) → stepped q (drained (replicate n q) s) ≡ drained (replicate n q) (stepped q s)
unfolding drained
stepped-first q zero s = refl
stepped-first q (suc n) s = stepped-first q n (stepped q s)

-- one step more
pub stepped_more : (q n : ℕ) (s t : State) → t ≡ drained (replicate n q) s → stepped q t ≡ drained (replicate (n + 1) q) s
unfolding drained
stepped_more q n s t e = ap (stepped q) e ∙ stepped-first q n s ∙ ap (λ m. drained (replicate m q) s) (sym (add-one n))

pub drained-none : (q : ℕ) (s : State) → s ≡ drained (replicate 0 q) s
unfolding drained
drained-none q s = refl

-- ---- the other queues

drop-set : {X : Type 0} (xs : List X) (i : ℕ) (x : X) → drop (suc i) (slice_set xs i x) ≡ drop (suc i) xs
drop-set (y ∷ ys) (suc i) x = drop-set ys i x
drop-set _ _ x = refl

-- a step of a queue leaves the queues behind it
later-stepped : (q : ℕ) (s : State) → drop (suc q) (stepped q s).records.queues ≡ drop (suc q) s.records.queues
unfolding stepped released
later-stepped q s = grind (arith, nat_tests, drop-set)

-- so do many
pub later-drained : (q n : ℕ) (s : State) → drop (suc q) (drained (replicate n q) s).records.queues ≡ drop (suc q) s.records.queues
unfolding drained
later-drained q zero s = refl
later-drained q (suc n) s = later-drained q n (stepped q s) ∙ later-stepped q s

-- ---- all queues

-- the steps from a queue on are those of the queue, and then those of the queues behind it
steps-split : (i q : ℕ) (queues : List (List Transfer)) → steps_from q (drop i queues) ≡ replicate (length (queue_at i queues)) q ++ steps_from (suc q) (drop (suc i) queues)
steps-split zero q [] = refl
steps-split (suc i) q (ts ∷ queues) = steps-split i q queues
steps-split _ q _ = refl

-- once a queue is emptied, those behind it are left
pub rest_drained : (q : ℕ) (s t u : State) → t ≡ drained (replicate (length (queue_at q s.records.queues)) q) s → drained (steps_from q (drop q s.records.queues)) s ≡ u → drained (steps_from (q + 1) (drop (q + 1) t.records.queues)) t ≡ u
rest_drained q s t u e h = grind (arith, nat_tests, steps-split, drained-append, later-drained, add-one)

-- behind the last one nothing is left
pub all_drained : (q : ℕ) (s u : State) → length s.records.queues ≤ q → drained (steps_from q (drop q s.records.queues)) s ≡ u → s ≡ u
unfolding drained
all_drained q s u h e = let none : drop q s.records.queues ≡ [] = drop_all q s.records.queues h in rw none at e

-- ---- how many wait

pub more_wait : (q count here all : ℕ) (queues : List (List Transfer)) → here ≡ length (queue_at q queues) → count + length (steps_from q (drop q queues)) ≡ all → count + here + length (steps_from (q + 1) (drop (q + 1) queues)) ≡ all
more_wait q count here all queues h e = grind (arith, nat_tests, steps-split, length-append, length-replicate)

pub all_wait : (q count all : ℕ) (queues : List (List Transfer)) → length queues ≤ q → count + length (steps_from q (drop q queues)) ≡ all → count ≡ all
all_wait q count all queues h e = grind (arith, nat_tests, drop_all)
