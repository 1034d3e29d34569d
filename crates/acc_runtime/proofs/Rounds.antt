-- What a drill did, put together from what its threads did.
use Rattle.std.proofs.Common.{ℕ, suc, ◌≡◌, ◌+◌, ◌*◌, ◌<◌, refl, sym, ◌∙◌, ap, subst, List, [], ◌∷◌, map, length, Option, Result, Ok, Err, arith}
use Rattle.std.specs.Prelude.{⊤, All, sum_by, IfErr, OnOk}
use Rattle.std.specs.Result.{result_err}
use Rattle.std.specs.Option.{option_or}
use Rattle.std.proofs.lemmas.List.{length-map}
use Rattle.std.proofs.lemmas.List.Elements.{All-map}
use Rattle.std.proofs.lemmas.List.Sums.{sum_by-cons}
use Rattle.acc_base.specs.declared.faults.Fault.{Fault}
use Rattle.acc_base.specs.Limits.{Limits}
use Rattle.acc_table.specs.declared.calls.Reply.TheVariants.{Done}
use Rattle.acc_runtime.specs.Shares.{Shares}
use Rattle.acc_runtime.specs.Shared.{WasAccepted}
use Rattle.acc_runtime.specs.Drills.{mapping, WasRound, WereRounds, WasStopped, WasStoppedWithin, HasRounds, HasRun, for_rounds, first_fault, Worked, HaveWorked}

-- ---- one thread

pub one_round_more : (l : Limits) (rounds : ℕ) (p m q : Shares) → WereRounds l rounds p m → WasRound l m q → WereRounds l (rounds + 1) p q
one_round_more l rounds p m q made round =
    let more : suc rounds ≡ rounds + 1 = omega arith in
    subst (λ (n : ℕ). WereRounds l n p q) more (m, made, round)

pub stopped_within : (l : Limits) (rounds done : ℕ) (p m q : Shares) (fault : Fault) → done < rounds → WereRounds l done p m → WasStopped l m fault q → WasStoppedWithin l rounds p fault q
stopped_within l rounds done p m q fault fewer made stopped = (done, fewer, m, made, stopped)

-- the shares with which a thread begins
given_for : (rounds : ℕ) (p : Shares) → HasRounds rounds p → p ≡ for_rounds rounds
given_for rounds p fresh =
    let allowance : p.allowance ≡ 1 = fresh.0 in
    let tickets : p.tickets ≡ 2 * rounds = fresh.1 in
    let made : p.made ≡ 0 = fresh.2 in
    (λ i. record { allowance = allowance i; tickets = tickets i; made = made i })

pub run : (l : Limits) (rounds : ℕ) (p q : Shares) (r : Result ⊤ Fault) (fault : Option Fault) → fault ≡ result_err r → HasRounds rounds p
    → OnOk r (WereRounds l rounds p q) → IfErr r (λ met. WasStoppedWithin l rounds p met q) → HasRun l rounds fault q
run l rounds p q (Ok x) fault is fresh made stopped =
    subst (λ (f : Option Fault). HasRun l rounds f q) (sym is) (subst (λ (s : Shares). WereRounds l rounds s q) (given_for rounds p fresh) made)
run l rounds p q (Err met) fault is fresh made stopped =
    subst (λ (f : Option Fault). HasRun l rounds f q) (sym is) (subst (λ (s : Shares). WasStoppedWithin l rounds s met q) (given_for rounds p fresh) stopped)

-- ---- all threads

module _ {Thread : Type 0} (shares : Thread → Shares) (fault : Thread → Option Fault) where
  abbrev known : Thread → Worked
  known x = record { shares = shares x; fault = fault x }

  sum_known : (f : Shares → ℕ) (xs : List Thread) → sum_by (λ w. f w.shares) (map known xs) ≡ sum_by (λ x. f (shares x)) xs
  sum_known f [] = refl
  sum_known f (x ∷ xs) = sum_by-cons (λ (w : Worked). f w.shares) (known x) (map known xs) ∙ ap (λ n. f (shares x) + n) (sum_known f xs) ∙ sym (sum_by-cons (λ y. f (shares y)) x xs)

  first_known : (xs : List Thread) → first_fault (map (λ w. w.fault) (map known xs)) ≡ first_fault (map fault xs)
  first_known [] = refl
  first_known (x ∷ xs) = ap (option_or (fault x)) (first_known xs)

  pub have_worked : (l : Limits) (threads rounds given : ℕ) (p m s q : Shares) (met : Option Fault) (xs : List Thread) → WasAccepted l p mapping Done m
      → length xs ≡ threads → given ≡ threads → s.allowance + given ≡ m.allowance → s.tickets + 2 * rounds * given ≡ m.tickets → s.made ≡ m.made
      → All (λ x. HasRun l rounds (fault x) (shares x)) xs → met ≡ first_fault (map fault xs)
      → q.allowance ≡ s.allowance + sum_by (λ x. (shares x).allowance) xs → q.tickets ≡ s.tickets + sum_by (λ x. (shares x).tickets) xs → q.made ≡ s.made + sum_by (λ x. (shares x).made) xs
      → HaveWorked l threads rounds p met q
  have_worked l threads rounds given p m s q met xs accepted count each regions left made ran first allowance tickets events = record {
    mapped = m;
    accepted = accepted;
    enough = (omega (arith, each, regions), omega (arith, ap (λ n. 2 * rounds * n) each, left));
    all = map known xs;
    count = length-map xs known ∙ count;
    run = All-map (λ w. HasRun l rounds w.fault w.shares) known xs ran;
    first = first_known xs ∙ sym first;
    allowance = omega (arith, each, regions, allowance, sum_known (λ s. s.allowance) xs);
    tickets = omega (arith, ap (λ n. 2 * rounds * n) each, left, tickets, sum_known (λ s. s.tickets) xs);
    made = omega (arith, made, events, sum_known (λ s. s.made) xs);
  }
