-- What a worker did, put together from its steps.
use Rattle.std.proofs.Common.{ℕ, zero, suc, ◌≡◌, ◌+◌, ◌-◌, ◌≤◌, ◌⊎◌, refl, sym, ap, subst, Bool, true, false, List, [], ◌∷◌, ◌++◌, inl, inr, arith}
use Rattle.std.specs.Prelude.{min, if◌then◌else◌}
use Rattle.acc_base.specs.declared.faults.Fault.{Fault}
use Rattle.acc_base.specs.Limits.{Limits}
use Rattle.acc_table.specs.declared.calls.Reply.TheVariants.{Done, Idle}
use Rattle.acc_runtime.specs.Shares.{Shares}
use Rattle.acc_runtime.specs.Shared.{WasAccepted, WasRefused}
use Rattle.acc_runtime.specs.Services.{step_of, WasStepped, WasDrained, WasServed}

-- ---- the steps of one word

pub stepped_more : (l : Limits) (word steps : ℕ) (p m q : Shares) → WasStepped l word steps p m → WasAccepted l m (step_of word) Done q → WasStepped l word (steps + 1) p q
stepped_more l word steps p m q made accepted =
    let more : suc steps ≡ steps + 1 = omega arith in
    subst (λ (n : ℕ). WasStepped l word n p q) more (m, made, accepted)

-- each step is one event
pub stepped_made : (l : Limits) (word steps : ℕ) (p q : Shares) → WasStepped l word steps p q → q.made ≡ p.made + steps
stepped_made l word zero p q same = omega (arith, ap (λ (s : Shares). s.made) same)
stepped_made l word (suc steps) p q made =
    let before = stepped_made l word steps p made.0 made.1 in
    let last = ap (λ (s : Shares). s.made) made.2.acted.shares in
    omega (arith, before, last)

pub drained_empty : (l : Limits) (word steps : ℕ) (p m q : Shares) → steps ≤ l.queue_cap → WasStepped l word steps p m → WasAccepted l m (step_of word) Idle q → WasDrained l word false p q
drained_empty l word steps p m q most made idle =
    let same : q ≡ m = idle.acted.shares in
    subst (λ (s : Shares). WasDrained l word false p s) (sym same) (record {
      steps = steps;
      most = most;
      made = made;
      ended = inl (subst (λ (s : Shares). WasAccepted l m (step_of word) Idle s) same idle);
    })

pub drained_full : (l : Limits) (word steps : ℕ) (p q : Shares) → steps ≡ l.queue_cap → WasStepped l word steps p q → WasDrained l word false p q
drained_full l word steps p q full made = record { steps = steps; most = omega (arith, full); made = made; ended = inr full }

pub drained_refused : (l : Limits) (word steps : ℕ) (p m q : Shares) (fault : Fault) → steps ≤ l.queue_cap → WasStepped l word steps p m → WasRefused l m (step_of word) fault → q ≡ m → WasDrained l word true p q
drained_refused l word steps p m q fault most made refused same =
    subst (λ (s : Shares). WasDrained l word true p s) (sym same) (record { steps = steps; most = most; made = made; ended = (fault, refused) })

-- ---- one word after another

-- with one more word at the end
pub served_behind : (l : Limits) (words : List ℕ) (word steps refusals : ℕ) (refused : Bool) (p m q : Shares) → WasServed l words steps refusals p m → (last : WasDrained l word refused m q)
    → WasServed l (words ++ word ∷ []) (steps + last.steps) (refusals + (if refused then 1 else 0)) p q
served_behind l [] word steps refusals refused p m q served last =
    let count : ℕ = if refused then 1 else 0 in
    let one : WasServed l (word ∷ []) (steps + last.steps) (refusals + count) m q = (
      refused,
      q,
      last,
      0,
      0,
      (refl, refl, refl),
      omega (arith, served.0),
      omega (arith, served.1),
    ) in
    subst (λ (s : Shares). WasServed l (word ∷ []) (steps + last.steps) (refusals + count) s q) served.2 one
served_behind l (first ∷ words) word steps refusals refused p m q served last =
    let next : Shares = served.1 in
    let more : ℕ = served.3 in
    let others : ℕ = served.4 in (
      served.0,
      next,
      served.2,
      more + last.steps,
      others + (if refused then 1 else 0),
      served_behind l words word more others refused next m q served.5 last,
      omega (arith, served.6),
      omega (arith, served.7),
    )

-- the same, with the steps as events that were made, and the refusals as they are counted up to a greatest number
pub served_on : (l : Limits) (words : List ℕ) (word : ℕ) (start p q : Shares) (refused : Bool) (n m most : ℕ) → start.made ≤ p.made
    → ((refusals : ℕ) × WasServed l words (p.made - start.made) refusals start p × (n ≡ min refusals most))
    → WasDrained l word refused p q → ((refused ≡ true) × (m ≡ min (n + 1) most)) ⊎ ((refused ≡ false) × (m ≡ n))
    → (refusals : ℕ) × WasServed l (words ++ word ∷ []) (q.made - start.made) refusals start q × (m ≡ min refusals most)
served_on l words word start p q true n m most began before last (inl h) =
    let events = stepped_made l word last.steps p q last.made in
    let steps : (p.made - start.made) + last.steps ≡ q.made - start.made = omega (arith, began, events) in
    let behind = served_behind l words word (p.made - start.made) before.0 true start p q before.1 last in
    (before.0 + 1, subst (λ (k : ℕ). WasServed l (words ++ word ∷ []) k (before.0 + 1) start q) steps behind, omega (arith, before.2, h.1))
served_on l words word start p q false n m most began before last (inr h) =
    let events = stepped_made l word last.steps p q last.made in
    let steps : (p.made - start.made) + last.steps ≡ q.made - start.made = omega (arith, began, events) in
    let behind = served_behind l words word (p.made - start.made) before.0 false start p q before.1 last in
    (before.0 + 0, subst (λ (k : ℕ). WasServed l (words ++ word ∷ []) k (before.0 + 0) start q) steps behind, omega (arith, before.2, h.1))
served_on l words word start p q false n m most began before last (inl h) = absurd cc
served_on l words word start p q true n m most began before last (inr h) = absurd cc
