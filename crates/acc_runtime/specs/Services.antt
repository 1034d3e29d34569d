-- What a worker did that steps the queues of one word after another.
use Rattle.std.specs.Prelude.{ℕ, zero, suc, ◌≡◌, ◌+◌, ◌≤◌, ◌/◌, ◌%◌, ◌⊎◌, List, [], ◌∷◌, Bool, MatchBool, if◌then◌else◌}
use Rattle.acc_base.specs.declared.calls.Call.{Call}
use Rattle.acc_base.specs.declared.calls.Call.TheVariants.{Do}
use Rattle.acc_base.specs.declared.directives.Directive.TheVariants.{Step}
use Rattle.acc_base.specs.declared.faults.Fault.{Fault}
use Rattle.acc_base.specs.declared.transfers.TheConstants.{QUEUE_COUNT}
use Rattle.acc_base.specs.Limits.{Limits}
use Rattle.acc_base.specs.Loans.{Leased}
use Rattle.acc_table.specs.declared.calls.Reply.TheVariants.{Done, Idle}
use Rattle.acc_runtime.specs.Shares.{Shares}
use Rattle.acc_runtime.specs.Shared.{WasAccepted, WasRefused}

-- the step that a word means: of a queue, on a device
abbrev pub step_of : ℕ → Call Leased
step_of word = Do (Step (word / QUEUE_COUNT) (word % QUEUE_COUNT))

-- so many transfers of the queue of a word were made, one after another, each an event
abbrev pub WasStepped : Limits → ℕ → ℕ → Shares → Shares → Type 0
WasStepped l word zero p q = q ≡ p
WasStepped l word (suc steps) p q = (m : Shares) × WasStepped l word steps p m × WasAccepted l m (step_of word) Done q

-- behind that a step was refused; or the queue was found empty, or as many were made as a queue may have
abbrev pub HasEnded : Limits → ℕ → ℕ → Shares → Bool → Type 0
HasEnded l word steps q refused = MatchBool refused ((fault : Fault) × WasRefused l q (step_of word) fault) (WasAccepted l q (step_of word) Idle q ⊎ (steps ≡ l.queue_cap))

-- the queue of a word was served
pub record WasDrained (l : Limits) (word : ℕ) (refused : Bool) (p q : Shares) : Type 0 where
  pub steps : ℕ
  pub most : steps ≤ l.queue_cap
  pub made : WasStepped l word steps p q
  pub ended : HasEnded l word steps q refused

-- the queues of these words were served, one after another: so many transfers were made, and so many words ended with a
-- step that was refused
abbrev pub WasServed : Limits → List ℕ → ℕ → ℕ → Shares → Shares → Type 0
WasServed l [] steps refusals p q = (steps ≡ 0) × (refusals ≡ 0) × (q ≡ p)
WasServed l (word ∷ words) steps refusals p q =
    (refused : Bool) × (m : Shares) × (first : WasDrained l word refused p m) × (more : ℕ) × (others : ℕ) × WasServed l words more others m q
    × (steps ≡ first.steps + more) × (refusals ≡ (if refused then 1 else 0) + others)
