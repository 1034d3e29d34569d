-- The first transfer of a queue can be made, and leaves the parts sound.
use Rattle.std.proofs.Common.{ℕ, ◌≡◌, sym, subst, List, [], ◌∷◌, Some, arith, Ok}
use Rattle.std.specs.Prelude.{take}
use Rattle.std.specs.List.{AllByRecursion}
use Rattle.std.proofs.lemmas.Bool.Decides.{nat_tests}
use Rattle.acc_base.specs.Loans.{none_lent}
use Rattle.acc_clauses.specs.Words.{Transfer}
use Rattle.acc_base.specs.Limits.{Limits, IsWithinBounds}
use Rattle.acc_base.specs.Records.{State}
use Rattle.acc_base.specs.Queues.{queue_at, head_of}
use Rattle.acc_base.specs.Waits.{stepped, records_drained, drained}
use Rattle.acc_base.specs.Accounts.{IsTransferSound, AreRecordsSound, AreMemoriesSized}
use Rattle.acc_base.proofs.Queued.{all-at, head_first}
use Rattle.acc_base.proofs.Sound.{stepped_sound}
use Rattle.acc_base.proofs.Walked.{records-drained}
use Rattle.acc_base.proofs.Memories.{drained_sized}
use Rattle.acc_clauses.specs.Contents.{WithHost, ArePartsSound, bare_state}
use Rattle.acc_clauses.specs.Acts.{CanStep, IsSteppedBy}
use Rattle.acc_clauses.proofs.Emptying.{same_loans}
use Rattle.acc_clauses.proofs.Moving.{bytes_of-len}
use Rattle.acc_clauses.proofs.Steps.{is_some}
use Rattle.acc_clauses.proofs.Legal.{host_end}
use Rattle.acc_clauses.proofs.Changes.{changed_sound}

-- ---- before it

-- the first transfer has what all of a queue have
first_has : (P : Transfer → Type 0) (q : ℕ) (t : Transfer) (queues : List (List Transfer)) → head_of q queues ≡ Some t → AllByRecursion (AllByRecursion P) queues → P t
first_has P q t queues e h = grind (arith, nat_tests, head_first, all-at)

pub can_step : (l : Limits) (x : WithHost) (lent : ℕ) (q : ℕ) → IsWithinBounds l → none_lent (take 1 (queue_at q x.queues.queues)) x.device.loans ≡ Ok tt → ArePartsSound l x lent → CanStep q x
can_step l x lent q bounds free sound t e = grind (arith, nat_tests, first_has (IsTransferSound l x.device.blocks) q t x.queues.queues e sound.sound.records.queues.transfers, host_end, is_some, bytes_of-len)

-- ---- after it

step_sound : (l : Limits) (q : ℕ) (s : State) → AreRecordsSound l s.records → AreMemoriesSized l s → AreRecordsSound l (stepped q s).records × AreMemoriesSized l (stepped q s)
unfolding drained records_drained
step_sound l q s h m = (subst (AreRecordsSound l) (sym (records-drained (q ∷ []) s)) (stepped_sound l q s.records h), drained_sized l (q ∷ []) s m)

-- it lends nothing, and brings nothing back
step_loans : (q : ℕ) (s : State) → (stepped q s).records.loans ≡ s.records.loans
unfolding drained
step_loans q s = same_loans (q ∷ []) s

pub stepped_parts : (l : Limits) (x y : WithHost) (lent q : ℕ) → ArePartsSound l x lent → IsSteppedBy q x y → ArePartsSound l y lent
stepped_parts l x y lent q sound done =
    let after = step_sound l q (bare_state x) sound.sound.records sound.sound.memories in
    changed_sound l (stepped q) _ _ _ x y lent sound done after.0 after.1 (step_loans q (bare_state x))
