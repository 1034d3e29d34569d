-- A directive that is judged on its device, and not carried out.
use Rattle.std.proofs.Common.{ℕ, ◌≡◌, ◌∙◌, inl, inr, refl, sym, ap, List, [], ◌∷◌, Option, Some, None, Result, Ok, Err}
use Rattle.std.specs.Prelude.{⊤, MatchResult, IfOk, IfErr}
use Rattle.acc_clauses.specs.Words.{Directive, Task, Did, Transfer, Event, Fault}
use Rattle.acc_base.specs.declared.directives.Directive.TheVariants.{Enter, Exit, EnterData, ExitData, Update, Wait, Step}
use Rattle.acc_base.specs.declared.calls.Call.TheVariants.{Do}
use Rattle.acc_base.specs.declared.faults.Fault.TheVariants.{Memory}
use Rattle.acc_base.proofs.Results.{ok_same}
use Rattle.acc_base.specs.Limits.{Limits}
use Rattle.acc_base.specs.Records.{State}
use Rattle.acc_base.specs.Queues.{head_of}
use Rattle.acc_base.specs.Acting.{judge_all}
use Rattle.acc_base.specs.Devices.{view}
use Rattle.acc_base.specs.Judge.{Verdict, step_verdict, verdict_of, plan_of}
use Rattle.acc_base.specs.Calls.{Base, World, judge, device_for}
use Rattle.acc_clauses.specs.Planned.{Planned, IsPlanOf, in_written_order}
use Rattle.acc_table.specs.declared.devices.Devices.{Devices}
use Rattle.acc_table.specs.Making.{admitted}
use Rattle.acc_table.specs.Foreseen.{test_of, dids_of, AreForeseen}
use Rattle.acc_clauses.specs.Devices.{DeviceContents, contents_with}
use Rattle.acc_table.proofs.InUse.{AreDevicesOf, IsUsed, in_view}
use Rattle.acc_table.proofs.Verdicts.{planned_on, judge_directive, judged_plan}

-- what is refused before the items are judged
pub judged_before : (w : World) (d : Directive) (fault : Fault) → admitted w d ≡ Err fault → judge w (Do d) ≡ Err fault
judged_before w d fault e = judge_directive w d ∙ rw e refl

-- it is judged so, or refused so
abbrev pub IsJudgedTo : Result Verdict Fault → Verdict → Result ⊤ Fault → Type 0
IsJudgedTo judged verdict r = MatchResult r (λ _. judged ≡ Ok verdict) (λ fault. judged ≡ Err fault)

-- so is a directive that is planned for its device
pub directive_judged : {l : Limits} {base : Base} {x : Devices} {trace : List Event} {w : World} {n : ℕ} {y : DeviceContents} → AreDevicesOf l base x trace w → IsUsed x n y → (d : Directive) (dids : List Did) (r : Result ⊤ Fault) → n ≡ device_for d w.state → admitted w d ≡ Ok tt
    → IsJudgedTo (plan_of y.limits d (contents_with y x.shared).state) (verdict_of y.limits.number d (contents_with y x.shared).state dids) r
    → IsJudgedTo (judge w (Do d)) (verdict_of (device_for d w.state) d (view (device_for d w.state) w.state) dids) r
directive_judged {w = w} t u d dids r on ok h = go r (in_view t u n (λ m s. IsJudgedTo (plan_of m d s) (verdict_of m.number d s dids) r) on h)
  where
    n : ℕ
    n = device_for d w.state

    verdict : Verdict
    verdict = verdict_of n d (view n w.state) dids

    go : (q : Result ⊤ Fault) → IsJudgedTo (planned_on w d) verdict q → IsJudgedTo (judge w (Do d)) verdict q
    go (Ok _) planned = judged_plan w d verdict ok planned
    go (Err fault) refused = judge_directive w d ∙ rw (ok, refused) refl

-- whether it is refused, and for what, is the result of a test
pub tested_so : (judged : Result Verdict Fault) (verdict : Verdict) (r : Result ⊤ Fault) → IsJudgedTo judged verdict r → r ≡ test_of judged
tested_so judged verdict (Ok _) h = rw h refl
tested_so judged verdict (Err fault) h = rw h refl

-- a directive without items has none that does something
none_did : (l : Limits) (tasks : List Task) (dids : List Did) (s : State) → tasks ≡ [] → judge_all l 0 tasks s ≡ Ok dids → dids ≡ []
unfolding judge_all
none_did l [] [] s none h = refl
none_did l [] (did ∷ dids) s none h = cc
none_did l (task ∷ tasks) dids s none h = cc

-- what the items of a planned directive did, in written order, is what its verdict tells of them
pub dids_told : (l : Limits) (n : ℕ) (d : Directive) (s t : State) (p : Planned) → IsPlanOf l d s p → dids_of (verdict_of n d t p.dids) ≡ in_written_order d p.dids
dids_told l n (Enter device items) s t p h = refl
dids_told l n (Exit number) s t p h = refl
dids_told l n (EnterData device items queue) s t p h = refl
dids_told l n (ExitData device items finalize queue) s t p h = refl
dids_told l n (Update device items if_present queue) s t p h = refl
dids_told l n (Wait device queue) s t p h = sym (none_did l p.tasks p.dids s (sym (ok_same [] p.tasks h.asked)) h.judged)
dids_told l n (Step device queue) s t p h = go (head_of queue t.records.queues) ∙ sym (none_did l p.tasks p.dids s (sym (ok_same [] p.tasks h.asked)) h.judged)
  where
    go : (o : Option Transfer) → dids_of (step_verdict n queue o) ≡ []
    go None = refl
    go (Some x) = refl

-- ---- what is told of the items

-- it is in written order what the plan has, where memory is not lacking for it
pub foreseen : (judged : Result Verdict Fault) (verdict : Verdict) (dids : List Did) (r : Result (List Did) Fault) → judged ≡ Ok verdict → dids_of verdict ≡ dids → IfOk r (λ did. did ≡ dids) → IfErr r (λ fault. fault ≡ Memory) → AreForeseen judged r
foreseen judged verdict dids (Ok did) h are ok only = rw h (inl (ap Ok (ok ∙ sym are)))
foreseen judged verdict dids (Err fault) h are ok only = rw h (inr (ap Err only))

same_refusal : (first fault : Fault) → ◌≡◌ {A = Result ⊤ Fault} (Err first) (Err fault) → first ≡ fault
same_refusal first fault e = cc

-- it is nothing where the plan was refused
pub foreseen_not : (judged : Result Verdict Fault) (verdict : Verdict) (fault : Fault) (r : Result ⊤ Fault) (s : Result (List Did) Fault) → IsJudgedTo judged verdict r → ◌≡◌ {A = Result ⊤ Fault} r (Err fault) → s ≡ Err fault → AreForeseen judged s
foreseen_not judged verdict fault (Ok _) s h is e = cc
foreseen_not judged verdict fault (Err first) s h is e = rw h (e ∙ ap Err (sym (same_refusal first fault is)))
