-- What is judged in a state is legal in its records: whether an attachment acts, and what it writes, is all that bytes
-- decide.
use Rattle.std.proofs.Common.{ℕ, ◌≡◌, ◌<◌, refl, sym, subst, Bool, true, false, cond, Option, Some, None, Ok, arith}
use Rattle.std.specs.Prelude.{◌==◌, ◌&&◌, not, nat_le}
use Rattle.std.proofs.lemmas.Bool.Decides.{nat_tests}
use Rattle.acc_base.specs.Words.{Aim, Task, Step, Did}
use Rattle.acc_base.specs.declared.attachments.Aim.TheVariants as aims
use Rattle.acc_base.specs.declared.tasks.Task.TheVariants.{Enter}
use Rattle.acc_base.specs.declared.faults.Fault.TheVariants.{CounterFull}
use Rattle.acc_base.specs.Results.{◌>>=◌, ◌>>◌, refuse_if}
use Rattle.acc_base.specs.Limits.{Limits}
use Rattle.acc_base.specs.Records.{Records, State}
use Rattle.acc_base.specs.Attachments.{count_at, attach}
use Rattle.acc_base.specs.Steps.{pointer_aimed, judge_step}
use Rattle.acc_base.specs.Bytes.{step_state}
use Rattle.acc_base.specs.Loans.{is_lent, not_lent}
use Rattle.acc_base.specs.Detaching.{block_with}
use Rattle.acc_base.specs.Pointers.{host_pointer, device_pointer, target_of, attach_there, judge_attach}
use Rattle.acc_base.specs.Acting.{attach_if, judge_aim, judge_task}
use Rattle.acc_base.specs.History.{IsAttachLegal, IsAimLegal}
use Rattle.acc_base.proofs.Results.{and_true, bind_ok, then_ok, ok_same, refused_not, below_most}

above_zero : (n : ℕ) → not (n == 0) ≡ true → 0 < n
above_zero n e = grind (arith, nat_tests)

-- an attachment that is judged
attach_legal : (l : Limits) (n pointer : ℕ) (aim : Aim) (s : State) → judge_attach l n pointer s ≡ Ok aim → IsAttachLegal l (Some pointer) aim s.records
unfolding judge_attach
attach_legal l n pointer aim s e = go (block_with pointer s.records.ranges) refl (target_of pointer s) refl e
  where
    legal : Aim → Type 0
    legal x = IsAttachLegal l (Some pointer) x s.records

    here : (block target : ℕ) → block_with pointer s.records.ranges ≡ Some block → target_of pointer s ≡ Some target → (b : Bool) → (not (count_at block pointer s.records.attached == 0) && (device_pointer block pointer s == target)) ≡ b
        → is_lent block s.records.loans ≡ false → cond b (refuse_if (nat_le l.counter_max (count_at block pointer s.records.attached)) (CounterFull n) >> Ok (aims.Again pointer block)) (Ok (aims.New pointer block target)) ≡ Ok aim → legal aim
    here block target at aims_at true t free k =
        let both : (refuse_if (nat_le l.counter_max (count_at block pointer s.records.attached)) (CounterFull n) ≡ Ok tt) × (Ok (aims.Again pointer block) ≡ Ok aim) = then_ok _ _ aim k in
        let some : 0 < count_at block pointer s.records.attached = above_zero _ (and_true _ _ t).0 in
        let room : count_at block pointer s.records.attached < l.counter_max = below_most _ _ (refused_not _ _ both.0) in
        subst legal (ok_same _ _ both.1) (refl, at, free, some, room)
    here block target at aims_at false t free k = subst legal (ok_same _ _ k) (refl, at, free, (host_pointer pointer s, aims_at))

    go : (b : Option ℕ) → block_with pointer s.records.ranges ≡ b → (t : Option ℕ) → target_of pointer s ≡ t → attach_there l n pointer b t s ≡ Ok aim → legal aim
    go (Some block) at (Some target) aims_at k =
        let both : (not_lent (Some block) s.records.loans ≡ Ok tt) × (attach l.counter_max n block pointer target (device_pointer block pointer s) s.records.attached ≡ Ok aim) = then_ok _ _ aim k in
        here block target at aims_at (not (count_at block pointer s.records.attached == 0) && (device_pointer block pointer s == target)) refl (refused_not _ _ both.0) both.1
    go _ at _ aims_at k = subst legal (ok_same _ _ k) tt

attach_if_legal : (l : Limits) (n : ℕ) (named : Option ℕ) (aim : Aim) (s : State) → attach_if l n named s ≡ Ok aim → IsAttachLegal l named aim s.records
attach_if_legal l n None aim s e = subst (λ x. IsAttachLegal l None x s.records) (ok_same _ _ e) tt
attach_if_legal l n (Some pointer) aim s e = attach_legal l n pointer aim s e

-- what is judged of the pointer of a task
aim_legal : (l : Limits) (n : ℕ) (task : Task) (step : Step) (aim : Aim) (s : State) → judge_aim l n task step s ≡ Ok aim → IsAimLegal l task (record { step = step; aim = aim }) s.records
unfolding judge_aim step_state
aim_legal l n (Enter counter item queue) step aim s e = attach_if_legal l n (pointer_aimed (Enter counter item queue) step) aim (step_state (Enter counter item queue) step s) e
aim_legal l n _ step aim s e = sym (ok_same _ _ e)

-- what a task that was judged says: its step is judged in the records, and what became of its pointer is legal in them
pub record IsJudgedItem (l : Limits) (n : ℕ) (task : Task) (did : Did) (w : Records) : Type 0 where
  pub step : judge_step l n task w ≡ Ok did.step
  pub aim : IsAimLegal l task did w

pub item_judged : (l : Limits) (n : ℕ) (task : Task) (did : Did) (s : State) → judge_task l n task s ≡ Ok did → IsJudgedItem l n task did s.records
unfolding judge_task
item_judged l n task did s e =
    let first : (step : Step) × (judge_step l n task s.records ≡ Ok step) × ((judge_aim l n task step s >>= λ aim. Ok (record { step = step; aim = aim })) ≡ Ok did)
    = bind_ok (judge_step l n task s.records) (λ step. judge_aim l n task step s >>= λ aim. Ok (record { step = step; aim = aim })) did e in
    let second : (aim : Aim) × (judge_aim l n task first.0 s ≡ Ok aim) × (Ok (record { step = first.0; aim = aim }) ≡ Ok did)
    = bind_ok (judge_aim l n task first.0 s) (λ aim. Ok (record { step = first.0; aim = aim })) did first.2 in
    subst (λ d. IsJudgedItem l n task d s.records) (ok_same _ _ second.2) (record { step = first.1; aim = aim_legal l n task first.0 second.0 s second.1 })
