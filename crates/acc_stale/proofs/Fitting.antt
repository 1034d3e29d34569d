-- An item that was judged is one that an account can tell, in the order in which its step and its pointer act.
use Rattle.std.proofs.Common.{◌≡◌, ℕ, Bool, true, false, ◌==◌, cond, List, Option, Some, None, unwrap_or, option_map, refl, sym, ap, subst, ◌∙◌, Ok, arith}
use Rattle.std.specs.Prelude.{IsSome}
use Rattle.acc_base.specs.declared.attachments.Aim.{Aim}
use Rattle.acc_base.specs.declared.attachments.Aim.TheVariants as aims
use Rattle.acc_base.specs.declared.events.Did.{Did}
use Rattle.acc_base.specs.declared.events.Step.{Step}
use Rattle.acc_base.specs.declared.events.Step.TheVariants.{Nothing, Counted, Born, Dropped, Moved}
use Rattle.acc_base.specs.declared.mappings.Found.{Found}
use Rattle.acc_base.specs.declared.mappings.Found.TheVariants.{Inside}
use Rattle.acc_base.specs.declared.mappings.Range.{Range}
use Rattle.acc_base.specs.declared.tasks.Task.{Task}
use Rattle.acc_base.specs.declared.tasks.Task.TheVariants.{Enter, ExitRegion, ExitData, Move}
use Rattle.acc_base.specs.Limits.{Limits, IsWithinBounds}
use Rattle.acc_base.specs.Ranges.{where_is, range_of, is_unused, ends_by}
use Rattle.acc_base.specs.Attachments.{pointer_at, count_at, detach}
use Rattle.acc_base.specs.Tasks.{recounted}
use Rattle.acc_base.specs.Detaching.{block_in, block_with, detach_there, judge_detach, detach_if, release_there, judge_release}
use Rattle.acc_base.specs.Records.{Records, State}
use Rattle.acc_base.specs.Steps.{act_step, records_aimed, pointer_aimed}
use Rattle.acc_base.specs.Bytes.{step_state}
use Rattle.acc_base.specs.Pointers.{aimed}
use Rattle.acc_base.specs.Acting.{judge_task, act_state}
use Rattle.acc_base.specs.History.{IsAttachLegal}
use Rattle.acc_base.specs.Accounts.{AreRecordsSound, IsCounted}
use Rattle.acc_base.proofs.Results.{equal}
use Rattle.acc_base.proofs.Elements.{found_has}
use Rattle.acc_stale.specs.Accounts.{CanCount}
use Rattle.acc_base.proofs.Judged.{inside_mapped, IsJudgedTo, step_judged, task_says}
use Rattle.acc_base.proofs.Aimed.{leave_sound, exit_sound, move_sound, says_aimed}
use Rattle.acc_base.proofs.Legality.{IsJudgedItem, item_judged}
use Rattle.acc_base.proofs.Puts.{acted_sound}
use Rattle.acc_stale.specs.Told.{enters, before_step, before_aim}
use Rattle.acc_stale.specs.Follows.{IsStepFit, IsAimFit}

-- ---- its step

some_range : (k : ℕ) (ranges : List Range) → (range_of k ranges ≡ None → ⊥) → IsSome (range_of k ranges)
some_range k ranges mapped = go (range_of k ranges) refl
  where
    go : (o : Option Range) → range_of k ranges ≡ o → IsSome o
    go None e = absurd (mapped e)
    go (Some r) e = refl

ends_some : (f : Range → Range) (k : ℕ) (ranges : List Range) → true ≡ ends_by f k ranges → IsSome (range_of k ranges)
ends_some f k ranges e = some_range k ranges (λ none. let bad : true ≡ false = e ∙ ap (λ (o : Option Range). unwrap_or (option_map (λ r. is_unused (f r)) o) false) none in cc)

can_count : (l : Limits) (k : ℕ) (r : Range) (w : Records) → IsWithinBounds l → AreRecordsSound l w → range_of k w.ranges ≡ Some r → CanCount r
can_count l k r w bounds sound e =
    let counted : IsCounted l r = (found_has (IsCounted l) (λ x. x.block == k) w.ranges r sound.counted e).0 in
    (omega (arith, counted.structured, bounds.counter_max.1), omega (arith, counted.dynamic, bounds.counter_max.1))

pub step_fit : (l : Limits) (task : Task) (step : Step) (w : Records) → IsWithinBounds l → AreRecordsSound l w → IsJudgedTo l task step w → IsStepFit step w
step_fit l task Nothing w bounds sound says = tt
step_fit l task (Counted k) w bounds sound says = λ r e. can_count l k r w bounds sound e
step_fit l task (Dropped k false) w bounds sound says = λ r e. can_count l k r w bounds sound e
step_fit l (Enter counter item queue) (Born k p) w bounds sound says = says.number
step_fit l (ExitRegion holding) (Dropped k true) w bounds sound says = ends_some (recounted (ExitRegion holding)) k w.ranges says.1
step_fit l (ExitData finalize item queue) (Dropped k true) w bounds sound says = some_range k w.ranges says.range.mapped
step_fit l (Move if_present item queue) (Moved k) w bounds sound says = some_range k w.ranges says.mapped
step_fit l _ _ w bounds sound says = absurd says

-- ---- its pointer

with_mapped : (p k : ℕ) (ranges : List Range) → block_with p ranges ≡ Some k → IsSome (range_of k ranges)
with_mapped p k ranges is = go (where_is (pointer_at p) ranges) refl is
  where
    go : (f : Found) → where_is (pointer_at p) ranges ≡ f → block_in f ≡ Some k → IsSome (range_of k ranges)
    go (Inside b o) e h = let same : b ≡ k = cc in subst (λ (j : ℕ). IsSome (range_of j ranges)) same (some_range b ranges (inside_mapped (pointer_at p) ranges b o e))
    go _ e h = cc

attach_fit : (l : Limits) (named : Option ℕ) (aim : Aim) (w : Records) → IsWithinBounds l → IsAttachLegal l named aim w → IsAimFit aim w
attach_fit l named aims.None w bounds legal = tt
attach_fit l named (aims.New pointer block target) w bounds legal = with_mapped pointer block w.ranges legal.1
attach_fit l named (aims.Again pointer block) w bounds legal = (with_mapped pointer block w.ranges legal.1, omega (arith, legal.4, bounds.counter_max.1))
attach_fit l named _ w bounds legal = absurd legal

detach_fit : (immediate : Bool) (p k : ℕ) (w : Records) → IsSome (range_of k w.ranges) → IsAimFit (detach immediate k p w.attached) w
detach_fit immediate p k w some = go (count_at k p w.attached == 0) immediate
  where
    go : (b i : Bool) → IsAimFit (cond b aims.None (cond i (aims.Cleared p k) (aims.Less p k))) w
    go true i = tt
    go false true = some
    go false false = some

release_fit : (held : Option (ℕ × ℕ)) (w : Records) → IsAimFit (judge_release held w) w
unfolding judge_release
release_fit None w = tt
release_fit (Some held) w = go (block_with held.0 w.ranges) refl
  where
    here : (now : ℕ) → block_with held.0 w.ranges ≡ Some now → (b : Bool) → (now == held.1) ≡ b → IsAimFit (cond b (detach false held.1 held.0 w.attached) aims.None) w
    here now is true e = detach_fit false held.0 held.1 w (with_mapped held.0 held.1 w.ranges (is ∙ ap Some (equal now held.1 e)))
    here now is false e = tt

    go : (b : Option ℕ) → block_with held.0 w.ranges ≡ b → IsAimFit (release_there held.0 held.1 b w.attached) w
    go None is = tt
    go (Some now) is = here now is (now == held.1) refl

detach_if_fit : (finalize : Bool) (named : Option ℕ) (w : Records) → IsAimFit (detach_if finalize named w) w
unfolding judge_detach
detach_if_fit finalize None w = tt
detach_if_fit finalize (Some pointer) w = go (block_with pointer w.ranges) refl
  where
    go : (b : Option ℕ) → block_with pointer w.ranges ≡ b → IsAimFit (detach_there finalize pointer b w.attached) w
    go None is = tt
    go (Some k) is = detach_fit finalize pointer k w (with_mapped pointer k w.ranges is)

-- ---- both, in their order

-- an item that enters: first its step
pub record IsEntryFit (l : Limits) (task : Task) (did : Did) (s : State) : Type 0 where
  pub step : IsStepFit did.step s.records
  pub records : (step_state task did.step s).records ≡ act_step task did.step s.records
  pub sound : AreRecordsSound l (step_state task did.step s).records
  pub aim : IsAimFit did.aim (step_state task did.step s).records
  pub before_step_is : before_step task did s ≡ s
  pub before_aim_is : before_aim task did s ≡ step_state task did.step s
  pub left : (act_state task did s).records ≡ records_aimed did.aim (step_state task did.step s).records

pub entry_fit : (l : Limits) (n : ℕ) (task : Task) (did : Did) (s : State) → enters task ≡ true → IsWithinBounds l → AreRecordsSound l s.records → judge_task l n task s ≡ Ok did → IsEntryFit l task did s
unfolding step_state act_state aimed
entry_fit l n (Enter counter item queue) did s e bounds sound judged =
    let legal : IsJudgedItem l n (Enter counter item queue) did s.records = item_judged l n (Enter counter item queue) did s judged in
    let says : IsJudgedTo l (Enter counter item queue) did.step s.records = task_says l n (Enter counter item queue) s.records did.step legal.step in
    record {
      step = step_fit l (Enter counter item queue) did.step s.records bounds sound says;
      records = refl;
      sound = acted_sound l (Enter counter item queue) did.step s.records bounds says (step_judged l n (Enter counter item queue) s.records did.step legal.step).free sound;
      aim = attach_fit l (pointer_aimed (Enter counter item queue) did.step) did.aim (act_step (Enter counter item queue) did.step s.records) bounds legal.aim;
      before_step_is = refl;
      before_aim_is = refl;
      left = refl;
    }
entry_fit l n (ExitRegion holding) did s e bounds sound judged = cc
entry_fit l n (ExitData finalize item queue) did s e bounds sound judged = cc
entry_fit l n (Move if_present item queue) did s e bounds sound judged = cc

-- another item: first its pointer
pub record IsExitFit (l : Limits) (task : Task) (did : Did) (s : State) : Type 0 where
  pub aim : IsAimFit did.aim s.records
  pub records : (aimed did.aim s).records ≡ records_aimed did.aim s.records
  pub sound : AreRecordsSound l (aimed did.aim s).records
  pub step : IsStepFit did.step (aimed did.aim s).records
  pub before_step_is : before_step task did s ≡ aimed did.aim s
  pub before_aim_is : before_aim task did s ≡ s
  pub left : (act_state task did s).records ≡ act_step task did.step (aimed did.aim s).records

pub exit_fit : (l : Limits) (n : ℕ) (task : Task) (did : Did) (s : State) → enters task ≡ false → IsWithinBounds l → AreRecordsSound l s.records → judge_task l n task s ≡ Ok did → IsExitFit l task did s
unfolding step_state act_state aimed
exit_fit l n (Enter counter item queue) did s e bounds sound judged = cc
exit_fit l n (ExitRegion holding) did s e bounds sound judged =
    let legal : IsJudgedItem l n (ExitRegion holding) did s.records = item_judged l n (ExitRegion holding) did s judged in
    let says : IsJudgedTo l (ExitRegion holding) did.step s.records = task_says l n (ExitRegion holding) s.records did.step legal.step in
    record {
      aim = subst (λ a. IsAimFit a s.records) (sym legal.aim) (release_fit holding.aim s.records);
      records = refl;
      sound = leave_sound l holding did s.records sound legal.aim;
      step = step_fit l (ExitRegion holding) did.step (records_aimed did.aim s.records) bounds (leave_sound l holding did s.records sound legal.aim) (says_aimed l (ExitRegion holding) did.step did.aim s.records says);
      before_step_is = refl;
      before_aim_is = refl;
      left = refl;
    }
exit_fit l n (ExitData finalize item queue) did s e bounds sound judged =
    let legal : IsJudgedItem l n (ExitData finalize item queue) did s.records = item_judged l n (ExitData finalize item queue) did s judged in
    let says : IsJudgedTo l (ExitData finalize item queue) did.step s.records = task_says l n (ExitData finalize item queue) s.records did.step legal.step in
    record {
      aim = subst (λ a. IsAimFit a s.records) (sym legal.aim) (detach_if_fit finalize (pointer_aimed (ExitData finalize item queue) did.step) s.records);
      records = refl;
      sound = exit_sound l finalize item queue did s.records sound legal.aim;
      step = step_fit l (ExitData finalize item queue) did.step (records_aimed did.aim s.records) bounds (exit_sound l finalize item queue did s.records sound legal.aim) (says_aimed l (ExitData finalize item queue) did.step did.aim s.records says);
      before_step_is = refl;
      before_aim_is = refl;
      left = refl;
    }
exit_fit l n (Move if_present item queue) did s e bounds sound judged =
    let legal : IsJudgedItem l n (Move if_present item queue) did s.records = item_judged l n (Move if_present item queue) did s judged in
    let says : IsJudgedTo l (Move if_present item queue) did.step s.records = task_says l n (Move if_present item queue) s.records did.step legal.step in
    record {
      aim = subst (λ a. IsAimFit a s.records) (sym legal.aim) tt;
      records = refl;
      sound = move_sound l if_present item queue did s.records sound legal.aim;
      step = step_fit l (Move if_present item queue) did.step (records_aimed did.aim s.records) bounds (move_sound l if_present item queue did s.records sound legal.aim) (says_aimed l (Move if_present item queue) did.step did.aim s.records says);
      before_step_is = refl;
      before_aim_is = refl;
      left = refl;
    }
