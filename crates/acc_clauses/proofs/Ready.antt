-- What a task is judged to do, its step and what becomes of its pointer, can be done, and leaves the parts sound.
use Rattle.std.proofs.Common.{ℕ, ◌≡◌, ◌<◌, ◌^◌, refl, sym, ◌∙◌, ap, subst, Bool, true, false, cond, Option, Some, None, Ok, arith}
use Rattle.std.specs.Prelude.{◌==◌}
use Rattle.std.proofs.lemmas.Bool.Decides.{nat_tests}
use Rattle.acc_base.specs.Section.{device_memory}
use Rattle.acc_base.specs.Loans.{not_lent}
use Rattle.acc_clauses.specs.Words.{Counter, Item, RegionClause, Aim, Did, Task, Step}
use Rattle.acc_base.specs.declared.attachments.Aim.TheVariants as aims
use Rattle.acc_base.specs.declared.tasks.Task.TheVariants.{Enter, ExitRegion, ExitData, Move}
use Rattle.acc_base.specs.Limits.{Limits, IsWithinBounds}
use Rattle.acc_base.specs.Records.{Records, State}
use Rattle.acc_base.specs.Tasks.{queue_of}
use Rattle.acc_base.specs.Transfers.{transfer_of, room_for}
use Rattle.acc_base.specs.Bytes.{step_state}
use Rattle.acc_base.specs.Attachments.{pointer_at, detach}
use Rattle.acc_base.specs.Detaching.{block_with, judge_detach, release_there, judge_release, block_aimed}
use Rattle.acc_base.specs.Pointers.{aimed}
use Rattle.acc_base.specs.Steps.{pointer_aimed, records_aimed, block_detached}
use Rattle.acc_base.specs.Detaching.{detach_if}
use Rattle.acc_base.specs.Acting.{act_state}
use Rattle.acc_base.specs.History.{IsAttachLegal}
use Rattle.acc_base.specs.Accounts.{AreRecordsSound, AreMemoriesSized}
use Rattle.acc_base.proofs.Results.{equal}
use Rattle.acc_base.proofs.Judged.{IsJudgedTo, task_says, step_judged, IsStepFree}
use Rattle.acc_base.proofs.Puts.{acted_sound}
use Rattle.acc_base.proofs.Aimed.{leave_sound, exit_sound, move_sound, says_aimed, task_left}
use Rattle.acc_base.proofs.Walked.{records-act_state}
use Rattle.acc_base.proofs.Loaned.{loans-act}
use Rattle.acc_base.proofs.Memories.{step_sized, aimed_sized, act_sized}
use Rattle.acc_clauses.specs.Contents.{WithHost, AreSizedBy, ArePartsSound, bare_state}
use Rattle.acc_clauses.specs.Acts.{IsJudged, IsMappedAround, IsKnown, CanMove, CanAct, CanAim, CanEnter, CanLeave, CanQueue, CanDo, IsDoneBy}
use Rattle.acc_clauses.proofs.Legal.{mapped_around, can_move, can_by}
use Rattle.acc_clauses.proofs.Changes.{changed_sound}

-- ---- what each attachment and each detachment needs

-- the block that has a pointer
with_pointer : (l : Limits) (s : State) (pointer block : ℕ) → IsWithinBounds l → AreRecordsSound l s.records → AreMemoriesSized l s → block_with pointer s.records.ranges ≡ Some block → CanMove (pointer_at pointer) block s
with_pointer l s pointer block bounds h m e = grind (arith, nat_tests, can_move l s (pointer_at pointer) block, mapped_around l s.records (pointer_at pointer) block)

can_attach : (l : Limits) (s : State) (named : Option ℕ) (aim : Aim) → IsWithinBounds l → AreRecordsSound l s.records → AreMemoriesSized l s → IsAttachLegal l named aim s.records → CanAim l.counter_max aim s
can_attach l s named aim bounds h m legal = grind (arith, nat_tests, with_pointer)

can_detach : (l : Limits) (s : State) (immediate : Bool) (pointer block : ℕ) → IsWithinBounds l → AreRecordsSound l s.records → AreMemoriesSized l s → block_with pointer s.records.ranges ≡ Some block
    → not_lent (block_aimed (detach immediate block pointer s.records.attached)) s.records.loans ≡ Ok tt → CanAim l.counter_max (detach immediate block pointer s.records.attached) s
can_detach l s immediate pointer block bounds h m e free = grind (arith, nat_tests, with_pointer)

can_judged : (l : Limits) (s : State) (immediate : Bool) (named : Option ℕ) → IsWithinBounds l → AreRecordsSound l s.records → AreMemoriesSized l s → not_lent (block_aimed (detach_if immediate named s.records)) s.records.loans ≡ Ok tt → CanAim l.counter_max (detach_if immediate named s.records) s
unfolding judge_detach
can_judged l s immediate named bounds h m free = grind (arith, nat_tests, can_detach)

can_release : (l : Limits) (s : State) (held : Option (ℕ × ℕ)) → IsWithinBounds l → AreRecordsSound l s.records → AreMemoriesSized l s → not_lent (block_aimed (judge_release held s.records)) s.records.loans ≡ Ok tt → CanAim l.counter_max (judge_release held s.records) s
unfolding judge_release
can_release l s None bounds h m free = tt
can_release l s (Some held) bounds h m free = go (block_with held.0 s.records.ranges) refl free
  where
    here : (now : ℕ) → block_with held.0 s.records.ranges ≡ Some now → (b : Bool) → (now == held.1) ≡ b → not_lent (block_aimed (cond b (detach false held.1 held.0 s.records.attached) aims.None)) s.records.loans ≡ Ok tt → CanAim l.counter_max (cond b (detach false held.1 held.0 s.records.attached) aims.None) s
    here now e true same out = can_detach l s false held.0 held.1 bounds h m (e ∙ ap Some (equal now held.1 same)) out
    here now e false same out = tt

    go : (o : Option ℕ) → block_with held.0 s.records.ranges ≡ o → not_lent (block_aimed (release_there held.0 held.1 o s.records.attached)) s.records.loans ≡ Ok tt → CanAim l.counter_max (release_there held.0 held.1 o s.records.attached) s
    go o e out = grind (arith, nat_tests, here)

-- ---- what each task needs

-- before a task: what is known of the state and of the task
pub record IsReady (l : Limits) (s : State) (task : Task) (did : Did) : Type 0 where
  pub bounds : IsWithinBounds l
  pub sound : AreRecordsSound l s.records
  pub sized : AreMemoriesSized l s
  pub few : s.records.births < 2 ^ 48
  pub known : IsKnown s.records task
  pub judged : IsJudged l task did s.records

says : (l : Limits) (s : State) (task : Task) (did : Did) → IsReady l s task did → IsJudgedTo l task did.step s.records
says l s task did h = task_says l h.judged.item task s.records did.step h.judged.step

-- what its step needs is not lent, and the queue of its transfer has room for it
has_free : (l : Limits) (s : State) (task : Task) (did : Did) → IsReady l s task did → IsStepFree l task did.step s.records
has_free l s task did h = (step_judged l h.judged.item task s.records did.step h.judged.step).free

-- and the block in which it detaches a pointer is not lent
has_detached : (l : Limits) (s : State) (task : Task) (did : Did) → IsReady l s task did → not_lent (block_detached task did.step s.records) s.records.loans ≡ Ok tt
has_detached l s task did h = (step_judged l h.judged.item task s.records did.step h.judged.step).detached

-- with the limits of the parts
sized_queue : (l : Limits) (x : WithHost) (task : Task) (did : Did) → AreSizedBy l x → IsReady l (bare_state x) task did → CanQueue task did.step x
sized_queue l x task did sized h = subst (λ n. room_for n (queue_of task) (transfer_of task did.step x.present.table.ranges) x.queues.queues ≡ Ok tt) (sym sized.queues) (has_free l (bare_state x) task did h).room

sized_step : (l : Limits) (x : WithHost) (s : State) (task : Task) (step : Step) → AreSizedBy l x → CanAct l.counter_max (device_memory l) task step s → CanAct x.present.table.counter_max x.device.memory task step s
sized_step l x s task step sized can = subst (λ n. CanAct x.present.table.counter_max n task step s) (sym sized.device) (subst (λ n. CanAct n (device_memory l) task step s) (sym sized.counters) can)

sized_aim : (l : Limits) (x : WithHost) (s : State) (aim : Aim) → AreSizedBy l x → CanAim l.counter_max aim s → CanAim x.attached.counter_max aim s
sized_aim l x s aim sized can = subst (λ n. CanAim n aim s) (sym sized.pointers) can

-- what is known of a task does not read the attachment counters
known_aimed : (w : Records) (aim : Aim) (task : Task) → IsKnown w task → IsKnown (records_aimed aim w) task
known_aimed w aim (ExitRegion holding) known = λ k e. let around : IsMappedAround w holding.item.section k = known k e in record { range = around.range; range_is = around.range_is; within = around.within }
known_aimed w aim _ known = tt

-- after a detachment the step can be done
can_leave : (l : Limits) (x : WithHost) (task : Task) (did : Did) → AreSizedBy l x → IsReady l (bare_state x) task did → CanAim l.counter_max did.aim (bare_state x) → AreRecordsSound l (records_aimed did.aim (bare_state x).records) → CanLeave x task did
unfolding aimed
can_leave l x task did sized h can later =
    let s : State = bare_state x in
    record {
      aim = sized_aim l x s did.aim sized can;
      step = sized_step l x (aimed did.aim s) task did.step sized
          (can_by l (aimed did.aim s) task did.step h.bounds later (aimed_sized l did.aim s h.sized) h.few (known_aimed s.records did.aim task h.known) (says_aimed l task did.step did.aim s.records (says l s task did h)));
      needed = (has_free l s task did h).needed;
      queue = sized_queue l x task did sized h;
    }

can_enter : (l : Limits) (x : WithHost) (counter : Counter) (item : Item RegionClause) (queue : Option ℕ) (did : Did) → AreSizedBy l x → IsReady l (bare_state x) (Enter counter item queue) did → CanEnter x (Enter counter item queue) did
unfolding step_state
can_enter l x counter item queue did sized h =
    let s : State = bare_state x in
    let task : Task = Enter counter item queue in
    record {
      step = sized_step l x s task did.step sized (can_by l s task did.step h.bounds h.sound h.sized h.few h.known (says l s task did h));
      aim = sized_aim l x (step_state task did.step s) did.aim sized
          (can_attach l (step_state task did.step s) (pointer_aimed task did.step) did.aim h.bounds (acted_sound l task did.step s.records h.bounds (says l s task did h) (has_free l s task did h) h.sound) (step_sized l task did.step s h.sized) h.judged.aim);
      needed = (has_free l s task did h).needed;
      queue = sized_queue l x task did sized h;
    }

can_of : (l : Limits) (x : WithHost) (task : Task) (did : Did) → AreSizedBy l x → IsReady l (bare_state x) task did → CanDo x task did
can_of l x (Enter counter item queue) did sized h = can_enter l x counter item queue did sized h
can_of l x (ExitRegion holding) did sized h = can_leave l x (ExitRegion holding) did sized h
    (subst (λ a. CanAim l.counter_max a (bare_state x)) (sym h.judged.aim) (can_release l (bare_state x) holding.aim h.bounds h.sound h.sized (has_detached l (bare_state x) (ExitRegion holding) did h))) (leave_sound l holding did (bare_state x).records h.sound h.judged.aim)
can_of l x (ExitData finalize item queue) did sized h = can_leave l x (ExitData finalize item queue) did sized h
    (subst (λ a. CanAim l.counter_max a (bare_state x)) (sym h.judged.aim) (can_judged l (bare_state x) finalize (pointer_aimed (ExitData finalize item queue) did.step) h.bounds h.sound h.sized (has_detached l (bare_state x) (ExitData finalize item queue) did h))) (exit_sound l finalize item queue did (bare_state x).records h.sound h.judged.aim)
can_of l x (Move if_present item queue) did sized h = can_leave l x (Move if_present item queue) did sized h
    (subst (λ a. CanAim l.counter_max a (bare_state x)) (sym h.judged.aim) tt) (move_sound l if_present item queue did (bare_state x).records h.sound h.judged.aim)

pub can_do : (l : Limits) (x : WithHost) (lent : ℕ) (task : Task) (did : Did) → IsWithinBounds l → ArePartsSound l x lent → x.device.births < 2 ^ 48
    → IsKnown (bare_state x).records task → IsJudged l task did (bare_state x).records → CanDo x task did
can_do l x lent task did bounds sound few known judged = search can_of

-- ---- what a task leaves

-- the records and the memories are sound after what the task is judged to do
done_sound : (l : Limits) (s : State) (task : Task) (did : Did) → IsWithinBounds l → AreRecordsSound l s.records → AreMemoriesSized l s → IsJudged l task did s.records
    → AreRecordsSound l (act_state task did s).records × AreMemoriesSized l (act_state task did s)
done_sound l s task did bounds h m judged = (
  subst (AreRecordsSound l) (sym (records-act_state task did s)) (task_left l task did s.records bounds h (task_says l judged.item task s.records did.step judged.step) (step_judged l judged.item task s.records did.step judged.step).free judged.aim).sound,
  act_sized l task did s m,
)

pub parts_sound : (l : Limits) (x y : WithHost) (lent : ℕ) (task : Task) (did : Did) → ArePartsSound l x lent → IsJudged l task did (bare_state x).records → IsDoneBy task did x y → ArePartsSound l y lent
parts_sound l x y lent task did sound judged done =
    let s : State = bare_state x in
    let after = done_sound l s task did sound.bounds sound.sound.records sound.sound.memories judged in
    changed_sound l (act_state task did) _ _ _ x y lent sound done after.0 after.1 (ap (λ (w : Records). w.loans) (records-act_state task did s) ∙ loans-act task did s.records)
