-- What an attached pointer holds on the device after entries is what the fold over them gives.
use Rattle.std.proofs.lemmas.Bool.Decides.{nat_tests}
use Rattle.std.proofs.Common.{ℕ, ◌≡◌, ◌+◌, ◌<◌, ◌≤◌, ◌^◌, refl, sym, ap, ◌∙◌, subst, Bool, true, false, cond, ◌&&◌, List, [], ◌∷◌, suc, Option, Some, None, Ok, arith}
use Rattle.std.specs.Prelude.{◌==◌, ◌%◌, IsSome}
use Rattle.std.specs.List.{list_all, AllByRecursion}
use Rattle.std.proofs.lemmas.Bool.{false≢true, not-false}
use Rattle.acc_clauses.specs.Words.{Item, RegionClause, Counter, Range, Block, Attachment, Aim, Task, Step, Did}
use Rattle.acc_base.specs.declared.attachments.Aim.TheVariants as aims
use Rattle.acc_base.specs.declared.tasks.Task.TheVariants.{Enter}
use Rattle.acc_base.specs.declared.events.Step.TheVariants.{Nothing, Counted, Born}
use Rattle.acc_base.specs.Limits.{Limits, IsWithinBounds}
use Rattle.acc_base.specs.Records.{Records, Memory, State}
use Rattle.acc_base.specs.Ranges.{start_of, changed_at}
use Rattle.acc_base.specs.Blocks.{block_at}
use Rattle.acc_base.specs.Attachments.{count_at, attached_by}
use Rattle.acc_base.specs.Clauses.{pointer_checked}
use Rattle.acc_base.specs.Tasks.{recounted}
use Rattle.acc_base.specs.Transfers.{at_once}
use Rattle.acc_base.specs.Steps.{pointer_aimed, judge_row, judge_step, records_after_birth, with_range_changed, act_row, act_step, act, act_all}
use Rattle.acc_base.specs.Bytes.{bytes_of, memories_made, step_state}
use Rattle.acc_base.specs.Detaching.{block_with}
use Rattle.acc_base.specs.Loans.{is_lent}
use Rattle.acc_base.specs.Pointers.{pointer_in, device_pointer, aimed}
use Rattle.acc_base.specs.Acting.{act_state, act_all_state}
use Rattle.acc_base.specs.History.{IsAttachLegal, IsAimLegal, AreJudged}
use Rattle.acc_base.specs.Accounts.{AreRecordsSound, AreMemoriesSized}
use Rattle.acc_base.proofs.Results.{and_true, equal, then_ok, refused_not}
use Rattle.acc_base.proofs.Counting.{changed_read, with_other}
use Rattle.acc_base.proofs.Judged.{IsJudgedTo, step_judged, task_says}
use Rattle.acc_base.proofs.Sound.{recounted_keeps}
use Rattle.acc_base.proofs.Puts.{acted_sound}
use Rattle.acc_base.proofs.Attached.{count_at-attached_by, count_at-with_count_other}
use Rattle.acc_base.proofs.Memories.{step_sized, act_sized}
use Rattle.acc_base.proofs.Aimed.{task_left}
use Rattle.acc_base.proofs.Walked.{records-act_state, records-act_all_state}
use Rattle.acc_clauses.specs.declared.acted.Acted.{Acted}
use Rattle.acc_clauses.specs.Overlays.{tasks_in, dids_in, records_after, state_after, enters, IsPlanned}
use Rattle.acc_clauses.specs.Aims.{value_by, value_over}
use Rattle.acc_clauses.proofs.Moving.{bytes_of-len}
use Rattle.acc_clauses.proofs.AimsPlaced.{no_block-new}
use Rattle.acc_clauses.proofs.AimsFound.{pointer_in_block, before-after, target_bound}
use Rattle.acc_clauses.proofs.AimsWritten.{target_byte, pointer-other, pointer-same, bytes-other, bytes-same, bytes-push}

-- ---- what is attached is there

there_by : (blocks : List Block) (block pointer : ℕ) (xs : List Attachment) → AllByRecursion (λ a. IsSome (block_at a.block blocks)) xs → (count_at block pointer xs ≡ 0 → ⊥) → IsSome (block_at block blocks)
there_by blocks block pointer [] h some = absurd (some refl)
there_by blocks block pointer (x ∷ xs) h some = grind (arith, nat_tests, there_by blocks block pointer xs h.1)

-- a block with an attached pointer is there
pub counted_there : (l : Limits) (w : Records) (block pointer : ℕ) → AreRecordsSound l w → (count_at block pointer w.attached ≡ 0 → ⊥) → IsSome (block_at block w.blocks)
counted_there l w block pointer h some = there_by w.blocks block pointer w.attached h.attached.there some

-- ---- a pointer that is named was checked

pub aligned : (l : Limits) (n pointer : ℕ) → pointer_checked l n (Some pointer) ≡ Ok tt → pointer % 8 ≡ 0
aligned l n pointer e = equal _ _ (not-false _ (refused_not _ _ (then_ok _ _ tt e).1))

named_aligned : (l : Limits) (n : ℕ) (counter : Counter) (item : Item RegionClause) (queue : Option ℕ) (step : Step) (w : Records) (p : ℕ) → judge_step l n (Enter counter item queue) w ≡ Ok step → pointer_aimed (Enter counter item queue) step ≡ Some p → p % 8 ≡ 0
unfolding judge_row
named_aligned l n counter item queue step w p judged e = grind (arith, nat_tests, then_ok, step_judged l n (Enter counter item queue) w step judged)

-- ---- a step of an entry leaves the blocks that are there

abbrev range_start : Range → ℕ
range_start r = r.section.start

start-changed : (task : Task) (k block : ℕ) (ranges : List Range) → start_of block (changed_at k (recounted task) ranges) ≡ start_of block ranges
start-changed task k block ranges = grind (arith, nat_tests, changed_read range_start (recounted task) (λ n. n) (recounted_keeps task).block (λ r. ap (λ s. s.start) ((recounted_keeps task).section r)) k block ranges (λ none. refl))

holds_same : (pointer first second : ℕ) (xs ys : List ℕ) → first ≡ second → xs ≡ ys → pointer_in first pointer xs ≡ pointer_in second pointer ys
holds_same pointer first second xs ys e f = rw (e, f) refl

-- where nothing is moved, nothing is made
no_memory_made : (queue : Option ℕ) (attached : List Attachment) (host : List ℕ) (ms : List Memory) → memories_made (at_once queue None) attached host ms ≡ ms
no_memory_made queue attached host ms = grind (arith, nat_tests)

holds-step : (l : Limits) (counter : Counter) (item : Item RegionClause) (queue : Option ℕ) (step : Step) (s : State) (block pointer : ℕ) → AreRecordsSound l s.records → IsJudgedTo l (Enter counter item queue) step s.records → IsSome (block_at block s.records.blocks)
    → device_pointer block pointer (step_state (Enter counter item queue) step s) ≡ device_pointer block pointer s
unfolding step_state act_step act_row with_range_changed records_after_birth
holds-step l counter item queue Nothing s block pointer h says there = holds_same pointer (start_of block s.records.ranges) _ _ _ refl (ap (bytes_of block) (no_memory_made queue s.records.attached s.host s.memories))
holds-step l counter item queue (Counted k) s block pointer h says there = holds_same pointer _ _ _ _ (start-changed (Enter counter item queue) k block s.records.ranges) (ap (bytes_of block) (no_memory_made queue s.records.attached s.host s.memories))
holds-step l counter item queue (Born k p) s block pointer h says there = grind (arith, nat_tests, holds_same, with_other, recounted_keeps, equal, no_block-new l s.records k h says.number, bytes-other, bytes-push)
holds-step l counter item queue _ s block pointer h says there = absurd says

-- ---- an attachment

-- where the pointer is attached in the block, it holds this on the device
abbrev pub Holds : ℕ → ℕ → ℕ → State → Type 0
Holds block pointer value s = (count_at block pointer s.records.attached ≡ 0 → ⊥) → device_pointer block pointer s ≡ value

-- the block's range begins at the pointer or below it, where the block is there
abbrev pub StartsBelow : ℕ → ℕ → Records → Type 0
StartsBelow block pointer w = IsSome (block_at block w.blocks) → start_of block w.ranges ≤ pointer

module _ (l : Limits) (block pointer : ℕ) (even : pointer % 8 ≡ 0) (s : State) (bounds : IsWithinBounds l) (sound : AreRecordsSound l s.records) (sized : AreMemoriesSized l s) (above : StartsBelow block pointer s.records) where
  -- the pointer itself is written
  new_same : (target : ℕ) → target < 2 ^ 64 → block_with pointer s.records.ranges ≡ Some block → is_lent block s.records.loans ≡ false → device_pointer block pointer (aimed (aims.New pointer block target) s) ≡ target
  unfolding aimed
  new_same target below there free = grind (arith, nat_tests, pointer_in_block l s.records block pointer sound there, bytes_of-len, bytes-same, target_byte target pointer, pointer-same)

  -- another pointer of the block is
  new_beside : (p target : ℕ) → p % 8 ≡ 0 → (p == pointer) ≡ false → IsSome (block_at block s.records.blocks) → device_pointer block pointer (aimed (aims.New p block target) s) ≡ device_pointer block pointer s
  unfolding aimed
  new_beside p target e differs there = grind (arith, nat_tests, bytes-same, target_byte, pointer-other)

  -- a pointer of another block is
  new_other : (p b target : ℕ) → (b == block) ≡ false → device_pointer block pointer (aimed (aims.New p b target) s) ≡ device_pointer block pointer s
  unfolding aimed
  new_other p b target differs = grind (arith, nat_tests, bytes-other)

  -- what is attached after an attachment of another pointer was before it
  count_other : (p b target : ℕ) → (b == block && p == pointer) ≡ false → (count_at block pointer (attached_by (aims.New p b target) s.records.attached) ≡ 0 → ⊥) → count_at block pointer s.records.attached ≡ 0 → ⊥
  count_other p b target differs some none = some (count_at-with_count_other block pointer b p 1 s.records.attached differs ∙ none)

  holds-new : (p b target value : ℕ) → p % 8 ≡ 0 → target < 2 ^ 64 → block_with p s.records.ranges ≡ Some b → is_lent b s.records.loans ≡ false → Holds block pointer value s → Holds block pointer (value_by block pointer value (aims.New p b target)) (aimed (aims.New p b target) s)
  unfolding aimed
  holds-new p b target value e below there free h some = go (b == block) refl (p == pointer) refl
    where
      before : (b == block && p == pointer) ≡ false → count_at block pointer s.records.attached ≡ 0 → ⊥
      before differs = count_other p b target differs some

      go : (t : Bool) → (b == block) ≡ t → (u : Bool) → (p == pointer) ≡ u → device_pointer block pointer (aimed (aims.New p b target) s) ≡ cond (t && u) target value
      go true f true g =
          let b_is : b ≡ block = equal b block f in
          let p_is : p ≡ pointer = equal p pointer g in
          let here : block_with pointer s.records.ranges ≡ Some block = ap (λ n. block_with n s.records.ranges) (sym p_is) ∙ (there ∙ ap Some b_is) in
          rw (b_is, p_is) (new_same target below here (subst (λ k. is_lent k s.records.loans ≡ false) b_is free))
      go true f false g =
          let b_is : b ≡ block = equal b block f in
          let differs : (b == block && p == pointer) ≡ false = rw (f, g) refl in
          let count = before differs in
          rw b_is (new_beside p target e g (counted_there l s.records block pointer sound count)) ∙ h count
      go false f u g =
          let differs : (b == block && p == pointer) ≡ false = rw f refl in
          new_other p b target f ∙ h (before differs)

  holds-again : (p b value : ℕ) → 0 < count_at b p s.records.attached → Holds block pointer value s → Holds block pointer value (aimed (aims.Again p b) s)
  unfolding aimed
  holds-again p b value more h some = h (λ none. some (count_at-attached_by block pointer (aims.Again p b) s.records.attached ∙ go (b == block) refl (p == pointer) refl none))
    where
      go : (t : Bool) → (b == block) ≡ t → (u : Bool) → (p == pointer) ≡ u → count_at block pointer s.records.attached ≡ 0 → cond (t && u) (count_at block pointer s.records.attached + 1) (count_at block pointer s.records.attached) ≡ 0
      go t f u g none = grind (arith, nat_tests)

  pub holds-aim : (named : Option ℕ) (aim : Aim) (value : ℕ) → ((p : ℕ) → named ≡ Some p → p % 8 ≡ 0) → IsAttachLegal l named aim s.records → Holds block pointer value s → Holds block pointer (value_by block pointer value aim) (aimed aim s)
  unfolding aimed
  holds-aim named aims.None value evens legal h = h
  holds-aim named (aims.New p b target) value evens legal h = grind (arith, nat_tests, target_bound l s.records target bounds sound legal.3, holds-new)
  holds-aim named (aims.Again p b) value evens legal h = holds-again p b value legal.3 h
  holds-aim named _ value evens legal h = absurd legal

-- ---- entries

attached-step : (l : Limits) (counter : Counter) (item : Item RegionClause) (queue : Option ℕ) (step : Step) (w : Records) → IsJudgedTo l (Enter counter item queue) step w → (act_step (Enter counter item queue) step w).attached ≡ w.attached
unfolding act_step act_row with_range_changed records_after_birth
attached-step l counter item queue step w says = grind (arith, nat_tests)

holds-act : (l : Limits) (n block pointer value : ℕ) (task : Task) (did : Did) (s : State) → IsWithinBounds l → AreRecordsSound l s.records → AreMemoriesSized l s → judge_step l n task s.records ≡ Ok did.step → IsAimLegal l task did s.records → enters task ≡ true
    → pointer % 8 ≡ 0 → StartsBelow block pointer (act task did s.records) → Holds block pointer value s → Holds block pointer (value_by block pointer value did.aim) (act_state task did s)
unfolding act act_state step_state
holds-act l n block pointer value (Enter counter item queue) did s bounds h sized judged legal entry even above holds =
    let task : Task = Enter counter item queue in
    let says = task_says l n task s.records did.step judged in
    let stepped : State = step_state task did.step s in
    holds-aim l block pointer even stepped bounds (acted_sound l task did.step s.records bounds says (step_judged l n task s.records did.step judged).free h) (step_sized l task did.step s sized) above
    (pointer_aimed task did.step) did.aim value (λ p e. named_aligned l n counter item queue did.step s.records p judged e) legal
    (λ some. holds-before says some)
  where
    holds-before : IsJudgedTo l (Enter counter item queue) did.step s.records → (count_at block pointer (act_step (Enter counter item queue) did.step s.records).attached ≡ 0 → ⊥) → device_pointer block pointer (step_state (Enter counter item queue) did.step s) ≡ value
    holds-before says some =
        let count : count_at block pointer s.records.attached ≡ 0 → ⊥ = (λ none. some (ap (count_at block pointer) (attached-step l counter item queue did.step s.records says) ∙ none)) in
        holds-step l counter item queue did.step s block pointer h says (counted_there l s.records block pointer h count) ∙ holds count
holds-act l n block pointer value _ did s bounds h sized judged legal entry even above holds = absurd (false≢true entry)

-- a pointer that lies in the block after entries
pub holds-after : (l : Limits) (n block pointer value : ℕ) (xs : List Acted) (s : State) → IsWithinBounds l → AreRecordsSound l s.records → AreMemoriesSized l s → AreJudged l n (tasks_in xs) (dids_in xs) s.records → list_all enters (tasks_in xs) ≡ true
    → pointer % 8 ≡ 0 → block_with pointer (records_after xs s.records).ranges ≡ Some block → Holds block pointer value s → Holds block pointer (value_over block pointer value xs) (state_after xs s)
unfolding act_all act_all_state
holds-after l n block pointer value [] s bounds h sized judged entries even there holds = holds
holds-after l n block pointer value (x ∷ xs) s bounds h sized judged entries even there holds =
    let w : Records = act x.task x.did s.records in
    let next : State = act_state x.task x.did s in
    let is : next.records ≡ w = records-act_state x.task x.did s in
    let says = task_says l n x.task s.records x.did.step judged.0 in
    let kinds = and_true (enters x.task) (list_all enters (tasks_in xs)) entries in
    let sound : AreRecordsSound l w = (task_left l x.task x.did s.records bounds h says (step_judged l n x.task s.records x.did.step judged.0).free judged.1).sound in
    let above : StartsBelow block pointer w = (λ here. (pointer_in_block l w block pointer sound (before-after l (suc n) xs w pointer block bounds sound judged.2 kinds.1 here there)).low) in
    holds-after l (suc n) block pointer (value_by block pointer value x.did.aim) xs next bounds (subst (AreRecordsSound l) (sym is) sound) (act_sized l x.task x.did s sized)
    (subst (AreJudged l (suc n) (tasks_in xs) (dids_in xs)) (sym is) judged.2) kinds.1 even (subst (λ v. block_with pointer (records_after xs v).ranges ≡ Some block) (sym is) there)
    (holds-act l n block pointer value x.task x.did s bounds h sized judged.0 judged.1 kinds.0 even above holds)

-- what is read of it before them gives what it holds after them, where it is attached then
pub value-planned : (l : Limits) (block pointer value : ℕ) (xs : List Acted) (s : State) → IsPlanned l xs s.records → AreMemoriesSized l s → list_all enters (tasks_in xs) ≡ true → pointer % 8 ≡ 0
    → block_with pointer (records_after xs s.records).ranges ≡ Some block → (block_with pointer s.records.ranges ≡ Some block → value ≡ device_pointer block pointer s)
    → (count_at block pointer (records_after xs s.records).attached ≡ 0 → ⊥) → value_over block pointer value xs ≡ device_pointer block pointer (state_after xs s)
value-planned l block pointer value xs s p sized entries even there read some =
    let holds : Holds block pointer value s = (λ count. sym (read (before-after l 0 xs s.records pointer block p.bounds p.sound p.judged entries (counted_there l s.records block pointer p.sound count) there))) in
    sym (holds-after l 0 block pointer value xs s p.bounds p.sound sized p.judged entries even there holds
    (λ none. some (ap (λ (w : Records). count_at block pointer w.attached) (sym (records-act_all_state (tasks_in xs) (dids_in xs) s)) ∙ none)))
