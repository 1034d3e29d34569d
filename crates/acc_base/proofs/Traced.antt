-- The attachment counters of every block are those of its device's events.
use Rattle.std.proofs.Common.{ℕ, suc, ◌≡◌, ◌+◌, ◌-◌, ◌<◌, ◌≤◌, refl, sym, ◌∙◌, ap, subst, Bool, true, false, cond, List, [], ◌∷◌, ◌++◌, Option, Some, None, arith}
use Rattle.std.specs.Prelude.{◌==◌, ◌&&◌, fold, unwrap_or, option_map, IsSome}
use Rattle.std.proofs.lemmas.Bool.Decides.{nat_tests}
use Rattle.acc_base.specs.Words.{Block, Attachment, Aim, Transfer, Task, Step, Did, Event}
use Rattle.acc_base.specs.declared.attachments.Aim.TheVariants as aims
use Rattle.acc_base.specs.declared.tasks.Task.TheVariants.{Enter, ExitRegion, ExitData, Move}
use Rattle.acc_base.specs.declared.events.Step.TheVariants.{Nothing, Counted, Born, Dropped, Moved}
use Rattle.acc_base.specs.declared.events.Event.TheVariants.{Lent, Gathered}
use Rattle.acc_base.specs.Limits.{Limits, IsWithinBounds}
use Rattle.acc_base.specs.Records.{Records, Layout}
use Rattle.acc_base.specs.Ranges.{bare_range, without_range}
use Rattle.acc_base.specs.Blocks.{block_at, without_block}
use Rattle.acc_base.specs.Attachments.{is_of, count_at, count_after, without_attachments}
use Rattle.acc_base.specs.Queues.{head_of, popped}
use Rattle.acc_base.specs.Tasks.{section_of, recounted}
use Rattle.acc_base.specs.Steps.{is_in_use, released, records_after_birth, records_after_end, with_range_changed, act_row, with_put, act_step, records_aimed, act, act_all}
use Rattle.acc_base.specs.Waits.{records_made, records_stepped, records_drained}
use Rattle.acc_base.specs.Walk.{asked_in, done_in, stepped_in, walk, loaned}
use Rattle.acc_base.specs.History.{attached_after, IsAimLegal, AreJudged, IsLegal}
use Rattle.acc_base.specs.Accounts.{AreRecordsSound}
use Rattle.acc_base.proofs.Results.{equal}
use Rattle.acc_base.proofs.Elements.{AllByRecursion-weaker, found_has, find-none}
use Rattle.acc_base.proofs.Lookups.{at-without_same, at-without_other}
use Rattle.acc_base.proofs.Attached.{same_block, count_at-attached_by, count_at-without_other}
use Rattle.acc_base.proofs.Judged.{IsJudgedTo, step_judged, task_says, IsStepFree}
use Rattle.acc_base.proofs.Memories.{recounted-block}
use Rattle.acc_base.proofs.Aimed.{IsAimThere, attach_block, leave_block, exit_block, leave_sound, exit_sound, move_sound, says_aimed, IsLeft, task_left}
use Rattle.acc_base.proofs.Puts.{acted_sound}

number_in : Block → ℕ
number_in b = b.number

-- a block that is there was born
born_before : (l : Limits) (w : Records) (k : ℕ) → AreRecordsSound l w → IsSome (block_at k w.blocks) → k ≤ w.births
born_before l w k h there = go (block_at k w.blocks) refl there
  where
    go : (o : Option Block) → block_at k w.blocks ≡ o → IsSome o → k ≤ w.births
    go None e p = cc
    go (Some b) e p =
        let has : (b.number ≤ w.births) × ((b.number == k) ≡ true) = found_has (λ (x : Block). x.number ≤ w.births) (λ x. x.number == k) w.blocks b h.blocks_apart.born e in
        let is : b.number ≡ k = equal _ _ has.1 in
        omega (arith, has.0)

-- a block that is not born yet has no attachment counter
count_at-unborn : (l : Limits) (w : Records) (block pointer : ℕ) → AreRecordsSound l w → w.births < block → count_at block pointer w.attached ≡ 0
count_at-unborn l w block pointer h later = ap (λ o. unwrap_or (option_map (λ (a : Attachment). a.count) o) 0) (find-none (is_of block pointer) w.attached
    (AllByRecursion-weaker (λ a. IsSome (block_at a.block w.blocks)) (λ a. is_of block pointer a ≡ false) w.attached (λ a there. go a there (is_of block pointer a) refl) h.attached.there))
  where
    go : (a : Attachment) → IsSome (block_at a.block w.blocks) → (b : Bool) → is_of block pointer a ≡ b → is_of block pointer a ≡ false
    go a there true e = let is : a.block ≡ block = same_block block pointer a e in absurd (omega (arith, born_before l w a.block h there))
    go a there false e = e

-- the counters of the blocks that are there are these, and a block that is not born yet has none
pub record ArePointersTold (pointers : ℕ → ℕ → ℕ) (w : Records) : Type 0 where
  pub there : (block pointer : ℕ) → IsSome (block_at block w.blocks) → count_at block pointer w.attached ≡ pointers block pointer
  pub unborn : (block pointer : ℕ) → w.births < block → pointers block pointer ≡ 0

-- ---- a step leaves the counters of the blocks that are there after it

-- a block of another number does not hide one
at-push_other : (block : ℕ) (bs : List Block) (b : Block) → (b.number == block) ≡ false → block_at block (bs ++ b ∷ []) ≡ block_at block bs
at-push_other block [] b e = rw e refl
at-push_other block (x ∷ bs) b e = step (x.number == block) (at-push_other block bs b e)
  where
    step : (t : Bool) → block_at block (bs ++ b ∷ []) ≡ block_at block bs → cond t (Some x) (block_at block (bs ++ b ∷ [])) ≡ cond t (Some x) (block_at block bs)
    step true rest = refl
    step false rest = rest

born_told : (l : Limits) (task : Task) (k p : ℕ) (w : Records) (pointers : ℕ → ℕ → ℕ) → k ≡ w.births + 1 → AreRecordsSound l w → ArePointersTold pointers w → ArePointersTold pointers (records_after_birth (recounted task (bare_range (section_of task) k)) p w)
unfolding records_after_birth number_in
born_told l task k p w pointers number sound h = record {
  there = λ block pointer there. go block pointer there (k == block) refl (block_at block w.blocks) refl;
  unborn = λ block pointer later. h.unborn block pointer (omega arith);
}
  where
    new : Block
    new = record { number = (recounted task (bare_range (section_of task) k)).block; place = p; len = (recounted task (bare_range (section_of task) k)).section.len }

    go : (block pointer : ℕ) → IsSome (block_at block (w.blocks ++ new ∷ [])) → (b : Bool) → (k == block) ≡ b → (o : Option Block) → block_at block w.blocks ≡ o → count_at block pointer w.attached ≡ pointers block pointer
    go block pointer there b same (Some old) e = h.there block pointer (rw e refl)
    go block pointer there true same None e =
        let is : k ≡ block = equal _ _ same in
        let later : w.births < block = omega arith in
        count_at-unborn l w block pointer sound later ∙ sym (h.unborn block pointer later)
    go block pointer there false same None e =
        let other : (new.number == block) ≡ false = ap (λ n. n == block) (recounted-block task (bare_range (section_of task) k)) ∙ same in
        let none : block_at block (w.blocks ++ new ∷ []) ≡ None = at-push_other block w.blocks new other ∙ e in
        cc

-- a block that is given back has no counter
released_told : (k : ℕ) (w : Records) (pointers : ℕ → ℕ → ℕ) → ArePointersTold pointers w → ArePointersTold pointers (released k w)
unfolding released number_in
released_told k w pointers h = go (is_in_use k w)
  where
    gone : (block pointer : ℕ) → IsSome (block_at block (without_block k w.blocks)) → (b : Bool) → (block == k) ≡ b → count_at block pointer (without_attachments k w.attached) ≡ pointers block pointer
    gone block pointer there true same =
        let is : block ≡ k = equal _ _ same in
        let none : block_at block (without_block k w.blocks) ≡ None = ap (λ n. block_at n (without_block k w.blocks)) is ∙ at-without_same number_in k w.blocks in
        cc
    gone block pointer there false same = count_at-without_other block pointer k w.attached same ∙ h.there block pointer (rw (← at-without_other number_in k block w.blocks same) there)

    go : (t : Bool) → ArePointersTold pointers (record w { blocks = cond t w.blocks (without_block k w.blocks); attached = cond t w.attached (without_attachments k w.attached) })
    go true = record { there = h.there; unborn = h.unborn }
    go false = record { there = λ block pointer there. gone block pointer there (block == k) refl; unborn = h.unborn }

-- the end of a mapping, and a transfer that is made
end_told : (k : ℕ) (w : Records) (pointers : ℕ → ℕ → ℕ) → ArePointersTold pointers w → ArePointersTold pointers (records_after_end k w)
unfolding records_after_end
end_told k w pointers h = released_told k (record w { ranges = without_range k w.ranges }) pointers (record { there = h.there; unborn = h.unborn })

stepped_told : (q : ℕ) (w : Records) (pointers : ℕ → ℕ → ℕ) → ArePointersTold pointers w → ArePointersTold pointers (records_stepped q w)
unfolding records_stepped
stepped_told q w pointers h = go (head_of q w.queues)
  where
    go : (o : Option Transfer) → ArePointersTold pointers (records_made q o w)
    go None = h
    go (Some t) = released_told t.block (record w { queues = popped q w.queues }) pointers (record { there = h.there; unborn = h.unborn })

drained_told : (qs : List ℕ) (w : Records) (pointers : ℕ → ℕ → ℕ) → ArePointersTold pointers w → ArePointersTold pointers (records_drained qs w)
unfolding records_drained
drained_told [] w pointers h = h
drained_told (q ∷ qs) w pointers h = drained_told qs (records_stepped q w) pointers (stepped_told q w pointers h)

-- a transfer that is put into a queue
put_told : (task : Task) (step : Step) (w : Records) (pointers : ℕ → ℕ → ℕ) → ArePointersTold pointers w → ArePointersTold pointers (with_put task step w)
put_told task step w pointers h = record { there = h.there; unborn = h.unborn }

step_told : (l : Limits) (task : Task) (step : Step) (w : Records) (pointers : ℕ → ℕ → ℕ) → AreRecordsSound l w → IsJudgedTo l task step w → ArePointersTold pointers w → ArePointersTold pointers (act_step task step w)
unfolding act_step act_row with_range_changed records_after_birth
step_told l task Nothing w pointers sound says h = put_told task Nothing w pointers h
step_told l task (Counted k) w pointers sound says h = record { there = h.there; unborn = h.unborn }
step_told l (Enter counter item queue) (Born k p) w pointers sound says h = put_after (born_told l (Enter counter item queue) k p w pointers says.number sound h)
  where
    put_after : ArePointersTold pointers (records_after_birth (recounted (Enter counter item queue) (bare_range (section_of (Enter counter item queue)) k)) p w) → ArePointersTold pointers (act_step (Enter counter item queue) (Born k p) w)
    put_after t = record { there = t.there; unborn = t.unborn }
step_told l task (Dropped k true) w pointers sound says h = end_told k (with_put task (Dropped k true) w) pointers (put_told task (Dropped k true) w pointers h)
step_told l task (Dropped k false) w pointers sound says h = record { there = h.there; unborn = h.unborn }
step_told l task (Moved k) w pointers sound says h = put_told task (Moved k) w pointers h
step_told l _ (Born k p) w pointers sound says h = absurd says

-- ---- an attachment or a detachment leaves the counters that it says

aim_told : (l : Limits) (aim : Aim) (w : Records) (pointers : ℕ → ℕ → ℕ) → AreRecordsSound l w → IsAimThere w.blocks aim → ArePointersTold pointers w → ArePointersTold (λ block pointer. count_after block pointer aim (pointers block pointer)) (records_aimed aim w)
aim_told l aim w pointers sound named h = record {
  there = λ block pointer there. count_at-attached_by block pointer aim w.attached ∙ ap (count_after block pointer aim) (h.there block pointer there);
  unborn = λ block pointer later. go block pointer later aim named;
}
  where
    other : (block pointer k p count : ℕ) → w.births < block → IsSome (block_at k w.blocks) → cond (k == block && p == pointer) count (pointers block pointer) ≡ 0
    other block pointer k p count later there =
        let born : k ≤ w.births = born_before l w k sound there in
        let differs : (k == block) ≡ false = grind (arith, nat_tests) in
        rw differs (h.unborn block pointer later)

    go : (block pointer : ℕ) → w.births < block → (a : Aim) → IsAimThere w.blocks a → count_after block pointer a (pointers block pointer) ≡ 0
    go block pointer later aims.None there = h.unborn block pointer later
    go block pointer later (aims.New p k target) there = other block pointer k p 1 later (there k refl)
    go block pointer later (aims.Again p k) there = other block pointer k p (pointers block pointer + 1) later (there k refl)
    go block pointer later (aims.Less p k) there = other block pointer k p (pointers block pointer - 1) later (there k refl)
    go block pointer later (aims.Cleared p k) there = other block pointer k p 0 later (there k refl)

-- ---- tasks and events

-- the counters after a task, by what it did
abbrev told_after : Did → (ℕ → ℕ → ℕ) → ℕ → ℕ → ℕ
told_after did pointers block pointer = count_after block pointer did.aim (pointers block pointer)

-- a step after a detachment
then_told : (l : Limits) (task : Task) (did : Did) (w : Records) (pointers : ℕ → ℕ → ℕ) → AreRecordsSound l w → AreRecordsSound l (records_aimed did.aim w) → IsAimThere w.blocks did.aim → IsJudgedTo l task did.step w → ArePointersTold pointers w
    → ArePointersTold (told_after did pointers) (act_step task did.step (records_aimed did.aim w))
then_told l task did w pointers sound aimed there says h = step_told l task did.step (records_aimed did.aim w) (told_after did pointers) aimed (says_aimed l task did.step did.aim w says) (aim_told l did.aim w pointers sound there h)

task_told : (l : Limits) (task : Task) (did : Did) (w : Records) (pointers : ℕ → ℕ → ℕ) → IsWithinBounds l → AreRecordsSound l w → IsJudgedTo l task did.step w → IsStepFree l task did.step w → IsAimLegal l task did w → ArePointersTold pointers w → ArePointersTold (told_after did pointers) (act task did w)
unfolding act
task_told l (Enter counter item queue) did w pointers bounds sound says free legal h =
    let v : Records = act_step (Enter counter item queue) did.step w in
    let stepped : AreRecordsSound l v = acted_sound l (Enter counter item queue) did.step w bounds says free sound in
    aim_told l did.aim v pointers stepped (attach_block l _ did.aim v stepped legal) (step_told l (Enter counter item queue) did.step w pointers sound says h)
task_told l (ExitRegion holding) did w pointers bounds sound says free legal h =
    then_told l (ExitRegion holding) did w pointers sound (leave_sound l holding did w sound legal) (subst (IsAimThere w.blocks) (sym legal) (leave_block l holding.aim w sound)) says h
task_told l (ExitData finalize item queue) did w pointers bounds sound says free legal h =
    then_told l (ExitData finalize item queue) did w pointers sound (exit_sound l finalize item queue did w sound legal) (subst (IsAimThere w.blocks) (sym legal) (exit_block l finalize _ w sound)) says h
task_told l (Move if_present item queue) did w pointers bounds sound says free legal h =
    then_told l (Move if_present item queue) did w pointers sound (move_sound l if_present item queue did w sound legal) (subst (IsAimThere w.blocks) (sym legal) (λ k e. cc)) says h

tasks_told : (l : Limits) (n : ℕ) (tasks : List Task) (dids : List Did) (w : Records) (pointers : ℕ → ℕ → ℕ) → IsWithinBounds l → AreRecordsSound l w → AreJudged l n tasks dids w → ArePointersTold pointers w
    → ArePointersTold (λ block pointer. fold (λ m d. count_after block pointer d.aim m) (pointers block pointer) dids) (act_all tasks dids w)
unfolding act_all
tasks_told l n [] [] w pointers bounds sound judged h = h
tasks_told l n (task ∷ tasks) (did ∷ dids) w pointers bounds sound judged h =
    let says : IsJudgedTo l task did.step w = task_says l n task w did.step judged.0 in
    let free : IsStepFree l task did.step w = (step_judged l n task w did.step judged.0).free in
    let left : IsLeft l task did w (act task did w) = task_left l task did w bounds sound says free judged.1 in
    tasks_told l (suc n) tasks dids (act task did w) (told_after did pointers) bounds left.sound judged.2 (task_told l task did w pointers bounds sound says free judged.1 h)
tasks_told l n _ _ w pointers bounds sound judged h = absurd judged

-- lending and gathering leave the attachment counters
loaned_told : (e : Event) (w : Records) (pointers : ℕ → ℕ → ℕ) → ArePointersTold pointers w → ArePointersTold pointers (loaned e w)
unfolding loaned
loaned_told (Lent device region section block serial) w pointers h = record { there = h.there; unborn = h.unborn }
loaned_told (Gathered device serial block bytes) w pointers h = record { there = h.there; unborn = h.unborn }
loaned_told _ w pointers h = h

-- an event gives the attachment counters of its device
pub event_pointed : (l : Limits) (e : Event) (lay : Layout) (pointers : ℕ → ℕ → ℕ) → IsWithinBounds l → AreRecordsSound l lay.records → IsLegal l e lay → ArePointersTold pointers lay.records
    → ArePointersTold (λ block pointer. attached_after block pointer (pointers block pointer) e) (walk e lay).records
unfolding walk
event_pointed l e lay pointers bounds sound legal h =
    let tasks : List Task = asked_in e lay.register in
    let qs : List ℕ = stepped_in e lay.records.queues in
    let v : Records = act_all tasks (done_in e) lay.records in
    let told : ArePointersTold (λ block pointer. attached_after block pointer (pointers block pointer) e) (records_drained qs v)
    = drained_told qs v (λ block pointer. attached_after block pointer (pointers block pointer) e) (tasks_told l 0 tasks (done_in e) lay.records pointers bounds sound legal.judged h) in
    loaned_told e (records_drained qs v) (λ block pointer. attached_after block pointer (pointers block pointer) e) told

-- records agree with their own counters
pub own_pointers_told : (l : Limits) (w : Records) → AreRecordsSound l w → ArePointersTold (λ block pointer. count_at block pointer w.attached) w
own_pointers_told l w sound = record {
  there = λ block pointer there. refl;
  unborn = λ block pointer later. count_at-unborn l w block pointer sound later;
}
