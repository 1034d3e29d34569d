-- What attaching and detaching a pointer leaves: the records stay sound, and memories keep their lengths.
use Rattle.std.proofs.Common.{ℕ, ◌≡◌, ◌+◌, ◌-◌, ◌≤◌, refl, sym, ◌∙◌, ap, subst, Bool, true, false, cond, List, Option, Some, None, arith}
use Rattle.std.specs.Prelude.{◌==◌, IsSome}
use Rattle.std.specs.List.{AllByRecursion}
use Rattle.acc_base.specs.Words.{Range, Block, Found, Attachment, Aim, Item, ExitClause, UpdateClause, Counter, Holding, Task, Step, Did}
use Rattle.acc_base.specs.declared.mappings.Found.TheVariants.{Inside}
use Rattle.acc_base.specs.declared.attachments.Aim.TheVariants as aims
use Rattle.acc_base.specs.declared.tasks.Task.TheVariants.{Enter, ExitRegion, ExitData, Move}
use Rattle.acc_base.specs.declared.events.Step.TheVariants.{Nothing, Counted, Born, Dropped, Moved}
use Rattle.acc_base.specs.Limits.{Limits, IsWithinBounds}
use Rattle.acc_base.specs.Ranges.{where_is, counter_of}
use Rattle.acc_base.specs.Blocks.{block_at}
use Rattle.acc_base.specs.Attachments.{pointer_at, count_at, with_attachment, without_attachment, with_count, detach, attached_by}
use Rattle.acc_base.specs.Records.{Records}
use Rattle.acc_base.specs.Detaching.{block_aimed, block_in, block_with, detach_there, judge_detach, release_there, judge_release}
use Rattle.acc_base.specs.Steps.{pointer_aimed, records_aimed, act_step, act}
use Rattle.acc_base.specs.Detaching.{detach_if}
use Rattle.acc_base.specs.History.{IsAttachLegal, IsAimLegal}
use Rattle.acc_base.specs.Accounts.{IsMapped, AreAttachmentsSound, AreRecordsSound}
use Rattle.acc_base.proofs.Results.{equal}
use Rattle.acc_base.proofs.Elements.{AllByRecursion-filter, found_has}
use Rattle.acc_base.proofs.InPlace.{all-put}
use Rattle.acc_base.proofs.Where.{IsInsideOf, inside_says}
use Rattle.acc_base.proofs.Attached.{put_attachment, rising-attached_by, rising-with_count, counted-with_count, detached_within}
use Rattle.acc_base.proofs.Judged.{IsJudgedTo, IsStepFree}
use Rattle.acc_base.proofs.Puts.{acted_sound}
use Rattle.acc_base.proofs.Recounted.{moved_by, names, counter-act}

-- ---- the block of a pointer is there

-- a block is there that some range is mapped to
mapped_there : (l : Limits) (w : Records) (pointer block : ℕ) → AreRecordsSound l w → block_with pointer w.ranges ≡ Some block → IsSome (block_at block w.blocks)
mapped_there l w pointer block h e = go (where_is (pointer_at pointer) w.ranges) refl e
  where
    go : (f : Found) → where_is (pointer_at pointer) w.ranges ≡ f → block_in f ≡ Some block → IsSome (block_at block w.blocks)
    go (Inside b offset) is k =
        let same : b ≡ block = cc in
        let found : (r : Range) × IsInsideOf (pointer_at pointer) w.ranges b offset r = inside_says (pointer_at pointer) w.ranges b offset is in
        let mapped : IsMapped w.blocks found.0 × _ = found_has (IsMapped w.blocks) _ w.ranges found.0 h.one_block_each.mapped found.1.around in
        rw (← same, ← found.1.block_is, mapped.0.1) refl
    go _ is k = cc

-- the block of each attachment counter is there
abbrev AreThere : List Block → List Attachment → Type 0
AreThere blocks attached = AllByRecursion (λ a. IsSome (block_at a.block blocks)) attached

there-with : (blocks : List Block) (new : Attachment) (xs : List Attachment) → IsSome (block_at new.block blocks) → AreThere blocks xs → AreThere blocks (with_attachment new xs)
there-with blocks new xs n h = all-put (put_attachment new) (λ a. IsSome (block_at a.block blocks)) xs n h

there-with_count : (blocks : List Block) (block pointer count : ℕ) (xs : List Attachment) → IsSome (block_at block blocks) → AreThere blocks xs → AreThere blocks (with_count block pointer count xs)
there-with_count blocks block pointer count xs n h = go (count == 0)
  where
    left : AreThere blocks (without_attachment block pointer xs)
    left = AllByRecursion-filter (λ a. IsSome (block_at a.block blocks)) _ xs h

    go : (b : Bool) → AreThere blocks (cond b (without_attachment block pointer xs) (with_attachment (record { block = block; pointer = pointer; count = count }) (without_attachment block pointer xs)))
    go true = left
    go false = there-with blocks (record { block = block; pointer = pointer; count = count }) (without_attachment block pointer xs) n left

-- ---- the records stay sound

-- with these counters
with_attached : (l : Limits) (w : Records) (xs : List Attachment) → AreRecordsSound l w → AreAttachmentsSound l w.blocks xs → AreRecordsSound l (record w { attached = xs })
with_attached l w xs h k = record { ranges_apart = h.ranges_apart; blocks_apart = record { on_device = h.blocks_apart.on_device; apart = h.blocks_apart.apart; born = h.blocks_apart.born }; one_block_each = record { mapped = h.one_block_each.mapped; distinct = h.one_block_each.distinct; in_use = h.one_block_each.in_use }; counted = h.counted; attached = k; queues = h.queues; loans = h.loans }

-- the block that an attachment or a detachment names is there
abbrev pub IsAimThere : List Block → Aim → Type 0
IsAimThere blocks aim = (block : ℕ) → block_aimed aim ≡ Some block → IsSome (block_at block blocks)

aimed_there : (blocks : List Block) (aim : Aim) (xs : List Attachment) → IsAimThere blocks aim → AreThere blocks xs → AreThere blocks (attached_by aim xs)
aimed_there blocks aims.None xs there h = h
aimed_there blocks (aims.New pointer block target) xs there h = there-with_count blocks block pointer 1 xs (there block refl) h
aimed_there blocks (aims.Again pointer block) xs there h = there-with_count blocks block pointer (count_at block pointer xs + 1) xs (there block refl) h
aimed_there blocks (aims.Less pointer block) xs there h = there-with_count blocks block pointer (count_at block pointer xs - 1) xs (there block refl) h
aimed_there blocks (aims.Cleared pointer block) xs there h = there-with_count blocks block pointer 0 xs (there block refl) h

detach_block : (immediate : Bool) (block pointer k : ℕ) (xs : List Attachment) → block_aimed (detach immediate block pointer xs) ≡ Some k → block ≡ k
detach_block immediate block pointer k xs e = go (count_at block pointer xs == 0) immediate e
  where
    go : (b i : Bool) → block_aimed (cond b aims.None (cond i (aims.Cleared pointer block) (aims.Less pointer block))) ≡ Some k → block ≡ k
    go false true h = cc
    go _ _ h = cc

-- after a detachment the counters are sound
pub detach_sound : (l : Limits) (immediate : Bool) (block pointer : ℕ) (w : Records) → AreRecordsSound l w → IsSome (block_at block w.blocks) → AreRecordsSound l (records_aimed (detach immediate block pointer w.attached) w)
detach_sound l immediate block pointer w h there =
    let aim : Aim = detach immediate block pointer w.attached in
    with_attached l w (attached_by aim w.attached) h (record {
      rising = rising-attached_by aim w.attached h.attached.rising;
      counted = detached_within l.counter_max immediate block pointer w.attached h.attached.counted;
      there = aimed_there w.blocks aim w.attached (λ k is. subst (λ b. IsSome (block_at b w.blocks)) (detach_block immediate block pointer k w.attached is) there) h.attached.there;
    })

-- with one counter set
count_sound : (l : Limits) (block pointer count : ℕ) (w : Records) → AreRecordsSound l w → count ≤ l.counter_max → IsSome (block_at block w.blocks) → AreRecordsSound l (record w { attached = with_count block pointer count w.attached })
count_sound l block pointer count w h most there = with_attached l w (with_count block pointer count w.attached) h (record {
  rising = rising-with_count block pointer count w.attached h.attached.rising;
  counted = counted-with_count l.counter_max block pointer count w.attached most h.attached.counted;
  there = there-with_count w.blocks block pointer count w.attached there h.attached.there;
})

-- nothing was attached
none_sound : (l : Limits) (w : Records) → AreRecordsSound l w → AreRecordsSound l (records_aimed aims.None w)
none_sound l w h = with_attached l w w.attached h h.attached

-- ---- what is judged keeps them sound

pub judged_detach_sound : (l : Limits) (immediate : Bool) (pointer : ℕ) (w : Records) → AreRecordsSound l w → AreRecordsSound l (records_aimed (judge_detach immediate pointer w) w)
unfolding judge_detach
judged_detach_sound l immediate pointer w h = go (block_with pointer w.ranges) refl
  where
    go : (b : Option ℕ) → block_with pointer w.ranges ≡ b → AreRecordsSound l (records_aimed (detach_there immediate pointer b w.attached) w)
    go None is = none_sound l w h
    go (Some block) is = detach_sound l immediate block pointer w h (mapped_there l w pointer block h is)

pub judged_release_sound : (l : Limits) (aim : Option (ℕ × ℕ)) (w : Records) → AreRecordsSound l w → AreRecordsSound l (records_aimed (judge_release aim w) w)
unfolding judge_release
judged_release_sound l None w h = none_sound l w h
judged_release_sound l (Some aim) w h = go (block_with aim.0 w.ranges) refl
  where
    here : (now : ℕ) → block_with aim.0 w.ranges ≡ Some now → (b : Bool) → (now == aim.1) ≡ b → AreRecordsSound l (records_aimed (cond b (detach false aim.1 aim.0 w.attached) aims.None) w)
    here now is true e = detach_sound l false aim.1 aim.0 w h (mapped_there l w aim.0 aim.1 h (is ∙ ap Some (equal now aim.1 e)))
    here now is false e = none_sound l w h

    go : (b : Option ℕ) → block_with aim.0 w.ranges ≡ b → AreRecordsSound l (records_aimed (release_there aim.0 aim.1 b w.attached) w)
    go None is = none_sound l w h
    go (Some now) is = here now is (now == aim.1) refl

-- ---- what is legal keeps them sound

pub legal_attach_sound : (l : Limits) (named : Option ℕ) (aim : Aim) (w : Records) → IsWithinBounds l → AreRecordsSound l w → IsAttachLegal l named aim w → AreRecordsSound l (records_aimed aim w)
legal_attach_sound l named aims.None w bounds h legal = none_sound l w h
legal_attach_sound l named (aims.New pointer block target) w bounds h legal = count_sound l block pointer 1 w h bounds.counter_max.0 (mapped_there l w pointer block h legal.1)
legal_attach_sound l named (aims.Again pointer block) w bounds h legal = count_sound l block pointer (count_at block pointer w.attached + 1) w h (omega (arith, legal.4)) (mapped_there l w pointer block h legal.1)
legal_attach_sound l named _ w bounds h legal = absurd legal

-- an exit detaches before its step
pub leave_sound : (l : Limits) (holding : Holding) (did : Did) (w : Records) → AreRecordsSound l w → IsAimLegal l (ExitRegion holding) did w → AreRecordsSound l (records_aimed did.aim w)
leave_sound l holding did w h legal = subst (λ a. AreRecordsSound l (records_aimed a w)) (sym legal) (judged_release_sound l holding.aim w h)

pub exit_sound : (l : Limits) (finalize : Bool) (item : Item ExitClause) (queue : Option ℕ) (did : Did) (w : Records) → AreRecordsSound l w → IsAimLegal l (ExitData finalize item queue) did w → AreRecordsSound l (records_aimed did.aim w)
exit_sound l finalize item queue did w h legal = subst (λ a. AreRecordsSound l (records_aimed a w)) (sym legal) (go (pointer_aimed (ExitData finalize item queue) did.step))
  where
    go : (o : Option ℕ) → AreRecordsSound l (records_aimed (detach_if finalize o w) w)
    go None = none_sound l w h
    go (Some pointer) = judged_detach_sound l finalize pointer w h

pub move_sound : (l : Limits) (if_present : Bool) (item : Item UpdateClause) (queue : Option ℕ) (did : Did) (w : Records) → AreRecordsSound l w → IsAimLegal l (Move if_present item queue) did w → AreRecordsSound l (records_aimed did.aim w)
move_sound l if_present item queue did w h legal = subst (λ a. AreRecordsSound l (records_aimed a w)) (sym legal) (none_sound l w h)

-- the block that a legal attachment or detachment names is there
pub attach_block : (l : Limits) (named : Option ℕ) (aim : Aim) (w : Records) → AreRecordsSound l w → IsAttachLegal l named aim w → IsAimThere w.blocks aim
attach_block l named aims.None w h legal k e = cc
attach_block l named (aims.New pointer block target) w h legal k e = let is : block ≡ k = cc in subst (λ b. IsSome (block_at b w.blocks)) is (mapped_there l w pointer block h legal.1)
attach_block l named (aims.Again pointer block) w h legal k e = let is : block ≡ k = cc in subst (λ b. IsSome (block_at b w.blocks)) is (mapped_there l w pointer block h legal.1)
attach_block l named _ w h legal k e = absurd legal

detached_block : (l : Limits) (immediate : Bool) (pointer block : ℕ) (w : Records) → AreRecordsSound l w → block_with pointer w.ranges ≡ Some block → IsAimThere w.blocks (detach immediate block pointer w.attached)
detached_block l immediate pointer block w h is k e = subst (λ b. IsSome (block_at b w.blocks)) (detach_block immediate block pointer k w.attached e) (mapped_there l w pointer block h is)

no_block : (blocks : List Block) → IsAimThere blocks aims.None
no_block blocks k e = cc

pub leave_block : (l : Limits) (held : Option (ℕ × ℕ)) (w : Records) → AreRecordsSound l w → IsAimThere w.blocks (judge_release held w)
unfolding judge_release
leave_block l None w h = no_block w.blocks
leave_block l (Some held) w h = go (block_with held.0 w.ranges) refl
  where
    here : (now : ℕ) → block_with held.0 w.ranges ≡ Some now → (b : Bool) → (now == held.1) ≡ b → IsAimThere w.blocks (cond b (detach false held.1 held.0 w.attached) aims.None)
    here now is true e = detached_block l false held.0 held.1 w h (is ∙ ap Some (equal now held.1 e))
    here now is false e = no_block w.blocks

    go : (b : Option ℕ) → block_with held.0 w.ranges ≡ b → IsAimThere w.blocks (release_there held.0 held.1 b w.attached)
    go None is = no_block w.blocks
    go (Some now) is = here now is (now == held.1) refl

pub exit_block : (l : Limits) (finalize : Bool) (named : Option ℕ) (w : Records) → AreRecordsSound l w → IsAimThere w.blocks (detach_if finalize named w)
unfolding judge_detach
exit_block l finalize None w h = no_block w.blocks
exit_block l finalize (Some pointer) w h = go (block_with pointer w.ranges) refl
  where
    go : (b : Option ℕ) → block_with pointer w.ranges ≡ b → IsAimThere w.blocks (detach_there finalize pointer b w.attached)
    go None is = no_block w.blocks
    go (Some block) is = detached_block l finalize pointer block w h is

-- what a step says does not read the attachment counters
pub says_aimed : (l : Limits) (task : Task) (step : Step) (aim : Aim) (w : Records) → IsJudgedTo l task step w → IsJudgedTo l task step (records_aimed aim w)
says_aimed l (Enter counter item queue) Nothing aim w says = tt
says_aimed l (Enter counter item queue) (Counted k) aim w says = record { mapped = says.mapped; room = says.room }
says_aimed l (Enter counter item queue) (Born k p) aim w says = record { number = says.number; place_is = says.place_is; absent = says.absent; within = says.within }
says_aimed l (ExitRegion holding) Nothing aim w says = says
says_aimed l (ExitRegion holding) (Dropped k ended) aim w says = says
says_aimed l (ExitData finalize item queue) Nothing aim w says = tt
says_aimed l (ExitData finalize item queue) (Dropped k ended) aim w says =
    record { range = record { offset = says.range.offset; inside = says.range.inside; within = says.range.within; some = says.range.some; mapped = says.range.mapped }; some = says.some; ended_is = says.ended_is }
says_aimed l (Move if_present item queue) Nothing aim w says = tt
says_aimed l (Move if_present item queue) (Moved k) aim w says = record { offset = says.offset; inside = says.inside; within = says.within; some = says.some; mapped = says.mapped }
says_aimed l _ _ aim w says = absurd says

-- what a task leaves of sound records: sound records, and both reference counters of every block
pub record IsLeft (l : Limits) (task : Task) (did : Did) (w v : Records) : Type 0 where
  pub sound : AreRecordsSound l v
  pub counter_is : (counter : Counter) (b : ℕ) → counter_of counter b v.ranges ≡ cond (names b did.step) (moved_by counter task (counter_of counter b w.ranges)) (counter_of counter b w.ranges)

-- the step of a task, after a detachment
then_left : (l : Limits) (task : Task) (did : Did) (w : Records) → IsWithinBounds l → AreRecordsSound l (records_aimed did.aim w) → IsJudgedTo l task did.step w → IsStepFree l task did.step w → IsLeft l task did w (act_step task did.step (records_aimed did.aim w))
then_left l task did w bounds h says free = record {
  sound = acted_sound l task did.step (records_aimed did.aim w) bounds (says_aimed l task did.step did.aim w says) (record { needed = free.needed; room = free.room }) h;
  counter_is = λ counter b. counter-act l task did.step (records_aimed did.aim w) counter b h (says_aimed l task did.step did.aim w says);
}

pub task_left : (l : Limits) (task : Task) (did : Did) (w : Records) → IsWithinBounds l → AreRecordsSound l w → IsJudgedTo l task did.step w → IsStepFree l task did.step w → IsAimLegal l task did w → IsLeft l task did w (act task did w)
unfolding act
task_left l (Enter counter item queue) did w bounds h says free legal = record {
  sound = legal_attach_sound l (pointer_aimed (Enter counter item queue) did.step) did.aim (act_step (Enter counter item queue) did.step w) bounds (acted_sound l (Enter counter item queue) did.step w bounds says free h) legal;
  counter_is = λ one b. counter-act l (Enter counter item queue) did.step w one b h says;
}
task_left l (ExitRegion holding) did w bounds h says free legal = then_left l (ExitRegion holding) did w bounds (leave_sound l holding did w h legal) says free
task_left l (ExitData finalize item queue) did w bounds h says free legal = then_left l (ExitData finalize item queue) did w bounds (exit_sound l finalize item queue did w h legal) says free
task_left l (Move if_present item queue) did w bounds h says free legal = then_left l (Move if_present item queue) did w bounds (move_sound l if_present item queue did w h legal) says free
