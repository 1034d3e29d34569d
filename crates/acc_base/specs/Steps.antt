-- The step of an item: its refusal, or what it does to mappings and counters, and to the queues. And what its pointer
-- leaves of the records.
use Rattle.std.specs.Prelude.{ℕ, ◌+◌, Bool, true, false, not, ◌||◌, if◌then◌else◌, ◌==◌, List, [], ◌∷◌, ◌++◌, Option, None, Some, is_none, is_some, Result, Ok}
use Rattle.acc_base.specs.Words.{Range, Task, Step, Did, Aim, Fault}
use Rattle.acc_base.specs.declared.tasks.Task.TheVariants.{Enter, ExitRegion, ExitData, Move}
use Rattle.acc_base.specs.declared.events.Step.TheVariants.{Nothing, Counted, Born, Dropped, Moved}
use Rattle.acc_base.specs.declared.attachments.Aim.TheVariants as aims
use Rattle.acc_base.specs.Results.{◌>>=◌, ◌>>◌}
use Rattle.acc_base.specs.Limits.{Limits}
use Rattle.acc_base.specs.Records.{Records}
use Rattle.acc_base.specs.Ranges.{where_is, range_of, with_range, without_range, changed_at, bare_range}
use Rattle.acc_base.specs.Blocks.{without_block}
use Rattle.acc_base.specs.Queues.{pins_of}
use Rattle.acc_base.specs.Attachments.{without_attachments, attached_by}
use Rattle.acc_base.specs.Clauses.{is_attach, is_detach, in_host, enter_row, leave_row, exit_row, move_row}
use Rattle.acc_base.specs.Loans.{not_lent}
use Rattle.acc_base.specs.Detaching.{detach_if, judge_release, block_aimed}
use Rattle.acc_base.specs.Tasks.{section_of, pointer_of, queue_of, recounted, checked}
use Rattle.acc_base.specs.Transfers.{transfer_of, room_for, queues_after}

-- ---- its pointer beside its step

-- the step did something
abbrev pub is_action : Step → Bool
is_action Nothing = false
is_action _ = true

-- the pointer that an item attaches or detaches beside its step. It is the one that the item names, where the step did
-- something or the clause names a pointer alone
abbrev pub pointer_aimed : Task → Step → Option ℕ
pointer_aimed (Enter counter item queue) step = if is_attach item.clause || is_action step then pointer_of (Enter counter item queue) else None
pointer_aimed (ExitData finalize item queue) step = if is_detach item.clause || is_action step then pointer_of (ExitData finalize item queue) else None
pointer_aimed _ step = None

-- ---- the blocks that must not be lent

-- the block in which the task detaches a pointer before its step
abbrev pub block_detached : Task → Step → Records → Option ℕ
block_detached (ExitRegion holding) step w = block_aimed (judge_release holding.aim w)
block_detached (ExitData finalize item queue) step w = block_aimed (detach_if finalize (pointer_aimed (ExitData finalize item queue) step) w)
block_detached _ step w = None

-- the block that the step takes a counter from, or whose bytes it copies at once
abbrev pub block_needed : Task → Step → Option ℕ
block_needed task (Dropped block ended) = Some block
block_needed task (Moved block) = if is_none (queue_of task) then Some block else None
block_needed task _ = None

-- ---- its refusal, or its step

-- what the clause tables say of the task of the item at place n of the written list
unfoldable pub judge_row : Limits → ℕ → Task → Records → Result Step Fault
judge_row l n (Enter counter item queue) w = checked l n (Enter counter item queue) >> enter_row (where_is (section_of (Enter counter item queue)) w.ranges) l counter item.clause n (section_of (Enter counter item queue)) w
judge_row l n (ExitRegion holding) w = leave_row holding.block (recounted (ExitRegion holding)) w
judge_row l n (ExitData finalize item queue) w = checked l n (ExitData finalize item queue) >> exit_row (where_is (section_of (ExitData finalize item queue)) w.ranges) (recounted (ExitData finalize item queue)) n w
judge_row l n (Move if_present item queue) w = in_host l n item.section >> move_row (where_is item.section w.ranges) if_present n

-- then what it needs is not lent, first for its pointer and then for its step. And the queue of its transfer, if it has
-- one, has room for it
unfoldable pub judge_step : Limits → ℕ → Task → Records → Result Step Fault
judge_step l n task w = do
  step ← judge_row l n task w
  not_lent (block_detached task step w) w.loans
  not_lent (block_needed task step) w.loans
  room_for l.queue_cap (queue_of task) (transfer_of task step w.ranges) w.queues
  Ok step

-- ---- what the step leaves of the records

-- a section is mapped to a new block of its length
unfoldable pub records_after_birth : Range → ℕ → Records → Records
records_after_birth r place w = record w {
  ranges = with_range r w.ranges;
  blocks = w.blocks ++ record { number = r.block; place = place; len = r.section.len } ∷ [];
  births = w.births + 1;
}

-- a block stays while it is mapped, and while a queued transfer names it
abbrev pub is_in_use : ℕ → Records → Bool
is_in_use block w = is_some (range_of block w.ranges) || not (pins_of block w.queues == 0)

-- a block that is no longer in use is given back, with its attachment counters
unfoldable pub released : ℕ → Records → Records
released block w = record w {
  blocks = if is_in_use block w then w.blocks else without_block block w.blocks;
  attached = if is_in_use block w then w.attached else without_attachments block w.attached;
}

-- the mapping to a block ends
unfoldable pub records_after_end : ℕ → Records → Records
records_after_end block w = released block (record w { ranges = without_range block w.ranges })

-- the counters of a range change
unfoldable pub with_range_changed : ℕ → (Range → Range) → Records → Records
with_range_changed block change w = record w { ranges = changed_at block change w.ranges }

-- counters, births and ends, which come at once with a queue, too
unfoldable pub act_row : Task → Step → Records → Records
act_row task (Counted block) w = with_range_changed block (recounted task) w
act_row task (Born block place) w = records_after_birth (recounted task (bare_range (section_of task) block)) place w
act_row task (Dropped block true) w = records_after_end block w
act_row task (Dropped block false) w = with_range_changed block (recounted task) w
act_row task _ w = w

-- the transfer of a task with a queue is put there
abbrev pub with_put : Task → Step → Records → Records
with_put task step w = record w { queues = queues_after (queue_of task) (transfer_of task step w.ranges) w.queues }

-- a transfer that waits keeps its block from being given back
unfoldable pub act_step : Task → Step → Records → Records
act_step task step w = act_row task step (with_put task step w)

-- ---- what its pointer leaves of the records (OpenACC 3.3, sections 2.6.8 and 2.7.2)

-- the records after an attachment or a detachment
abbrev pub records_aimed : Aim → Records → Records
records_aimed aim w = record w { attached = attached_by aim w.attached }

-- ---- what both leave of the records: an item that enters attaches after its step, and one that leaves detaches before
-- it

unfoldable pub act : Task → Did → Records → Records
act (Enter counter item queue) did w = records_aimed did.aim (act_step (Enter counter item queue) did.step w)
act (ExitRegion holding) did w = act_step (ExitRegion holding) did.step (records_aimed did.aim w)
act (ExitData finalize item queue) did w = act_step (ExitData finalize item queue) did.step (records_aimed did.aim w)
act (Move if_present item queue) did w = act_step (Move if_present item queue) did.step (records_aimed did.aim w)

-- what an item did that leaves pointers alone
abbrev pub did_of : Step → Did
did_of step = record { step = step; aim = aims.None }

-- a list of tasks with what they did, one after the other
unfoldable pub act_all : List Task → List Did → Records → Records
act_all (task ∷ tasks) (did ∷ dids) w = act_all tasks dids (act task did w)
act_all _ _ w = w
