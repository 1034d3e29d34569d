-- The transfer of an item's step, made at once or put into a queue (OpenACC 3.3, sections 2.7, 2.14.4 and 2.16).
use Rattle.std.specs.Prelude.{ℕ, ◌-◌, Bool, true, false, if◌then◌else◌, List, Option, Some, None, Result, Ok, ⊤}
use Rattle.acc_base.specs.Words.{Range, Task, Transfer, Step, Fault}
use Rattle.acc_base.specs.declared.tasks.Task.TheVariants.{Enter, ExitRegion, ExitData, Move}
use Rattle.acc_base.specs.declared.events.Step.TheVariants.{Born, Dropped, Moved}
use Rattle.acc_base.specs.Ranges.{start_of}
use Rattle.acc_base.specs.Queues.{put, queue_room}
use Rattle.acc_base.specs.Clauses.{copies_in, copies_out, is_copyout, is_to_self}
use Rattle.acc_base.specs.Tasks.{section_of, queue_of}

-- the host address of the block's first byte
abbrev pub first_address : Transfer → ℕ
first_address t = t.section.start - t.offset

-- a birth by this task copies the section to the new block
abbrev pub gets_bytes : Task → Bool
gets_bytes (Enter counter item queue) = copies_in item.clause
gets_bytes _ = false

-- the end of a mapping by this task copies the section to the host
abbrev pub gives_bytes : Task → Bool
gives_bytes (ExitRegion holding) = copies_out holding.item.clause
gives_bytes (ExitData finalize item queue) = is_copyout item.clause
gives_bytes _ = false

-- a copy by this task goes to the host
abbrev pub goes_out : Task → Bool
goes_out (Enter counter item queue) = false
goes_out (ExitRegion holding) = true
goes_out (ExitData finalize item queue) = true
goes_out (Move if_present item queue) = is_to_self item.clause

-- the copy of a section of a mapped range
abbrev pub transfer_at : Task → ℕ → List Range → Transfer
transfer_at task block ranges = record { block = block; offset = (section_of task).start - start_of block ranges; section = section_of task; out = goes_out task }

abbrev pub transfer_of : Task → Step → List Range → Option Transfer
transfer_of task (Born block place) ranges = if gets_bytes task then Some (record { block = block; offset = 0; section = section_of task; out = false }) else None
transfer_of task (Dropped block true) ranges = if gives_bytes task then Some (transfer_at task block ranges) else None
transfer_of task (Moved block) ranges = Some (transfer_at task block ranges)
transfer_of task _ ranges = None

-- ---- when it is made

-- with a queue it is made later
abbrev pub at_once : Option ℕ → Option Transfer → Option Transfer
at_once None t = t
at_once (Some q) t = None

-- the transfer that a step makes at once
abbrev pub made_now : Task → Step → List Range → Option Transfer
made_now task step ranges = at_once (queue_of task) (transfer_of task step ranges)

-- the queue has room for a transfer that is put there
abbrev pub room_for : ℕ → Option ℕ → Option Transfer → List (List Transfer) → Result ⊤ Fault
room_for queue_cap (Some q) (Some t) queues = queue_room queue_cap q queues
room_for queue_cap _ _ queues = Ok tt

-- the queues after it
abbrev pub queues_after : Option ℕ → Option Transfer → List (List Transfer) → List (List Transfer)
queues_after (Some q) (Some t) queues = put q t queues
queues_after _ _ queues = queues
