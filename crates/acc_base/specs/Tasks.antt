-- What one item asks, whatever directive it stands in: which section, which pointer, which queue, and what it does to
-- counters.
use Rattle.std.specs.Prelude.{ℕ, if◌then◌else◌, Option, None, Result, ⊤}
use Rattle.acc_base.specs.Words.{Section, Range, Task, Fault}
use Rattle.acc_base.specs.declared.mappings.Counter.TheVariants.{Structured, Dynamic}
use Rattle.acc_base.specs.declared.tasks.Task.TheVariants.{Enter, ExitRegion, ExitData, Move}
use Rattle.acc_base.specs.Results.{◌>>◌}
use Rattle.acc_base.specs.Limits.{Limits}
use Rattle.acc_base.specs.Ranges.{risen, fallen, cleared}
use Rattle.acc_base.specs.Clauses.{is_attach, is_detach, section_named, pointer_named, in_host, pointer_checked}

-- the section that the task names
abbrev pub section_of : Task → Section
section_of (Enter counter item queue) = section_named (is_attach item.clause) item.section
section_of (ExitRegion holding) = holding.item.section
section_of (ExitData finalize item queue) = section_named (is_detach item.clause) item.section
section_of (Move if_present item queue) = item.section

-- the pointer that it names; the exit from a region takes it from what the entry attached
abbrev pub pointer_of : Task → Option ℕ
pointer_of (Enter counter item queue) = pointer_named (is_attach item.clause) item.section item.pointer
pointer_of (ExitData finalize item queue) = pointer_named (is_detach item.clause) item.section item.pointer
pointer_of _ = None

-- the queue into which its transfer is put; without one it is made at once
abbrev pub queue_of : Task → Option ℕ
queue_of (Enter counter item queue) = queue
queue_of (ExitRegion holding) = None
queue_of (ExitData finalize item queue) = queue
queue_of (Move if_present item queue) = queue

-- what the task does to the counters of a range that it counts or drops (OpenACC 3.3, section 2.6.7)
abbrev pub recounted : Task → Range → Range
recounted (Enter counter item queue) r = risen counter r
recounted (ExitRegion holding) r = fallen Structured r
recounted (ExitData finalize item queue) r = if finalize then cleared r else fallen Dynamic r
recounted (Move if_present item queue) r = r

-- ---- what is refused before the tables are asked

-- section and pointer, if the task names them, may stand there
abbrev pub checked : Limits → ℕ → Task → Result ⊤ Fault
checked l n task = in_host l n (section_of task) >> pointer_checked l n (pointer_of task)
