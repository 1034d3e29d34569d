-- What a plan knows of pointers after its tasks: what each look-up returns then, from what it returns before them.
use Rattle.std.specs.Prelude.{ℕ, if◌then◌else◌, ◌==◌, ◌&&◌, List, fold, Result, ⊤}
use Rattle.acc_clauses.specs.Words.{Task, Aim, Step, Fault}
use Rattle.acc_base.specs.declared.tasks.Task.TheVariants.{ExitRegion, ExitData}
use Rattle.acc_base.specs.declared.attachments.Aim.TheVariants as aims
use Rattle.acc_base.specs.declared.events.Step.TheVariants.{Born}
use Rattle.acc_base.specs.Attachments.{count_after}
use Rattle.acc_base.specs.Results.{◌>>◌}
use Rattle.acc_base.specs.Records.{Records}
use Rattle.acc_base.specs.Loans.{not_lent}
use Rattle.acc_base.specs.Tasks.{queue_of}
use Rattle.acc_base.specs.Transfers.{transfer_of, room_for}
use Rattle.acc_base.specs.Detaching.{detach_if, judge_release, block_aimed}
use Rattle.acc_base.specs.Steps.{block_needed, pointer_aimed}
use Rattle.acc_clauses.specs.declared.acted.Acted.{Acted}

-- ---- attachment counters

-- the attachment counter of a pointer in a block after tasks; it is asked for a block that is mapped then
abbrev pub count_over : ℕ → ℕ → ℕ → List Acted → ℕ
count_over block pointer count xs = fold (λ n x. count_after block pointer x.did.aim n) count xs

-- ---- places

-- the device address of a block after a step that ends no mapping
abbrev pub place_by : ℕ → ℕ → Step → ℕ
place_by block place (Born b p) = if b == block then p else place
place_by block place _ = place

-- and after entries
abbrev pub place_over : ℕ → ℕ → List Acted → ℕ
place_over block place xs = fold (λ p x. place_by block p x.did.step) place xs

-- ---- what an attached pointer in a block holds

-- the address that it holds after an attachment
abbrev pub value_by : ℕ → ℕ → ℕ → Aim → ℕ
value_by block pointer value (aims.New p b target) = if b == block && p == pointer then target else value
value_by block pointer value _ = value

-- and after entries
abbrev pub value_over : ℕ → ℕ → ℕ → List Acted → ℕ
value_over block pointer value xs = fold (λ v x. value_by block pointer v x.did.aim) value xs

-- ---- before a step

-- what becomes of the pointer of a task before its step: what leaves detaches it
abbrev pub aim_before : Task → Step → Records → Aim
aim_before (ExitRegion holding) step w = judge_release holding.aim w
aim_before (ExitData finalize item queue) step w = detach_if finalize (pointer_aimed (ExitData finalize item queue) step) w
aim_before _ step w = aims.None

-- neither the block in which a task detaches a pointer before its step is lent, nor the one that the step needs. And
-- its queue has room
abbrev pub step_free : Task → Step → Aim → ℕ → Records → Result ⊤ Fault
step_free task step before queue_cap w = not_lent (block_aimed before) w.loans >> (not_lent (block_needed task step) w.loans >> room_for queue_cap (queue_of task) (transfer_of task step w.ranges) w.queues)
