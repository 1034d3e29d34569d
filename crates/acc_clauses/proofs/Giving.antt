-- What the copy of a task's section leaves of the parts, made at once or put into a queue.
use Rattle.std.proofs.Common.{ℕ, ◌≡◌, ◌≤◌, refl, subst, Bool, true, false, cond, ◌&&◌, [], length, Option, Some, None, arith}
use Rattle.std.specs.Prelude.{IsSome, is_some}
use Rattle.std.proofs.lemmas.Bool.Decides.{nat_tests}
use Rattle.acc_base.specs.Loans.{is_lent}
use Rattle.acc_clauses.specs.Words.{Section, Item, RegionClause, Task, Transfer, Step}
use Rattle.acc_base.specs.declared.events.Step.TheVariants.{Dropped, Moved}
use Rattle.acc_base.specs.Section.{is_within}
use Rattle.acc_base.specs.Records.{State}
use Rattle.acc_base.specs.Ranges.{start_of}
use Rattle.acc_base.specs.Blocks.{block_at}
use Rattle.acc_base.specs.Clauses.{is_attach, section_named, copies_in}
use Rattle.acc_base.specs.Tasks.{section_of, queue_of}
use Rattle.acc_base.specs.Transfers.{gives_bytes, transfer_at, transfer_of}
use Rattle.acc_base.specs.Steps.{act_row, act_step}
use Rattle.acc_base.specs.Bytes.{bytes_of, step_state}
use Rattle.acc_clauses.specs.Contents.{WithHost, room_of, bare_state}
use Rattle.acc_clauses.specs.Overlays.{moves, is_queue, puts_by}
use Rattle.acc_clauses.specs.Acts.{CanMove, CanPut, CanMoveBytes, CanQueue, HasPutRoom, moved_state, filled_later, given_state, IsMovedBy, IsFilledLater, IsGivenBy, IsActedBy, CanNeed}
use Rattle.acc_clauses.proofs.Changes.{changed_to}

-- ---- a section that is inside the range of a block

-- the section is within the bytes of a block that is not lent
pub within_block : (section : Section) (k start : ℕ) (x : State) → CanMove section k x → is_lent k x.records.loans ≡ false → start ≡ start_of k x.records.ranges → is_within section (record { start = start; len = length (bytes_of k x.memories) }) ≡ true
within_block section k start x m free e = grind (arith, nat_tests)

-- ---- the transfer can be made or put

-- the transfer of a step can be put into the queue that its task names
pub step_puts : (task : Task) (step : Step) (q : ℕ) (t : Transfer) (x y : WithHost) → queue_of task ≡ Some q → transfer_of task step x.present.table.ranges ≡ Some t → moves task step ≡ true → CanQueue task step x → HasPutRoom (λ q. puts_by q task step) (room_of x)
    → y.queues ≡ x.queues → IsSome (block_at t.block y.device.blocks) → CanPut q t y.queues y.device
step_puts task step q t x y named is moving can puts same there = grind (arith, nat_tests)

-- a copy of a task's section to or from its block can be made at once, or put into the queue that the task names
pub can_move_bytes : (task : Task) (step : Step) (k : ℕ) (x : WithHost) (queue : Option ℕ) (t : Transfer) → CanMove (section_of task) k (bare_state x) → queue ≡ queue_of task → t ≡ transfer_at task k x.present.table.ranges
    → transfer_of task step x.present.table.ranges ≡ Some (transfer_at task k x.present.table.ranges) → moves task step ≡ true → (queue_of task ≡ None → is_lent k x.device.loans ≡ false) → CanQueue task step x → HasPutRoom (λ q. puts_by q task step) (room_of x) → CanMoveBytes queue t x
can_move_bytes task step k x queue t can named is moves_so moving free room puts = grind (arith, nat_tests)

-- a block that an update needs is not lent
pub needed_free : (task : Task) (k : ℕ) (x : WithHost) → CanNeed task (Moved k) x → queue_of task ≡ None → is_lent k x.device.loans ≡ false
needed_free task k x needed none = grind (arith, nat_tests)

-- ---- what it leaves

-- with the queue and the transfer of a task
moved_as : (x y : WithHost) (queue other : Option ℕ) (t u : Transfer) → queue ≡ other → t ≡ u → IsMovedBy queue t x y → IsMovedBy other u x y
moved_as x y queue other t u e f h = subst (λ (o : Option ℕ). IsMovedBy o u x y) e (subst (λ (v : Transfer). IsMovedBy queue v x y) f h)

-- a transfer that is put takes the room of one
one_put : (a b : Bool) → b ≡ true → cond a 1 0 ≤ cond (a && b) 1 0
one_put a b e = grind (arith, nat_tests)

pub given_acts : (task : Task) (k : ℕ) (x y : WithHost) (queue : Option ℕ) (t : Transfer) → gives_bytes task ≡ true → queue ≡ queue_of task → t ≡ transfer_at task k x.present.table.ranges → IsMovedBy queue t x y → IsGivenBy task k x y
given_acts task k x y queue t gives named is moved =
    changed_to (moved_state (queue_of task) (transfer_at task k x.present.table.ranges)) (given_state task k) [] 0 (λ q. cond (is_queue q (queue_of task)) 1 0) (λ q. puts_by q task (Dropped k true)) x y
    (λ next. rw gives refl) (λ q. one_put (is_queue q (queue_of task)) (gives_bytes task) gives)
    (moved_as x y queue (queue_of task) t (transfer_at task k x.present.table.ranges) named is moved)

pub moved_acts : (task : Task) (k : ℕ) (x y : WithHost) (queue : Option ℕ) (t : Transfer) → queue ≡ queue_of task → t ≡ transfer_at task k x.present.table.ranges → IsMovedBy queue t x y → IsActedBy task (Moved k) x y
unfolding step_state act_step act_row
moved_acts task k x y queue t named is moved = grind (arith, nat_tests, moved_as x y queue (queue_of task) t (transfer_at task k x.present.table.ranges) named is moved)

pub filled_acts : (queue : Option ℕ) (item : Item RegionClause) (k : ℕ) (section : Section) (x y : WithHost) → is_some queue ≡ true → copies_in item.clause ≡ true → section ≡ section_named (is_attach item.clause) item.section
    → IsMovedBy queue (record { block = k; offset = 0; section = section; out = false }) x y → IsFilledLater queue item k x y
filled_acts queue item k section x y named copies is moved =
    let at : Section → Transfer = λ s. record { block = k; offset = 0; section = s; out = false } in
    changed_to (moved_state queue (at (section_named (is_attach item.clause) item.section))) (filled_later queue item k) [] 0 (λ q. cond (is_queue q queue) 1 0) (λ q. cond (is_queue q queue && copies_in item.clause) 1 0) x y
    (λ next. rw (copies, named) refl) (λ q. one_put (is_queue q queue) (copies_in item.clause) copies)
    (subst (λ (s : Section). IsMovedBy queue (at s) x y) is moved)
