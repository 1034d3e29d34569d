-- What the end of a mapping leaves of the parts: the copy to host memory, and then the range and the block.
use Rattle.std.proofs.lemmas.Bool.Decides.{nat_tests}
use Rattle.std.proofs.Common.{ℕ, ◌≡◌, ◌≤◌, refl, sym, ◌∙◌, ap, Bool, true, false, cond, [], Option, Some, None, arith}
use Rattle.std.specs.Prelude.{IsSome, is_none}
use Rattle.std.specs.List.{AllZip}
use Rattle.acc_base.specs.Loans.{is_lent}
use Rattle.acc_clauses.specs.Words.{Range, Task, Transfer}
use Rattle.acc_base.specs.declared.events.Step.TheVariants.{Dropped}
use Rattle.acc_base.specs.Records.{Records, State}
use Rattle.acc_base.specs.Ranges.{range_of, without_range}
use Rattle.acc_base.specs.Blocks.{block_at}
use Rattle.acc_base.specs.Attachments.{without_attachments}
use Rattle.acc_base.specs.Tasks.{queue_of}
use Rattle.acc_base.specs.Transfers.{gives_bytes, transfer_at, at_once, queues_after}
use Rattle.acc_base.specs.Steps.{is_in_use, released, records_after_end, act_row, act_step}
use Rattle.acc_base.specs.Bytes.{host_made, memories_made, memories_kept, memories_released, step_state}
use Rattle.acc_base.specs.Accounts.{IsMemoryOf}
use Rattle.acc_base.proofs.Lookups.{at-without_same}
use Rattle.acc_base.proofs.KeptMemories.{memories_kept-without}
use Rattle.acc_present.specs.Present.{PresentState, with_ranges}
use Rattle.acc_present.specs.Present as present
use Rattle.acc_dev.specs.Marks.{pins_at, is_ended_at, IsMarkOf}
use Rattle.acc_dev.specs.Device.{DeviceState, IsEnded, IsRetired}
use Rattle.acc_present.specs.Attached.{AttachedState}
use Rattle.acc_clauses.specs.Contents.{WithHost, AreMarked, state_of, bare_state, bare_numbers}
use Rattle.acc_clauses.specs.Overlays.{puts_by}
use Rattle.acc_clauses.specs.Acts.{CanDrop, given_state, moved_state, IsChangedBy, IsGivenBy, IsActedBy}
use Rattle.acc_clauses.proofs.Changes.{state_from_parts, room_same, both}
use Rattle.acc_clauses.proofs.Marked.{IsMarkAt, mark_told, marks_ended, marks_gone}
use Rattle.acc_clauses.proofs.Putting.{unused, used_pinned}

-- ---- after the copy to host memory

-- what the copy leaves, whether there is one or not
given_is : (b : Bool) (o : Option ℕ) (t : Transfer) (s : State) → cond b (moved_state o t s) s ≡ record s {
  records = record s.records { queues = queues_after o (cond b (Some t) None) s.records.queues };
  host = host_made (at_once o (cond b (Some t) None)) s.records.attached s.memories s.host;
  memories = memories_made (at_once o (cond b (Some t) None)) s.records.attached s.host s.memories;
}
given_is b o t s = grind (arith, nat_tests)

pub same_ranges : (task : Task) (k : ℕ) (x y : WithHost) → IsGivenBy task k x y → y.present.table.ranges ≡ x.present.table.ranges
same_ranges task k x y given = ap (λ (s : State). s.records.ranges) (given.state bare_numbers ∙ given_is (gives_bytes task) (queue_of task) (transfer_at task k x.present.table.ranges) (bare_state x))

pub same_blocks : (task : Task) (k : ℕ) (x y : WithHost) → IsGivenBy task k x y → y.device.blocks ≡ x.device.blocks
same_blocks task k x y given = ap (λ (s : State). s.records.blocks) (given.state bare_numbers ∙ given_is (gives_bytes task) (queue_of task) (transfer_at task k x.present.table.ranges) (bare_state x))

-- no block more is lent
pub loans_kept : (task : Task) (k : ℕ) (x y : WithHost) → IsGivenBy task k x y → is_lent k x.device.loans ≡ false → is_lent k y.device.loans ≡ false
loans_kept task k x y given free =
    let same : y.device.loans ≡ x.device.loans = ap (λ (s : State). s.records.loans) (given.state bare_numbers ∙ given_is (gives_bytes task) (queue_of task) (transfer_at task k x.present.table.ranges) (bare_state x)) in
    rw same free

-- the range is there still
pub range_there : (task : Task) (k : ℕ) (ended : Bool) (x y : WithHost) (can : CanDrop task k ended (bare_state x)) → IsGivenBy task k x y → range_of k y.present.table.ranges ≡ Some can.move.range
range_there task k ended x y can given = ap (range_of k) (same_ranges task k x y given) ∙ can.move.range_is

pub end_there : (task : Task) (k : ℕ) (ended : Bool) (x y : WithHost) → CanDrop task k ended (bare_state x) → IsGivenBy task k x y → IsSome (block_at k y.device.blocks)
end_there task k ended x y can given = rw (same_blocks task k x y given) can.move.there

-- the block has a mark, by which its mapping has not ended
pub end_mark : (task : Task) (k : ℕ) (ended : Bool) (x y : WithHost) → CanDrop task k ended (bare_state x) → IsGivenBy task k x y → AllZip IsMarkOf y.device.marks y.device.blocks → IsMarkAt y.present.table.ranges y.queues.queues y.device.marks k
end_mark task k ended x y can given zip = mark_told y.present.table.ranges y.queues.queues k y.device.marks y.device.blocks zip (end_there task k ended x y can given) given.marked

pub end_mapped : (task : Task) (k : ℕ) (ended : Bool) (x y : WithHost) → CanDrop task k ended (bare_state x) → IsGivenBy task k x y → AllZip IsMarkOf y.device.marks y.device.blocks → is_ended_at k y.device.marks ≡ false
end_mapped task k ended x y can given zip = (end_mark task k ended x y can given zip).ended ∙ ap is_none (range_there task k ended x y can given)

-- ---- the range and the block

-- the state after the mapping to a block has ended
abbrev pub ended_state : ℕ → State → State
ended_state k s = record s { records = records_after_end k s.records; memories = memories_released k (records_after_end k s.records) s.memories }

-- the records without the range
abbrev unmapped : ℕ → WithHost → Records
unmapped k y = record (bare_state y).records { ranges = without_range k y.present.table.ranges }

gone_range : (k : ℕ) (y : WithHost) → is_none (range_of k (unmapped k y).ranges) ≡ true
gone_range k y = ap is_none (at-without_same (λ (x : Range). x.block) k y.present.table.ranges)

-- the block is given back, with its attachment counters
pub gone_changes : (k : ℕ) (y : WithHost) (r : PresentState) (e : DeviceState) (b : AttachedState) → AreMarked y → AllZip (IsMemoryOf y.device.loans) y.device.memories y.device.blocks → IsMarkAt y.present.table.ranges y.queues.queues y.device.marks k
    → r.table ≡ with_ranges y.present.table (without_range k y.present.table.ranges) → present.IsRoomKept y.present.room r.room
    → pins_at k y.device.marks ≡ 0 → IsRetired y.device e k → b.attached ≡ without_attachments k y.attached.attached → b.counter_max ≡ y.attached.counter_max → y.attached.spare ≤ b.spare
    → IsChangedBy (ended_state k) [] 0 (λ n. 0) y (record y { present = r; device = e; attached = b })
unfolding records_after_end released
gone_changes k y r e b marked sized mark table kept free retired forgot limit spare =
    let new : WithHost = record y { present = r; device = e; attached = b } in
    let ranges : r.table.ranges ≡ without_range k y.present.table.ranges = ap (λ t. t.ranges) table in
    let idle : is_in_use k (unmapped k y) ≡ false = unused k (unmapped k y) (gone_range k y) (sym mark.pins ∙ free) in
    let memories : e.memories ≡ _ = retired.memories ∙ (ap (λ bs. memories_kept bs y.device.memories) retired.blocks ∙ memories_kept-without y.device.loans k y.device.memories y.device.blocks sized) in
    record {
      state = λ next. state_from_parts new next (ended_state k (state_of y next)) ranges (rw idle retired.blocks) (rw idle forgot) retired.births refl retired.loans (ap (λ t. t.regions) table) refl refl refl (rw idle memories);
      counter_max = ap (λ t. t.counter_max) table;
      memory = retired.memory;
      pointer_max = limit;
      queue_cap = refl;
      room = room_same (λ n. 0) y new kept retired.room spare (λ n. omega arith);
      marked = rw (ranges, retired.marks) (marks_gone y.present.table.ranges k y.queues.queues y.device.marks marked);
    }

-- the block is kept by a transfer
pub kept_changes : (k : ℕ) (y : WithHost) (r : PresentState) (e : DeviceState) → AreMarked y → IsMarkAt y.present.table.ranges y.queues.queues y.device.marks k
    → r.table ≡ with_ranges y.present.table (without_range k y.present.table.ranges) → present.IsRoomKept y.present.room r.room
    → (pins_at k y.device.marks ≡ 0 → ⊥) → IsEnded y.device e k → IsChangedBy (ended_state k) [] 0 (λ n. 0) y (record y { present = r; device = e })
unfolding records_after_end released
kept_changes k y r e marked mark table kept some ended = grind (arith, nat_tests, used_pinned, state_from_parts, room_same, marks_ended)

-- ---- both are the step

ended_whole : (task : Task) (k : ℕ) (s : State) → ended_state k (given_state task k s) ≡ step_state task (Dropped k true) s
unfolding step_state act_step act_row
ended_whole task k s = ap (ended_state k) (given_is (gives_bytes task) (queue_of task) (transfer_at task k s.records.ranges) s)

pub ended_acts : (task : Task) (k : ℕ) (x y z : WithHost) → IsGivenBy task k x y → IsChangedBy (ended_state k) [] 0 (λ n. 0) y z → IsActedBy task (Dropped k true) x z
ended_acts task k x y z given ended = both (given_state task k) (ended_state k) (step_state task (Dropped k true)) [] [] [] 0 0 0 (λ q. puts_by q task (Dropped k true)) (λ n. 0) (λ q. puts_by q task (Dropped k true)) x y z
    (λ next. ended_whole task k (state_of x next)) refl (omega arith) (λ q. omega arith) given ended
