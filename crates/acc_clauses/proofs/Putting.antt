-- What a transfer leaves of the parts: one made at once, one put into a queue, or the first of a queue.
use Rattle.std.proofs.Common.{ℕ, ◌≡◌, ◌<◌, ◌≤◌, true, false, List, length, Some, None, arith}
use Rattle.std.specs.Prelude.{is_none, IsSome}
use Rattle.std.specs.List.{AllZip}
use Rattle.std.proofs.lemmas.Bool.Decides.{nat_tests}
use Rattle.std.proofs.lemmas.List.{get_or_past}
use Rattle.acc_clauses.specs.Words.{Transfer}
use Rattle.acc_base.specs.Records.{Records}
use Rattle.acc_base.specs.Ranges.{range_of}
use Rattle.acc_base.specs.Blocks.{block_at}
use Rattle.acc_base.specs.Attachments.{without_attachments}
use Rattle.acc_base.specs.Queues.{head_of, put, popped, pins_of}
use Rattle.acc_base.specs.Bytes.{host_made, memories_made}
use Rattle.acc_base.specs.Steps.{is_in_use, released}
use Rattle.acc_base.specs.Waits.{stepped}
use Rattle.acc_base.specs.Accounts.{IsMemoryOf}
use Rattle.acc_base.proofs.KeptMemories.{memories_kept-without}
use Rattle.acc_present.specs.Queued.{QueuesState, AreRoomsKept, IsRoomTaken, spare_at}
use Rattle.acc_dev.specs.Marks.{pins_at, is_ended_at, IsMarkOf}
use Rattle.acc_dev.specs.Device.{DeviceState, IsPinned, IsUnpinned, IsRetired}
use Rattle.acc_present.specs.Attached.{AttachedState}
use Rattle.acc_clauses.specs.Contents.{WithHost, AreMarked}
use Rattle.acc_clauses.specs.Acts.{IsMovedBy, IsSteppedBy}
use Rattle.acc_clauses.proofs.Changes.{state_from_parts, room_same, none_taken}
use Rattle.acc_clauses.proofs.Marked.{IsMarkAt, mark_told, pins_popped, marks_put, marks_unpinned, marks_drained}

-- ---- put into a queue

-- a queue that has room is there
pub queue_there : (q : ℕ) (spare : List ℕ) → length spare ≡ 16 → 1 ≤ spare_at q spare → q < 16
queue_there q spare all some = grind (arith, nat_tests, get_or_past)

pub put_moves : (q : ℕ) (t : Transfer) (x : WithHost) (queues : QueuesState) (device : DeviceState) → q < length x.queues.queues → AreMarked x
    → queues.queues ≡ put q t x.queues.queues → queues.cap ≡ x.queues.cap → IsRoomTaken q x.queues.spare queues.spare → IsPinned x.device device t.block → IsMovedBy (Some q) t x (record x { device = device; queues = queues })
put_moves q t x queues device known marked more limit room pinned = grind (arith, nat_tests, state_from_parts, room_same, none_taken, marks_put)

-- ---- made at once

-- the parts after a transfer is made
abbrev pub transfer_made : Transfer → WithHost → WithHost
transfer_made t x = record x {
  host = host_made (Some t) x.attached.attached x.device.memories x.host;
  device = record x.device { memories = memories_made (Some t) x.attached.attached x.host x.device.memories };
}

-- ---- the first one of a queue

-- nothing waits
pub none_steps : (q : ℕ) (x : WithHost) (queues : QueuesState) → head_of q x.queues.queues ≡ None → queues.queues ≡ x.queues.queues → queues.cap ≡ x.queues.cap → AreRoomsKept x.queues.spare queues.spare → AreMarked x → IsSteppedBy q x (record x { queues = queues })
unfolding stepped
none_steps q x queues empty same limit room marked = grind (arith, nat_tests)

-- what keeps a block

pub unused : (k : ℕ) (w : Records) → is_none (range_of k w.ranges) ≡ true → pins_of k w.queues ≡ 0 → is_in_use k w ≡ false
unused k w ended none = grind (arith, nat_tests)

pub used_pinned : (k : ℕ) (w : Records) → (pins_of k w.queues ≡ 0 → ⊥) → is_in_use k w ≡ true
used_pinned k w some = grind (arith, nat_tests)

-- the queues after the first one is gone, with the parts of which it is made
abbrev pub taken : QueuesState → WithHost → WithHost
taken queues x = record x { queues = queues }

-- the block of the first transfer has a mark
pub head_mark : (q : ℕ) (t : Transfer) (x y : WithHost) (queues : QueuesState) → AreMarked x → y ≡ transfer_made t (taken queues x) → AllZip IsMarkOf y.device.marks y.device.blocks → IsSome (block_at t.block x.device.blocks)
    → IsMarkAt x.present.table.ranges x.queues.queues y.device.marks t.block
head_mark q t x y queues marked is zip there =
    let zipped : AllZip IsMarkOf x.device.marks x.device.blocks = rw is at zip in
    rw is (mark_told x.present.table.ranges x.queues.queues t.block x.device.marks x.device.blocks zipped there marked)

pub head_pinned : (q : ℕ) (t : Transfer) (x y : WithHost) → head_of q x.queues.queues ≡ Some t → IsMarkAt x.present.table.ranges x.queues.queues y.device.marks t.block → 0 < pins_at t.block y.device.marks
head_pinned q t x y first mark = grind (arith, nat_tests, pins_popped q t x.queues.queues first)

-- its block is given back, with its attachment counters
pub last_steps : (q : ℕ) (t : Transfer) (x y : WithHost) (queues : QueuesState) (e : DeviceState) (b : AttachedState) → head_of q x.queues.queues ≡ Some t → queues.queues ≡ popped q x.queues.queues → queues.cap ≡ x.queues.cap → AreRoomsKept x.queues.spare queues.spare → AreMarked x
    → y ≡ transfer_made t (taken queues x) → AllZip (IsMemoryOf y.device.loans) y.device.memories y.device.blocks → IsMarkAt x.present.table.ranges x.queues.queues y.device.marks t.block → (is_ended_at t.block y.device.marks ≡ true) × (pins_at t.block y.device.marks ≡ 1)
    → IsRetired y.device e t.block → b.attached ≡ without_attachments t.block y.attached.attached → b.counter_max ≡ y.attached.counter_max → y.attached.spare ≤ b.spare → IsSteppedBy q x (record y { device = e; attached = b })
unfolding stepped released
last_steps q t x y queues e b first gone limit room marked is sized mark last retired forgot forgot_max forgot_spare = grind (arith, nat_tests, pins_popped, unused, memories_kept-without, state_from_parts, room_same, none_taken, marks_drained)

-- its block stays
pub more_steps : (q : ℕ) (t : Transfer) (x y : WithHost) (queues : QueuesState) (e : DeviceState) → head_of q x.queues.queues ≡ Some t → queues.queues ≡ popped q x.queues.queues → queues.cap ≡ x.queues.cap → AreRoomsKept x.queues.spare queues.spare → AreMarked x
    → y ≡ transfer_made t (taken queues x) → IsMarkAt x.present.table.ranges x.queues.queues y.device.marks t.block → ((is_ended_at t.block y.device.marks ≡ true) × (pins_at t.block y.device.marks ≡ 1) → ⊥)
    → IsUnpinned y.device e t.block → IsSteppedBy q x (record y { device = e })
unfolding stepped released
more_steps q t x y queues e first gone limit room marked is mark more unpinned = grind (arith, nat_tests, used_pinned, pins_popped, state_from_parts, room_same, none_taken, marks_unpinned)
