-- What is known of a task before its step is done, and what the step takes of the room.
use Rattle.std.specs.Prelude.{ℕ, ◌≡◌, ◌+◌, ◌<◌, ◌≤◌, ◌⊎◌, ◌^◌, Bool, true, false, ◌&&◌, List, [], ◌∷◌, ◌++◌, length, replicate, if◌then◌else◌, Option, Some, None, is_some, is_none, IsSome, Ok, ⊤}
use Rattle.std.specs.List.{AllByRecursion}
use Rattle.acc_base.specs.declared.addresses.TheConstants.{MEMORY_MAX}
use Rattle.acc_clauses.specs.Words.{Directive, Section, Item, RegionClause, Range, Task, Step, Did, Aim, Transfer}
use Rattle.acc_base.specs.declared.directives.Directive.TheVariants as directives
use Rattle.acc_base.specs.declared.mappings.Found.TheVariants.{Absent}
use Rattle.acc_base.specs.declared.tasks.Task.TheVariants.{Enter, ExitRegion, ExitData, Move}
use Rattle.acc_base.specs.declared.events.Step.TheVariants.{Nothing, Counted, Born, Dropped, Moved}
use Rattle.acc_base.specs.declared.attachments.Aim.TheVariants as aims
use Rattle.acc_base.specs.Limits.{Limits, IsFromOne}
use Rattle.acc_base.specs.Section.{end_of, is_within, host_memory}
use Rattle.acc_base.specs.Ranges.{range_of, where_is, ends_by}
use Rattle.acc_base.specs.Blocks.{rounded, place_for, block_at}
use Rattle.acc_base.specs.Attachments.{pointer_at, count_at}
use Rattle.acc_base.specs.Loans.{is_lent, not_lent, none_lent}
use Rattle.acc_base.specs.Records.{Records, State}
use Rattle.acc_base.specs.Queues.{queue_at, head_of, pins_of}
use Rattle.acc_base.specs.Judge.{transfers_in}
use Rattle.acc_base.specs.Tasks.{section_of, queue_of, recounted}
use Rattle.acc_base.specs.Transfers.{first_address, gives_bytes, transfer_at, transfer_of, at_once, room_for, queues_after}
use Rattle.acc_base.specs.Waits.{stepped}
use Rattle.acc_base.specs.Steps.{block_needed, judge_step, act}
use Rattle.acc_base.specs.Clauses.{is_attach, section_named, copies_in, is_zeroed}
use Rattle.acc_base.specs.Register.{region_at}
use Rattle.acc_base.specs.Bytes.{bytes_of, fill_byte, host_made, memories_made, step_state}
use Rattle.acc_base.specs.Pointers.{aimed}
use Rattle.acc_base.specs.Acting.{act_state}
use Rattle.acc_base.specs.History.{IsAimLegal}
use Rattle.acc_dev.specs.Host.{bytes_in}
use Rattle.acc_dev.specs.Device.{DeviceState, birth_place}
use Rattle.acc_dev.specs.Marks.{new_mark}
use Rattle.acc_present.specs.Present.{CanCount}
use Rattle.acc_present.specs.Queued.{QueuesState, spare_at}
use Rattle.acc_clauses.specs.Planned.{Planned, holdings_by}
use Rattle.acc_clauses.specs.Contents.{Numbers, Room, Contents, state_of, room_of, AreMarked, bare_state, WithHost}
use Rattle.acc_clauses.specs.Overlays.{is_queue, puts_by, puts_in}

-- ---- what is known of a task

-- the task is judged to do this, at some place of a list
pub record IsJudged (l : Limits) (task : Task) (did : Did) (w : Records) : Type 0 where
  pub item : ℕ
  pub step : judge_step l item task w ≡ Ok did.step
  pub aim : IsAimLegal l task did w

-- the block is mapped, and its range has each address of the section
pub record IsMappedAround (w : Records) (section : Section) (block : ℕ) : Type 0 where
  pub range : Range
  pub range_is : range_of block w.ranges ≡ Some range
  pub within : is_within section range.section ≡ true

-- a task that undoes a holding finds the block that was counted
abbrev pub IsKnown : Records → Task → Type 0
IsKnown w (ExitRegion holding) = (block : ℕ) → holding.block ≡ Some block → IsMappedAround w holding.item.section block
IsKnown w _ = ⊤

-- each task that undoes a holding finds the block that was counted, in what the tasks before it leave
abbrev pub AreKnown : List Task → List Did → Records → Type 0
AreKnown (task ∷ tasks) (did ∷ dids) w = IsKnown w task × AreKnown tasks dids (act task did w)
AreKnown _ _ w = ⊤

-- ---- what each step needs

-- entry is the one task that gives birth to a block
abbrev pub IsEnter : Task → Type 0
IsEnter (Enter counter item queue) = ⊤
IsEnter _ = ⊥

-- the section can be copied between host memory and a block. It lies in host memory, which is not too large, and in the
-- range that is mapped to the block. The block is there and, unless it is lent, as long as that range
pub record CanMove (section : Section) (block : ℕ) (s : State) : Type 0 where
  pub in_host : is_within section (host_memory (length s.host)) ≡ true
  pub end : end_of section ≤ 2 ^ 40
  pub range : Range
  pub range_is : range_of block s.records.ranges ≡ Some range
  pub within : is_within section range.section ≡ true
  pub there : IsSome (block_at block s.records.blocks)
  pub len : is_lent block s.records.loans ≡ false → length (bytes_of block s.memories) ≡ range.section.len

-- the section can be copied between host memory and a block that is not lent, whose bytes are those from a host address
-- on. It lies in host memory, and among them
pub record CanCopy (section : Section) (block start : ℕ) (s : State) : Type 0 where
  pub in_host : is_within section (host_memory (length s.host)) ≡ true
  pub end : end_of section ≤ 2 ^ 40
  pub there : IsSome (block_at block s.records.blocks)
  pub free : is_lent block s.records.loans ≡ false
  pub within : is_within section (record { start = start; len = length (bytes_of block s.memories) }) ≡ true

-- the transfer can be made
abbrev pub CanTransfer : Transfer → State → Type 0
CanTransfer t s = CanCopy t.section t.block (first_address t) s

-- the transfer can be put into a queue, where it keeps its block
pub record CanPut (q : ℕ) (t : Transfer) (queues : QueuesState) (device : DeviceState) : Type 0 where
  pub room : length (queue_at q queues.queues) < queues.cap
  pub spare : 1 ≤ spare_at q queues.spare
  pub there : IsSome (block_at t.block device.blocks)

-- so can the first one of a queue
abbrev pub CanStep : ℕ → WithHost → Type 0
CanStep q x = (t : Transfer) → head_of q x.queues.queues ≡ Some t → CanTransfer t (bare_state x)

-- at once, or into the queue that is named
abbrev pub CanMoveBytes : Option ℕ → Transfer → WithHost → Type 0
CanMoveBytes None t x = CanTransfer t (bare_state x)
CanMoveBytes (Some q) t x = CanPut q t x.queues x.device

-- the queue of a task has room for the transfer of its step
abbrev pub CanQueue : Task → Step → WithHost → Type 0
CanQueue task step x = room_for x.queues.cap (queue_of task) (transfer_of task step x.present.table.ranges) x.queues.queues ≡ Ok tt

-- the block that a step needs is not lent
abbrev pub CanNeed : Task → Step → WithHost → Type 0
CanNeed task step x = not_lent (block_needed task step) x.device.loans ≡ Ok tt

-- the section can be mapped to a new block of this number at this place
pub record CanBear (counter_max : ℕ) (memory section : Section) (block place : ℕ) (s : State) : Type 0 where
  pub in_host : is_within section (host_memory (length s.host)) ≡ true
  pub absent : where_is section s.records.ranges ≡ Absent
  pub len : IsFromOne MEMORY_MAX section.len
  pub number : block ≡ s.records.births + 1
  pub place_is : place_for memory s.records.blocks (rounded section.len) ≡ Some place
  pub few : s.records.births < 2 ^ 48
  pub no_range : AllByRecursion (λ r. r.block ≡ block → ⊥) s.records.ranges
  pub no_memory : AllByRecursion (λ m. m.block ≡ block → ⊥) s.memories
  pub no_pointer : AllByRecursion (λ a. a.block ≡ block → ⊥) s.records.attached
  pub no_transfer : pins_of block s.records.queues ≡ 0
  pub no_loan : is_lent block s.records.loans ≡ false
  pub counted : 0 < counter_max

-- a counter of the block's range can fall, by a task that does not enter. The mapping ends by it exactly if the step
-- says so
pub record CanDrop (task : Task) (block : ℕ) (ended : Bool) (s : State) : Type 0 where
  pub move : CanMove (section_of task) block s
  pub not_entry : IsEnter task → ⊥
  pub ends : ends_by (recounted task) block s.records.ranges ≡ ended

-- the counter of a pointer in a block can be set: the block, which is not lent, has the pointer's eight bytes
pub record CanAttach (pointer block : ℕ) (s : State) : Type 0 where
  pub move : CanMove (pointer_at pointer) block s
  pub free : is_lent block s.records.loans ≡ false

-- the counter of a pointer in a block can fall. It is above zero, and the block, which is not lent, has the pointer's
-- eight bytes
pub record CanDetach (pointer block : ℕ) (s : State) : Type 0 where
  pub some : 0 < count_at block pointer s.records.attached
  pub move : CanMove (pointer_at pointer) block s
  pub free : is_lent block s.records.loans ≡ false

-- and can rise, up to its limit
pub record CanAgain (pointer_max pointer block : ℕ) (s : State) : Type 0 where
  pub some : 0 < count_at block pointer s.records.attached
  pub below : count_at block pointer s.records.attached < pointer_max

-- before an attachment or a detachment, with the limit of the attachment counters
abbrev pub CanAim : ℕ → Aim → State → Type 0
CanAim pointer_max aims.None s = ⊤
CanAim pointer_max (aims.New pointer block target) s = CanAttach pointer block s
CanAim pointer_max (aims.Again pointer block) s = CanAgain pointer_max pointer block s
CanAim pointer_max (aims.Less pointer block) s = CanDetach pointer block s
CanAim pointer_max (aims.Cleared pointer block) s = CanDetach pointer block s

-- before a step, with the limit of the counters and the memory of the device
abbrev pub CanAct : ℕ → Section → Task → Step → State → Type 0
CanAct counter_max memory task Nothing s = ⊤
CanAct counter_max memory task (Counted block) s = CanCount counter_max task block s.records.ranges
CanAct counter_max memory task (Born block place) s = IsEnter task × CanBear counter_max memory (section_of task) block place s
CanAct counter_max memory task (Dropped block ended) s = CanDrop task block ended s
CanAct counter_max memory task (Moved block) s = CanMove (section_of task) block s

-- before a task: entry attaches after its step, and exit detaches before its step
pub record CanEnter (x : WithHost) (task : Task) (did : Did) : Type 0 where
  pub step : CanAct x.present.table.counter_max x.device.memory task did.step (bare_state x)
  pub aim : CanAim x.attached.counter_max did.aim (step_state task did.step (bare_state x))
  pub needed : CanNeed task did.step x
  pub queue : CanQueue task did.step x

pub record CanLeave (x : WithHost) (task : Task) (did : Did) : Type 0 where
  pub aim : CanAim x.attached.counter_max did.aim (bare_state x)
  pub step : CanAct x.present.table.counter_max x.device.memory task did.step (aimed did.aim (bare_state x))
  pub needed : CanNeed task did.step x
  pub queue : CanQueue task did.step x

abbrev pub CanDo : WithHost → Task → Did → Type 0
CanDo x (Enter counter item queue) did = CanEnter x (Enter counter item queue) did
CanDo x (ExitRegion holding) did = CanLeave x (ExitRegion holding) did
CanDo x (ExitData finalize item queue) did = CanLeave x (ExitData finalize item queue) did
CanDo x (Move if_present item queue) did = CanLeave x (Move if_present item queue) did

-- ---- what a task takes of the room

-- the length of the block that a step gives birth to, if it does
abbrev pub birth_of : Task → Step → List ℕ
birth_of task (Born block place) = (section_of task).len ∷ []
birth_of task _ = []

-- the lengths of the blocks that tasks give birth to, one after the other
abbrev pub lens_born : List Task → List Did → List ℕ
lens_born (task ∷ tasks) (did ∷ dids) = birth_of task did.step ++ lens_born tasks dids
lens_born _ _ = []

-- how many attachment counters more an attachment takes
abbrev pub pointers_of : Aim → ℕ
pointers_of (aims.New pointer block target) = 1
pointers_of _ = 0

-- and how many all of these do
abbrev pub pointers_in : List Did → ℕ
pointers_in [] = 0
pointers_in (did ∷ dids) = pointers_of did.aim + pointers_in dids

-- there is room for births of these lengths, which come next
pub record HasRoomFor (births : List ℕ) (room : Room) : Type 0 where
  pub rest : List ℕ
  pub births_are : room.births ≡ births ++ rest
  pub ranges : length births ≤ room.ranges

-- there is room in the queues for so many transfers each
abbrev pub HasPutRoom : (ℕ → ℕ) → Room → Type 0
HasPutRoom puts room = (q : ℕ) → puts q ≤ spare_at q room.puts

-- there is room for so many regions, the next of which has so many holdings
pub record HasRegionRoom (regions holdings : ℕ) (room : Room) : Type 0 where
  pub regions_fit : regions ≤ room.regions
  pub holdings_fit : holdings ≤ room.holdings

-- births of these lengths, so many attachment counters and so many transfers in each queue took their room, and nothing
-- else was taken
pub record IsRoomLeft (births : List ℕ) (pointers : ℕ) (put : ℕ → ℕ) (old new : Room) : Type 0 where
  pub births_are : old.births ≡ births ++ new.births
  pub ranges : old.ranges ≤ new.ranges + length births
  pub regions : old.regions ≤ new.regions
  pub holdings : old.holdings ≤ new.holdings
  pub attachments : old.attachments ≤ new.attachments + pointers
  pub puts : (q : ℕ) → spare_at q old.puts ≤ spare_at q new.puts + put q

-- ---- what a task makes of the parts

-- the parts before a change of their state and after it, which took this room and kept the marks of blocks right
pub record IsChangedBy (change : State → State) (births : List ℕ) (pointers : ℕ) (put : ℕ → ℕ) (old new : WithHost) : Type 0 where
  pub state : (next : Numbers) → state_of new next ≡ change (state_of old next)
  pub counter_max : new.present.table.counter_max ≡ old.present.table.counter_max
  pub memory : new.device.memory ≡ old.device.memory
  pub pointer_max : new.attached.counter_max ≡ old.attached.counter_max
  pub queue_cap : new.queues.cap ≡ old.queues.cap
  pub room : IsRoomLeft births pointers put (room_of old) (room_of new)
  pub marked : AreMarked new

-- one transfer, made at once or put into the queue that is named
abbrev pub moved_state : Option ℕ → Transfer → State → State
moved_state queue t s = record s {
  records = record s.records { queues = queues_after queue (Some t) s.records.queues };
  host = host_made (at_once queue (Some t)) s.records.attached s.memories s.host;
  memories = memories_made (at_once queue (Some t)) s.records.attached s.host s.memories;
}

abbrev pub IsMovedBy : Option ℕ → Transfer → WithHost → WithHost → Type 0
IsMovedBy queue t old new = IsChangedBy (moved_state queue t) [] 0 (λ q. if is_queue q queue then 1 else 0) old new

-- the copy to a new block, if the clause copies, put into the queue that is named; without a queue it was made before
abbrev pub filled_later : Option ℕ → Item RegionClause → ℕ → State → State
filled_later queue item block s = if copies_in item.clause && is_some queue then moved_state queue (record { block = block; offset = 0; section = section_named (is_attach item.clause) item.section; out = false }) s else s

abbrev pub IsFilledLater : Option ℕ → Item RegionClause → ℕ → WithHost → WithHost → Type 0
IsFilledLater queue item block old new = IsChangedBy (filled_later queue item block) [] 0 (λ q. if is_queue q queue && copies_in item.clause then 1 else 0) old new

-- the copy to host memory before a mapping ends, if the task copies
abbrev pub given_state : Task → ℕ → State → State
given_state task block s = if gives_bytes task then moved_state (queue_of task) (transfer_at task block s.records.ranges) s else s

abbrev pub IsGivenBy : Task → ℕ → WithHost → WithHost → Type 0
IsGivenBy task block old new = IsChangedBy (given_state task block) [] 0 (λ q. puts_by q task (Dropped block true)) old new

-- the first transfer of a queue is made
abbrev pub IsSteppedBy : ℕ → WithHost → WithHost → Type 0
IsSteppedBy q old new = IsChangedBy (stepped q) [] 0 (λ q. 0) old new

-- a step
abbrev pub IsActedBy : Task → Step → WithHost → WithHost → Type 0
IsActedBy task step old new = IsChangedBy (step_state task step) (birth_of task step) 0 (λ q. puts_by q task step) old new

-- an attachment or a detachment
abbrev pub IsAimedBy : Aim → WithHost → WithHost → Type 0
IsAimedBy aim old new = IsChangedBy (aimed aim) [] (pointers_of aim) (λ q. 0) old new

-- both
abbrev pub IsDoneBy : Task → Did → WithHost → WithHost → Type 0
IsDoneBy task did old new = IsChangedBy (act_state task did) (birth_of task did.step) (pointers_of did.aim) (λ q. puts_by q task did.step) old new

-- ---- a new block

-- the next birth of the device is of a block as long as the section, which lies in host memory and fits
pub record CanMake (d : DeviceState) (host : List ℕ) (section : Section) : Type 0 where
  pub in_host : is_within section (host_memory (length host)) ≡ true
  pub len : IsFromOne MEMORY_MAX section.len
  pub fits : birth_place d section.len ≡ None → ⊥
  pub few : d.births < 2 ^ 48
  pub rest : List ℕ
  pub room : d.room ≡ section.len ∷ rest

-- the bytes of a new block: those of the section, where it is copied at once, or the byte that fills it
abbrev pub bytes_made : Bool → Section → RegionClause → List ℕ → List ℕ
bytes_made copied section clause host = if copied then bytes_in host section else replicate section.len (fill_byte (is_zeroed clause))

-- the section of a new block is copied there at once: by the clause, and without a queue
abbrev pub is_copied_now : RegionClause → Option ℕ → Bool
is_copied_now clause queue = copies_in clause && is_none queue

-- the new device is the old one with a block more, which has these bytes
pub record IsBlockMade (old new : DeviceState) (copied : Bool) (section : Section) (clause : RegionClause) (host : List ℕ) : Type 0 where
  pub place : ℕ
  pub place_is : birth_place old section.len ≡ Some place
  pub memory : new.memory ≡ old.memory
  pub blocks : new.blocks ≡ old.blocks ++ record { number = old.births + 1; place = place; len = section.len } ∷ []
  pub memories : new.memories ≡ old.memories ++ record { block = old.births + 1; bytes = bytes_made copied section clause host } ∷ []
  pub marks : new.marks ≡ old.marks ++ new_mark (old.births + 1) ∷ []
  pub loans : new.loans ≡ old.loans
  pub births : new.births ≡ old.births + 1
  pub room : old.room ≡ section.len ∷ new.room

-- ---- a write of the host

-- the section is empty, or lies in host memory
abbrev pub CanWrite : Section → List ℕ → Type 0
CanWrite section host = 0 < section.len → is_within section (host_memory (length host)) ≡ true

-- ---- the register

-- a region of the next number can be opened with so many holdings
pub record CanOpen (holdings : ℕ) (c : Contents) : Type 0 where
  pub next : c.state.register.next < 2 ^ 48
  pub new : region_at c.state.register.next c.state.register.regions ≡ None
  pub room : HasRegionRoom 1 holdings c.room

-- what a directive needs of the register and its room, and of the transfers that it makes. A region that it enters has
-- so many holdings
abbrev pub CanFinish : Directive → ℕ → Contents → Type 0
CanFinish (directives.Enter device items) holdings c = CanOpen holdings c
CanFinish (directives.Exit number) holdings c = IsSome (region_at number c.state.register.regions)
CanFinish d holdings c = none_lent (transfers_in d c.state.records.queues) c.state.records.loans ≡ Ok tt

-- how many regions a directive enters
abbrev pub regions_entered : Directive → ℕ
regions_entered (directives.Enter device items) = 1
regions_entered _ = 0

-- there is room for all that a plan of a directive takes in
pub record HasPlanRoom (d : Directive) (p : Planned) (room : Room) : Type 0 where
  pub births : HasRoomFor (lens_born p.tasks p.dids) room
  pub region : HasRegionRoom (regions_entered d) (length (holdings_by p.tasks p.dids)) room
  pub pointers : pointers_in p.dids ≤ room.attachments
  pub puts : HasPutRoom (λ q. puts_in q p.tasks p.dids) room

-- a birth always allocates, for its bytes; else room is missing for so many regions, for so many holdings, or for so
-- many attachment counters
abbrev pub LacksRoom : List ℕ → ℕ → ℕ → ℕ → Room → Type 0
LacksRoom lens regions holdings pointers room = (0 < length lens) ⊎ (room.regions < regions) ⊎ (room.holdings < holdings) ⊎ (room.attachments < pointers)

-- for a plan of a directive, also for its transfers in some queue
abbrev pub LacksPlanRoom : Directive → Planned → Room → Type 0
LacksPlanRoom d p room = LacksRoom (lens_born p.tasks p.dids) (regions_entered d) (length (holdings_by p.tasks p.dids)) (pointers_in p.dids) room ⊎ ((q : ℕ) × (spare_at q room.puts < puts_in q p.tasks p.dids))
