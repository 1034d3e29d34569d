-- What holds of every world that accepted calls lead to. On each device ranges and blocks are apart and account for
-- every used byte, and every counter is what the history gives.
use Rattle.std.specs.Prelude.{ℕ, ◌+◌, ◌%◌, ◌≡◌, ◌<◌, ◌≤◌, ◌⊎◌, true, false, List, [], ◌∷◌, length, Some, IsSome, Ok, ⊤}
use Rattle.std.specs.List.{AllByRecursion, AllZip}
use Rattle.acc_base.specs.Words.{Section, Range, Block, Attachment, Transfer, Loan, Event}
use Rattle.acc_base.specs.declared.transfers.TheConstants.{QUEUE_COUNT}
use Rattle.acc_base.specs.Limits.{Limits, limits_on}
use Rattle.acc_base.specs.Section.{end_of, is_within, host_memory, device_memory}
use Rattle.acc_base.specs.Ranges.{range_of, structured_of}
use Rattle.acc_base.specs.Blocks.{block_at, block_end, used_bytes}
use Rattle.acc_base.specs.Attachments.{IsBefore, IsCountWithin, count_at}
use Rattle.acc_base.specs.Loans.{is_lent}
use Rattle.acc_base.specs.Register.{Region, Register, held_in}
use Rattle.acc_base.specs.Records.{Records, Memory, Layout, State, layout_of}
use Rattle.acc_base.specs.Steps.{is_in_use}
use Rattle.acc_base.specs.Acting.{judge_all}
use Rattle.acc_base.specs.Walk.{asked_in, done_in}
use Rattle.acc_base.specs.Devices.{Whole, WholeLayout, device_at, device_layout_of, whole_layout_of, new_device_layout, new_whole, new_whole_layout, open_regions, device_in, view, events_on, walk_all_on, after_told, replayed, device_layout_alone}
use Rattle.acc_base.specs.Calls.{Base, History, World, event_count}
use Rattle.acc_base.specs.History.{Past, entries_in, exits_in, dynamic_in, attached_in, AreLegal}

-- each one is related to each later one
abbrev pub EachPair : {X : Type 0} → (X → X → Type 0) → List X → Type 0
EachPair related [] = ⊤
EachPair related (x ∷ xs) = AllByRecursion (related x) xs × EachPair related xs

-- ---- mapped ranges

-- the section is not empty and lies in host memory
pub record IsHostSection (l : Limits) (s : Section) : Type 0 where
  pub some : 0 < s.len
  pub within : is_within s (host_memory l.host) ≡ true

-- the one ends before the other begins
abbrev pub IsBelow : Section → Section → Type 0
IsBelow s t = end_of s ≤ t.start

-- mapped ranges are not empty, lie in host memory, and rise without overlap
pub record AreRangesApart (l : Limits) (ranges : List Range) : Type 0 where
  pub in_host : AllByRecursion (λ r. IsHostSection l r.section) ranges
  pub rising : EachPair (λ (r : Range) (t : Range). IsBelow r.section t.section) ranges

-- ---- device blocks

-- the block lies in device memory, and begins at a multiple of 16
pub record IsOnDevice (memory : Section) (b : Block) : Type 0 where
  pub some : 0 < b.len
  pub first : memory.start ≤ b.place
  pub last : block_end b ≤ end_of memory
  pub aligned : b.place % 16 ≡ 0

-- no address is in both, and the one was born before the other
pub record IsClearOf (b c : Block) : Type 0 where
  pub addresses : (block_end b ≤ c.place) ⊎ (block_end c ≤ b.place)
  pub numbers : b.number < c.number

-- blocks lie in device memory, do not overlap, and stand in the order of their births
pub record AreBlocksApart (memory : Section) (blocks : List Block) (births : ℕ) : Type 0 where
  pub on_device : AllByRecursion (IsOnDevice memory) blocks
  pub apart : EachPair IsClearOf blocks
  pub born : AllByRecursion (λ b. b.number ≤ births) blocks

-- ---- ranges and blocks

-- the block that the range is mapped to is there, and as long as the range
abbrev pub IsMapped : List Block → Range → Type 0
IsMapped blocks r = (b : Block) × (block_at r.block blocks ≡ Some b) × (b.len ≡ r.section.len)

-- each range has a block of its own, and each block is some range's or some queued transfer's
pub record HasOneBlockEach (w : Records) : Type 0 where
  pub mapped : AllByRecursion (IsMapped w.blocks) w.ranges
  pub distinct : EachPair (λ (r : Range) (t : Range). r.block ≡ t.block → ⊥) w.ranges
  pub in_use : AllByRecursion (λ b. is_in_use b.number w ≡ true) w.blocks

-- ---- attachment counters

-- attachment counters stand by rising block and then by rising pointer, each from one to the limit, and their blocks
-- are there
pub record AreAttachmentsSound (l : Limits) (blocks : List Block) (attached : List Attachment) : Type 0 where
  pub rising : EachPair IsBefore attached
  pub counted : AllByRecursion (IsCountWithin l.counter_max) attached
  pub there : AllByRecursion (λ a. IsSome (block_at a.block blocks)) attached

-- ---- queued transfers

-- the section of a queued transfer is not empty, lies in host memory, and from the offset on in its block, which is
-- there
pub record IsTransferSound (l : Limits) (blocks : List Block) (t : Transfer) : Type 0 where
  pub block : Block
  pub there : block_at t.block blocks ≡ Some block
  pub in_host : IsHostSection l t.section
  pub offset : t.offset ≤ t.section.start
  pub within : t.offset + t.section.len ≤ block.len

-- there are the queues, each within the limit, and what waits in them can be made
pub record AreQueuesSound (l : Limits) (blocks : List Block) (queues : List (List Transfer)) : Type 0 where
  pub all : length queues ≡ QUEUE_COUNT
  pub limit : AllByRecursion (λ (ts : List Transfer). length ts ≤ l.queue_cap) queues
  pub transfers : AllByRecursion (AllByRecursion (IsTransferSound l blocks)) queues

-- ---- counters and the register

-- the counters of a range are at most the limit, and not both zero
pub record IsCounted (l : Limits) (r : Range) : Type 0 where
  pub some : 0 < r.structured + r.dynamic
  pub structured : r.structured ≤ l.counter_max
  pub dynamic : r.dynamic ≤ l.counter_max

-- open regions stand by rising number, below the next one, and hold what at most 64 items counted
pub record IsRegisterSound (g : Register) : Type 0 where
  pub first : 1 ≤ g.next
  pub rising : EachPair (λ (r : Region) (t : Region). r.number < t.number) g.regions
  pub known : AllByRecursion (λ (r : Region). r.number < g.next) g.regions
  pub few : AllByRecursion (λ (r : Region). length r.holdings ≤ 64) g.regions

-- the structured counter of each block's range is how often open regions hold it; a block that is held is mapped
abbrev pub AreHeld : Layout → Type 0
AreHeld lay = (block : ℕ) → structured_of block lay.records.ranges ≡ held_in block lay.register.regions

-- ---- loans

-- the block of the loan is mapped, and the section, which is not empty, lies in it
pub record IsLoanSound (ranges : List Range) (l : Loan) : Type 0 where
  pub range : Range
  pub mapped : range_of l.block ranges ≡ Some range
  pub some : 0 < l.len
  pub within : l.offset + l.len ≤ range.section.len

-- a block is lent once at most, and only while it is mapped
pub record AreLoansSound (ranges : List Range) (loans : List Loan) : Type 0 where
  pub rising : EachPair (λ (l : Loan) (m : Loan). l.block < m.block) loans
  pub sound : AllByRecursion (IsLoanSound ranges) loans

-- ---- memories

-- the memory is the block's, and as long, unless the block is lent
pub record IsMemoryOf (loans : List Loan) (m : Memory) (b : Block) : Type 0 where
  pub block : m.block ≡ b.number
  pub len : is_lent b.number loans ≡ false → length m.bytes ≡ b.len

-- host memory has its size, and each block, in order, a memory
pub record AreMemoriesSized (l : Limits) (s : State) : Type 0 where
  pub host : length s.host ≡ l.host
  pub blocks : AllZip (IsMemoryOf s.records.loans) s.memories s.records.blocks

-- ---- what holds of a state, whatever led to it

-- the records alone, which a directive keeps from item to item
pub record AreRecordsSound (l : Limits) (w : Records) : Type 0 where
  pub ranges_apart : AreRangesApart l w.ranges
  pub blocks_apart : AreBlocksApart (device_memory l) w.blocks w.births
  pub one_block_each : HasOneBlockEach w
  pub counted : AllByRecursion (IsCounted l) w.ranges
  pub attached : AreAttachmentsSound l w.blocks w.attached
  pub queues : AreQueuesSound l w.blocks w.queues
  pub loans : AreLoansSound w.ranges w.loans

-- records and register together, which a directive keeps as a whole
pub record IsLayoutSound (l : Limits) (lay : Layout) : Type 0 where
  pub records : AreRecordsSound l lay.records
  pub register : IsRegisterSound lay.register
  pub held : AreHeld lay

pub record IsSound (l : Limits) (s : State) : Type 0 where
  pub layout : IsLayoutSound l (layout_of s)
  pub bytes_accounted : used_bytes s.records.blocks ≤ l.device
  pub memories_sized : AreMemoriesSized l s

-- ---- the history

-- what a device had at the base of a history, and its events since
abbrev pub past_on : ℕ → History → Past
past_on d h = record { records = (device_at d h.base.state.devices).records; trace = events_on d h.trace }

-- both counters of a range are those of its device's past: the structured one with the exits makes up the entries
pub record IsTraced (p : Past) (r : Range) : Type 0 where
  pub structured : r.structured + exits_in r.block p ≡ entries_in r.block p
  pub dynamic : r.dynamic ≡ dynamic_in r.block p

-- of each block, whether it is mapped or not, open regions hold what entries counted and exits have not dropped
abbrev pub AreEntriesHeld : Past → Register → Type 0
AreEntriesHeld p g = (block : ℕ) → held_in block g.regions + exits_in block p ≡ entries_in block p

-- the attachment counters of the blocks are those of the past
abbrev pub AreAttachmentsTraced : Past → Records → Type 0
AreAttachmentsTraced p w = (block pointer : ℕ) → IsSome (block_at block w.blocks) → count_at block pointer w.attached ≡ attached_in block pointer p

-- with bytes: an event did what its items are judged to do in this state
abbrev pub IsMadeIn : Limits → Event → State → Type 0
IsMadeIn l e s = judge_all l 0 (asked_in e s.register) s ≡ Ok (done_in e)

-- each event in what the events before it led to
abbrev pub AreMadeIn : Limits → List Event → Whole → Type 0
AreMadeIn l [] w = ⊤
AreMadeIn l (e ∷ events) w = IsMadeIn (limits_on (device_in e) l) e (view (device_in e) w) × AreMadeIn l events (after_told e w)

-- and they lead from the one state to the other
pub record IsReplay (l : Limits) (events : List Event) (from to : Whole) : Type 0 where
  pub made : AreMadeIn l events from
  pub leads : replayed events from ≡ to

-- some legal events, as many as the base says, lead to it from a new table. On each device its own events alone do, and
-- with full traces bytes included
pub record IsFounded (l : Limits) (base : Base) : Type 0 where
  pub events : List Event
  pub count : length events ≡ base.events
  pub legal : AreLegal l events (new_whole_layout l.devices)
  pub leads : walk_all_on events (new_whole_layout l.devices) ≡ whole_layout_of base.state
  pub alone : (d : ℕ) → device_layout_of (device_at d base.state.devices) ≡ device_layout_alone new_device_layout (events_on d events)
  pub replayed : l.full ≡ true → IsReplay l events (new_whole l.devices l.host) base.state

-- the history is legal from its base on and leads to what the devices have but bytes
pub record IsHistoryLegal (l : Limits) (h : History) (w : WholeLayout) : Type 0 where
  pub founded : IsFounded l h.base
  pub legal : AreLegal l h.trace (whole_layout_of h.base.state)
  pub leads : walk_all_on h.trace (whole_layout_of h.base.state) ≡ w

-- there are no more events than tickets and places in the trace, and no more open regions on all devices than the limit
-- says
pub record AreBooksCounted (w : World) : Type 0 where
  pub tickets : event_count w.history ≤ w.limits.tickets
  pub trace : length w.history.trace ≤ w.limits.trace_cap
  pub regions : open_regions w.state ≤ w.limits.regions

-- with full traces the stored events are legal from the base on, bytes included, and give all memories and all else
abbrev pub IsReplayed : World → Type 0
IsReplayed w = w.limits.full ≡ true → IsReplay w.limits w.history.trace w.history.base.state w.state

-- ---- what holds of a device, and of a world

-- a device's view is sound, and its counters are those of its past. It has what its own events alone lead to, whatever
-- happened on other devices
pub record IsAccountedOn (l : Limits) (h : History) (d : ℕ) (w : Whole) : Type 0 where
  pub sound : IsSound (limits_on d l) (view d w)
  pub counters_traced : AllByRecursion (IsTraced (past_on d h)) (view d w).records.ranges
  pub attachments_traced : AreAttachmentsTraced (past_on d h) (view d w).records
  pub entries_held : AreEntriesHeld (past_on d h) (view d w).register
  pub alone : device_layout_of (device_at d w.devices) ≡ device_layout_alone (device_layout_of (device_at d h.base.state.devices)) (events_on d h.trace)

pub record IsAccounted (w : World) : Type 0 where
  pub as_many : length w.state.devices ≡ w.limits.devices
  pub devices : (d : ℕ) → d < w.limits.devices → IsAccountedOn w.limits w.history d w.state
  pub history_legal : IsHistoryLegal w.limits w.history (whole_layout_of w.state)
  pub memories_replayed : IsReplayed w
  pub books_counted : AreBooksCounted w
