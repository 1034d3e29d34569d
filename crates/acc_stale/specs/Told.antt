-- What is told of blocks beside what an event did: with the step and the pointer of an item, with a queued transfer
-- that is made, and with a lease that is back.
use Rattle.std.specs.Prelude.{ℕ, ◌≡◌, ◌≢◌, ◌<◌, ◌+◌, ◌-◌, Bool, true, false, List, [], take, drop, length, slice_index_or, Option, Some, None, ⊤}
use Rattle.acc_base.specs.declared.attachments.Attachment.{Attachment}
use Rattle.acc_base.specs.declared.mappings.Range.{Range}
use Rattle.acc_base.specs.declared.attachments.Aim.{Aim}
use Rattle.acc_base.specs.declared.attachments.Aim.TheVariants as aims
use Rattle.acc_base.specs.declared.items.Section.{Section}
use Rattle.acc_base.specs.declared.tasks.Task.{Task}
use Rattle.acc_base.specs.declared.tasks.Task.TheVariants.{Enter}
use Rattle.acc_base.specs.declared.events.Did.{Did}
use Rattle.acc_base.specs.declared.events.Step.{Step}
use Rattle.acc_base.specs.declared.events.Step.TheVariants.{Born, Dropped, Moved}
use Rattle.acc_base.specs.declared.transfers.Transfer.{Transfer}
use Rattle.acc_base.specs.Section.{host_base}
use Rattle.acc_base.specs.Tasks.{section_of}
use Rattle.acc_base.specs.Ranges.{start_of}
use Rattle.acc_base.specs.Blocks.{place_of}
use Rattle.acc_base.specs.Attachments.{count_at}
use Rattle.acc_base.specs.Queues.{head_of}
use Rattle.acc_base.specs.Records.{State}
use Rattle.acc_base.specs.Bytes.{bytes_of, step_state}
use Rattle.acc_base.specs.Pointers.{aimed}
use Rattle.acc_base.specs.Replay.{offset_lent}
use Rattle.acc_stale.specs.declared.known.Placed.{Placed}
use Rattle.acc_stale.specs.declared.items.ItemDone.{ItemDone}
use Rattle.acc_stale.specs.declared.items.Holder.{Holder}
use Rattle.acc_stale.specs.Known.{Known, born}
use Rattle.acc_stale.specs.Events.{placed_in, placed_new, mapped_at, pointers_of, zeroes, known_made}

-- the range that is mapped to the block of a step which copies begins there
abbrev pub StartsAt : Step → ℕ → List Range → Type 0
StartsAt (Dropped block true) start ranges = start_of block ranges ≡ start
StartsAt (Moved block) start ranges = start_of block ranges ≡ start
StartsAt _ start ranges = ⊤

-- a block that was there before lies where it is told, and these are its attached pointers
pub record IsThere (p : Placed) (block : ℕ) (attached : List Attachment) (s : State) : Type 0 where
  pub placed : p ≡ placed_in p.device block s
  pub pointers : attached ≡ pointers_of block s.records.attached

-- what is told of the block of a step is so; a new block lies where the step says, and has no attached pointer
abbrev pub IsStepBlockTold : Placed → Task → Step → List Attachment → State → Type 0
IsStepBlockTold p task (Born block place) attached s = (p ≡ placed_new p.device block place task) × (attached ≡ [])
IsStepBlockTold p task (Dropped block true) attached s = IsThere p block attached s
IsStepBlockTold p task (Moved block) attached s = IsThere p block attached s
IsStepBlockTold p task _ attached s = ⊤

-- ---- a step as it is told

-- a block is made, where the step makes one
abbrev pub begun_told : Placed → Task → Step → Known → Known
begun_told p task (Born block place) k = born (mapped_at p (section_of task)) (zeroes task) k
begun_told p task _ k = k

-- a transfer is made, if there is one
abbrev pub made_told : Placed → Option Transfer → List Attachment → Known → Known
made_told p None attached k = k
made_told p (Some t) attached k = known_made p t attached k

-- ---- an item as it is told: its step and its pointer

-- an item that enters attaches its pointer after its step, and others detach it before
abbrev pub enters : Task → Bool
enters (Enter counter item queue) = true
enters _ = false

-- the step touches the bytes of no block
abbrev pub TouchesNone : Step → Type 0
TouchesNone (Born block place) = ⊥
TouchesNone (Dropped block true) = ⊥
TouchesNone (Moved block) = ⊥
TouchesNone _ = ⊤

-- the range of the block of a step begins where that lies
abbrev pub StartsIn : Option Placed → Step → List Range → Type 0
StartsIn None step ranges = TouchesNone step
StartsIn (Some p) step ranges = StartsAt step p.start ranges

-- what is told of the block of a step on a device, if it has one, is so
abbrev pub IsStepTold : ℕ → Option Placed → Task → Step → List Attachment → State → Type 0
IsStepTold d None task step attached s = TouchesNone step
IsStepTold d (Some p) task step attached s = (p.device ≡ d) × IsStepBlockTold p task step attached s

-- what is told of the block that holds the pointer of an item is so: where it lies, and how often the pointer was
-- attached
abbrev pub IsHolder : Holder → Aim → State → Type 0
IsHolder h (aims.New pointer block target) s = h.placed ≡ placed_in h.placed.device block s
IsHolder h (aims.Less pointer block) s = (h.placed ≡ placed_in h.placed.device block s) × (h.count ≡ count_at block pointer s.records.attached)
IsHolder h (aims.Cleared pointer block) s = h.placed ≡ placed_in h.placed.device block s
IsHolder h _ s = ⊤

-- the pointer's bytes stay as they are
abbrev pub LeavesPointer : Aim → Type 0
LeavesPointer (aims.New pointer block target) = ⊥
LeavesPointer (aims.Less pointer block) = ⊥
LeavesPointer (aims.Cleared pointer block) = ⊥
LeavesPointer _ = ⊤

-- the same on a device, if there is such a block
abbrev pub IsAimTold : ℕ → Option Holder → Aim → State → Type 0
IsAimTold d None aim s = LeavesPointer aim
IsAimTold d (Some h) aim s = (h.placed.device ≡ d) × IsHolder h aim s

-- what an item finds for its step, and what for its pointer
abbrev pub before_step : Task → Did → State → State
before_step (Enter counter item queue) did s = s
before_step task did s = aimed did.aim s

abbrev pub before_aim : Task → Did → State → State
before_aim (Enter counter item queue) did s = step_state (Enter counter item queue) did.step s
before_aim task did s = s

-- what is told of an item that acted on a state is so
pub record IsItemTold (a : ItemDone) (attached : List Attachment) (s : State) : Type 0 where
  pub step : IsStepTold a.device a.block a.task a.did.step attached (before_step a.task a.did s)
  pub aim : IsAimTold a.device a.holder a.did.aim (before_aim a.task a.did s)

-- ---- a queued transfer that is made

-- a queue makes this transfer next. Its block lies there, whose mapping may have ended
pub record IsNextTold (q : ℕ) (p : Placed) (t : Transfer) (attached : List Attachment) (s : State) : Type 0 where
  pub head : head_of q s.records.queues ≡ Some t
  pub block : p.block ≡ t.block
  pub place : p.place ≡ place_of t.block s.records.blocks
  pub pointers : attached ≡ pointers_of t.block s.records.attached

-- ---- a lease that is back

-- at each of so many places both have a byte, and these are not one
pub record AreOther (len : ℕ) (before after : List ℕ) : Type 0 where
  pub has_before : (place : ℕ) → place < len → place < length before
  pub has_after : (place : ℕ) → place < len → place < length after
  pub other : (place : ℕ) → place < len → slice_index_or before place 0 ≢ slice_index_or after place 0

-- the bytes that a kernel found, or that it left each another one
abbrev pub AreFound : Option (List ℕ) → ℕ → List ℕ → List ℕ → Type 0
AreFound (Some found) len before after = found ≡ take len before
AreFound None len before after = AreOther len before after

-- what is told of a block is so to which these bytes come back: its lent section, what the kernel found there, and what
-- the host has
pub record IsLeaseTold (p : Placed) (section : Section) (attached : List Attachment) (found : Option (List ℕ)) (after own : List ℕ) (s : State) : Type 0 where
  pub there : IsThere p p.block attached s
  pub from : section.start ≡ start_of p.block s.records.ranges + offset_lent p.block s.records.loans
  pub len : section.len ≡ length after
  pub kernel : AreFound found section.len (drop (offset_lent p.block s.records.loans) (bytes_of p.block s.memories)) after
  pub host : own ≡ take section.len (drop (section.start - host_base) s.host)
