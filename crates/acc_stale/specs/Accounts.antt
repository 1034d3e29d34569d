-- What an account says of blocks, their attached pointers, the transfers that wait, and the open regions.
use Rattle.std.specs.Prelude.{ℕ, ◌≡◌, ◌<◌, ◌+◌, ◌^◌, Bool, false, ◌&&◌, ◌==◌, if◌then◌else◌, List, [], ◌∷◌, map, filter, reverse, Option, Some, unwrap_or, option_map, option_and_then}
use Rattle.std.specs.BTreeMap.{get}
use Rattle.std.specs.List.{slice_get}
use Rattle.std.specs.declared.cmp.Ordering.{Ordering}
use Rattle.std.specs.Ordering.{nat_cmp, ordering_then}
use Rattle.acc_base.specs.declared.attachments.Attachment.{Attachment}
use Rattle.acc_base.specs.declared.mappings.Range.{Range}
use Rattle.acc_base.specs.declared.events.Did.{Did}
use Rattle.acc_base.specs.declared.events.Event.{Event}
use Rattle.acc_base.specs.declared.events.Event.TheVariants.{Left}
use Rattle.acc_base.specs.declared.tasks.Task.{Task}
use Rattle.acc_base.specs.Items.{tasks_named}
use Rattle.acc_base.specs.declared.transfers.Transfer.{Transfer}
use Rattle.acc_base.specs.Attachments.{with_count}
use Rattle.acc_base.specs.Tasks.{recounted as recounted_by}
use Rattle.acc_stale.specs.declared.accounts.Held.{Held}
use Rattle.acc_stale.specs.declared.accounts.Told.{Told}
use Rattle.acc_stale.specs.declared.accounts.Waiting.{Waiting}
use Rattle.acc_stale.specs.declared.accounts.Block.{Block}
use Rattle.acc_stale.specs.declared.accounts.Account.{Account}

-- ---- blocks

-- a block, and its attached pointers by rising address
pub record ToldBlock : Type 0 where
  pub held : Held
  pub attached : List Attachment

-- blocks stand by their devices and numbers
abbrev pub by_number : ℕ × ℕ → ℕ × ℕ → Ordering
by_number x y = ordering_then (nat_cmp x.0 y.0) (nat_cmp x.1 y.1)

-- a pointer of a block with its count
abbrev pub counted : ℕ → ℕ × ℕ → Attachment
counted block e = record { block = block; pointer = e.0; count = e.1 }

abbrev pub told_of : ℕ → Block → ToldBlock
told_of block b = record { held = b.held; attached = map (counted block) b.pointers.entries }

-- the same, as it is handed out
abbrev pub told_block : Told → ToldBlock
told_block t = record { held = t.held; attached = t.attached.items }

-- what an account says of a block of a device
abbrev pub told_at : ℕ → ℕ → Account → Option ToldBlock
told_at d block a = option_map (told_of block) (get by_number a.blocks (d, block))

abbrev pub attached_at : ℕ → ℕ → Account → List Attachment
attached_at d block a = unwrap_or (option_map (λ t. t.attached) (told_at d block a)) []

-- ---- changes

-- the one says of all blocks what the other does
abbrev pub HasSameBlocks : Account → Account → Type 0
HasSameBlocks old new = (d block : ℕ) → told_at d block new ≡ told_at d block old

-- an account says this of one block now, and of all others what it did
pub record IsChanged (d block : ℕ) (now : Option ToldBlock) (old new : Account) : Type 0 where
  pub here : told_at d block new ≡ now
  pub others : (e b : ℕ) → (e == d && b == block) ≡ false → told_at e b new ≡ told_at e b old
  pub waiting : new.waiting ≡ old.waiting

-- with the counter of a pointer set to a number
abbrev pub recounted : ℕ → ℕ → ℕ → ToldBlock → ToldBlock
recounted block pointer count t = record { held = t.held; attached = with_count block pointer count t.attached }

-- the same, with another range told
abbrev pub with_range_told : Range → ToldBlock → ToldBlock
with_range_told range t = record { held = record t.held { range = range }; attached = t.attached }

-- both counters of a range can rise
abbrev pub CanCount : Range → Type 0
CanCount r = (r.structured + 1 < 2 ^ 64) × (r.dynamic + 1 < 2 ^ 64)

-- an account says of the range of a block what a task leaves of it, and of all others what it did
pub record IsCountKept (d block : ℕ) (task : Task) (old new : Account) : Type 0 where
  pub range : Range
  pub here : told_at d block new ≡ option_map (with_range_told range) (told_at d block old)
  pub counted : (t : ToldBlock) → told_at d block old ≡ Some t → CanCount t.held.range → range ≡ recounted_by task t.held.range
  pub others : (e b : ℕ) → (e == d && b == block) ≡ false → told_at e b new ≡ told_at e b old
  pub waiting : new.waiting ≡ old.waiting

abbrev pub IsRecounted : ℕ → ℕ → ℕ → ℕ → Account → Account → Type 0
IsRecounted d block pointer count old new = IsChanged d block (option_map (recounted block pointer count) (told_at d block old)) old new

-- ---- transfers that wait

-- it waits in this queue of this device
abbrev pub is_in : ℕ → ℕ → Waiting → Bool
is_in d q w = w.device == d && w.queue == q

-- without the first that passes a test
abbrev pub without_first : (Waiting → Bool) → List Waiting → List Waiting
without_first test [] = []
without_first test (w ∷ ws) = if test w then ws else w ∷ without_first test ws

-- the transfers of a queue, the oldest first
abbrev pub waiting_in : ℕ → ℕ → List Waiting → List Transfer
waiting_in d q waiting = map (λ w. w.transfer) (filter (is_in d q) waiting)

-- ---- open regions

-- what the exit from an open region asks, of the first item first
abbrev pub undone_at : ℕ → ℕ → Account → Option (List Task)
undone_at d number a = option_map (λ tasks. tasks.items) (get by_number a.regions (d, number))

-- what the items of an event ask, in the order in which they act, as an account says it of an exit
abbrev pub asked_by : Event → Account → List Task
asked_by (Left device number did) a = reverse (unwrap_or (undone_at device number a) [])
asked_by e a = tasks_named e

-- what the item asks and did that acts as the nth
abbrev pub act_at : ℕ → List Task → List Did → Option (Task × Did)
act_at nth tasks dids = option_and_then (λ task. option_map (λ did. (task, did)) (slice_get dids nth)) (slice_get tasks nth)

-- an account says this of one region now, and of all else what it did
pub record IsRegionChanged (d number : ℕ) (now : Option (List Task)) (old new : Account) : Type 0 where
  pub here : undone_at d number new ≡ now
  pub others : (e n : ℕ) → (e == d && n == number) ≡ false → undone_at e n new ≡ undone_at e n old
  pub blocks : HasSameBlocks old new
  pub waiting : new.waiting ≡ old.waiting

-- the same, whatever blocks and queues
pub record IsRegionOpened (d number : ℕ) (now : Option (List Task)) (old new : Account) : Type 0 where
  pub here : undone_at d number new ≡ now
  pub others : (e n : ℕ) → (e == d && n == number) ≡ false → undone_at e n new ≡ undone_at e n old
