-- What an account tells of an item and keeps of it, step by step.
use Rattle.std.specs.Prelude.{ℕ, ◌≡◌, ◌+◌, ◌-◌, ◌^◌, min, true, false, ◌==◌, List, [], ◌∷◌, ◌++◌, Option, Some, None, option_map}
use Rattle.acc_base.specs.declared.attachments.Attachment.{Attachment}
use Rattle.acc_base.specs.declared.attachments.Aim.{Aim}
use Rattle.acc_base.specs.declared.attachments.Aim.TheVariants as aims
use Rattle.acc_base.specs.declared.events.Did.{Did}
use Rattle.acc_base.specs.declared.events.Event.{Event}
use Rattle.acc_base.specs.declared.events.Step.{Step}
use Rattle.acc_base.specs.declared.events.Step.TheVariants.{Nothing, Counted, Born, Dropped, Moved}
use Rattle.acc_base.specs.declared.items.Section.{Section}
use Rattle.acc_base.specs.declared.tasks.Task.{Task}
use Rattle.acc_base.specs.declared.transfers.Transfer.{Transfer}
use Rattle.acc_base.specs.Queues.{head_of}
use Rattle.acc_base.specs.Ranges.{bare_range}
use Rattle.acc_base.specs.Tasks.{section_of, recounted}
use Rattle.acc_base.specs.Records.{Records, State}
use Rattle.acc_base.specs.Waits.{drained}
use Rattle.acc_base.specs.Acting.{act_all_state}
use Rattle.acc_base.specs.Devices.{Whole, device_in, view, after_told}
use Rattle.acc_stale.specs.declared.accounts.Account.{Account}
use Rattle.acc_stale.specs.declared.accounts.Held.{Held}
use Rattle.acc_stale.specs.declared.accounts.Waiting.{Waiting}
use Rattle.acc_stale.specs.declared.known.Placed.{Placed}
use Rattle.acc_stale.specs.Accounts.{told_at, attached_at, HasSameBlocks, IsChanged, IsCountKept}
use Rattle.acc_stale.specs.declared.tellings.NextTold.{NextTold}
use Rattle.acc_stale.specs.declared.trackers.Tracker.{Tracker}
use Rattle.acc_stale.specs.Events.{known_all, known_drained, known_written, known_after}
use Rattle.acc_stale.specs.Told.{IsNextTold}
use Rattle.acc_stale.specs.Follows.{FollowsDevice, FollowsWhole}

-- ---- a step

-- where an account says that a block lies
abbrev pub placed_at : ℕ → ℕ → Account → Option Placed
placed_at d block a = option_map (λ t. t.held.placed) (told_at d block a)

-- the block of a step that is new, with the range that the task makes
abbrev pub held_new : ℕ → Task → ℕ → ℕ → ℕ → Held
held_new d task line block place = record { placed = record { device = d; block = block; start = (section_of task).start; place = place }; range = recounted task (bare_range (section_of task) block); line = line }

-- where the block of a step lies
abbrev pub placed_by : ℕ → Section → Step → Account → Option Placed
placed_by d section (Born block place) a = Some (record { device = d; block = block; start = section.start; place = place })
placed_by d section (Dropped block true) a = placed_at d block a
placed_by d section (Moved block) a = placed_at d block a
placed_by d section _ a = None

-- the block whose mapping a step ends
abbrev pub ended_at : ℕ → Step → Account → Option Held
ended_at d (Dropped block true) a = option_map (λ t. t.held) (told_at d block a)
ended_at d _ a = None

-- the block of a step, as an account has it
abbrev pub held_at : ℕ → ℕ → Account → Option Held
held_at d block a = option_map (λ t. t.held) (told_at d block a)

abbrev pub held_by : ℕ → Step → Account → Option Held
held_by d Nothing a = None
held_by d (Counted block) a = held_at d block a
held_by d (Born block place) a = held_at d block a
held_by d (Dropped block ended) a = held_at d block a
held_by d (Moved block) a = held_at d block a

-- a new block is kept, and the counters of one that is counted
abbrev pub IsStepKept : ℕ → Task → ℕ → Step → Account → Account → Type 0
IsStepKept d task line (Counted block) old new = IsCountKept d block task old new
IsStepKept d task line (Born block place) old new = IsChanged d block (Some (record { held = held_new d task line block place; attached = [] })) old new
IsStepKept d task line (Dropped block false) old new = IsCountKept d block task old new
IsStepKept d task line _ old new = HasSameBlocks old new × (new.waiting ≡ old.waiting)

-- the attached pointers of the block of a step; a new one has none
abbrev pub attached_by : ℕ → Step → Account → List Attachment
attached_by d (Dropped block true) a = attached_at d block a
attached_by d (Moved block) a = attached_at d block a
attached_by d _ a = []

-- the transfers that wait, with one more where there is a queue
abbrev pub waiting_after : ℕ → Option ℕ → Option Transfer → List Waiting → List Waiting
waiting_after d (Some q) (Some t) waiting = waiting ++ record { device = d; queue = q; transfer = t } ∷ []
waiting_after d _ _ waiting = waiting

-- ---- a pointer

-- the pointer that was attached or detached, and the block that holds it
abbrev pub pointer_held : Aim → Option (ℕ × ℕ)
pointer_held aims.None = None
pointer_held (aims.New pointer block target) = Some (pointer, block)
pointer_held (aims.Again pointer block) = Some (pointer, block)
pointer_held (aims.Less pointer block) = Some (pointer, block)
pointer_held (aims.Cleared pointer block) = Some (pointer, block)

-- how often it is attached then
abbrev pub count_left : Aim → ℕ → ℕ
count_left (aims.New pointer block target) count = 1
count_left (aims.Again pointer block) count = min (count + 1) (2 ^ 64 - 1)
count_left (aims.Less pointer block) count = count - 1
count_left _ count = 0

-- ---- a queue

-- a queue makes this transfer next, if there is one, and its block lies on the device where it is told
abbrev pub IsMadeTold : ℕ → ℕ → Option NextTold → State → Type 0
IsMadeTold d q None s = head_of q s.records.queues ≡ None
IsMadeTold d q (Some n) s = (n.block.device ≡ d) × IsNextTold q n.block n.transfer n.attached.items s

-- ---- other devices

-- the one account follows each other device that the other does
abbrev pub LeavesOthers : ℕ → Account → Account → Type 0
LeavesOthers d old new = (e : ℕ) (w : Records) → (e == d) ≡ false → FollowsDevice e old w → FollowsDevice e new w

-- ---- whole queues

-- after these queues made their first transfers, one after the other, what is known and the account are the model's
pub record IsDrained (d : ℕ) (qs : List ℕ) (s : State) (old new : Tracker) : Type 0 where
  pub known : new.known ≡ known_drained d qs s old.known
  pub follows : FollowsDevice d new.account (drained qs s).records

-- ---- items

-- after these items, one after the other, what is known and the account are the model's
pub record AreActed (d : ℕ) (tasks : List Task) (dids : List Did) (s : State) (old new : Tracker) : Type 0 where
  pub known : new.known ≡ known_all d tasks dids s old.known
  pub follows : FollowsDevice d new.account (act_all_state tasks dids s).records

-- ---- an event

-- what is known after it is what a write of the host or a lease that is back makes of what is known now, and the account
-- follows all devices
pub record IsEventTold (e : Event) (w : Whole) (old new : Tracker) : Type 0 where
  pub known : known_after e w old.known ≡ known_written e w (view (device_in e) w) new.known
  pub follows : FollowsWhole new.account (after_told e w)
