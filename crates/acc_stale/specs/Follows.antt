-- When an account says of a device what the model has: where blocks lie, how often their pointers are attached, which
-- transfers wait, and what the exits from open regions ask.
use Rattle.std.specs.Prelude.{ℕ, ◌≡◌, ◌<◌, ◌+◌, ◌^◌, true, false, ⊤, Option, Some, IsSome, List, map, length}
use Rattle.std.specs.Option.{IsSomeAnd}
use Rattle.acc_base.specs.declared.attachments.Aim.{Aim}
use Rattle.acc_base.specs.declared.attachments.Aim.TheVariants as aims
use Rattle.acc_base.specs.declared.events.Step.{Step}
use Rattle.acc_base.specs.declared.events.Step.TheVariants.{Counted, Born, Dropped, Moved}
use Rattle.acc_base.specs.declared.mappings.Range.{Range}
use Rattle.acc_base.specs.declared.transfers.TheConstants.{QUEUE_COUNT}
use Rattle.acc_base.specs.Ranges.{range_of}
use Rattle.acc_base.specs.Blocks.{block_at, place_of}
use Rattle.acc_base.specs.Attachments.{count_at}
use Rattle.acc_base.specs.Queues.{queue_at}
use Rattle.acc_base.specs.declared.events.Event.{Event}
use Rattle.acc_base.specs.declared.regions.Holding.{Holding}
use Rattle.acc_base.specs.declared.tasks.Task.TheVariants.{ExitRegion}
use Rattle.acc_base.specs.Limits.{Limits, IsWithinBounds}
use Rattle.acc_base.specs.Register.{Register, holdings_at}
use Rattle.acc_base.specs.Records.{Records, State, layout_of}
use Rattle.acc_base.specs.Devices.{Whole, device_in, view}
use Rattle.acc_base.specs.History.{NamesRight}
use Rattle.acc_base.specs.Accounts.{AreRecordsSound, IsRegisterSound, IsMadeIn}
use Rattle.acc_stale.specs.declared.accounts.Account.{Account}
use Rattle.acc_stale.specs.Events.{pointers_of}
use Rattle.acc_stale.specs.Accounts.{ToldBlock, CanCount, told_at, waiting_in, undone_at}

-- a block lies where it is told, and these are its attached pointers
pub record IsBlockTold (d block : ℕ) (w : Records) (t : ToldBlock) : Type 0 where
  pub device : t.held.placed.device ≡ d
  pub number : t.held.placed.block ≡ block
  pub place : t.held.placed.place ≡ place_of block w.blocks
  pub attached : t.attached ≡ pointers_of block w.attached

-- its range is what is told, with its counters
pub record IsRangeTold (r : Range) (t : ToldBlock) : Type 0 where
  pub start : t.held.placed.start ≡ r.section.start
  pub range : t.held.range ≡ r

-- each block that is there is told, and each range
pub record AreBlocksTold (d : ℕ) (told : ℕ → Option ToldBlock) (w : Records) : Type 0 where
  pub blocks : (block : ℕ) → IsSome (block_at block w.blocks) → IsSomeAnd (told block) (IsBlockTold d block w)
  pub ranges : (block : ℕ) (r : Range) → range_of block w.ranges ≡ Some r → IsSomeAnd (told block) (IsRangeTold r)

-- an account follows a device: so its blocks are told, and so is each queue
pub record FollowsDevice (d : ℕ) (a : Account) (w : Records) : Type 0 where
  pub told : AreBlocksTold d (λ block. told_at d block a) w
  pub queues : (q : ℕ) → q < QUEUE_COUNT → waiting_in d q a.waiting.items ≡ queue_at q w.queues

-- what the exits from the open regions of a device ask is told
abbrev pub AreRegionsTold : ℕ → Account → Register → Type 0
AreRegionsTold d a g = (number : ℕ) (holdings : List Holding) → holdings_at number g.regions ≡ Some holdings → undone_at d number a ≡ Some (map ExitRegion holdings)

-- an account follows what a device has
pub record FollowsState (d : ℕ) (a : Account) (s : State) : Type 0 where
  pub device : FollowsDevice d a s.records
  pub regions : AreRegionsTold d a s.register

-- an account follows all devices
abbrev pub FollowsWhole : Account → Whole → Type 0
FollowsWhole a w = (d : ℕ) → FollowsState d a (view d w)

-- ---- an event that was accepted

-- it names what is there, and did what its items are judged to do, in a state that is sound
pub record IsEventIn (l : Limits) (e : Event) (s : State) : Type 0 where
  pub bounds : IsWithinBounds l
  pub sound : AreRecordsSound l s.records
  pub register : IsRegisterSound s.register
  pub names : NamesRight l e (layout_of s)
  pub made : IsMadeIn l e s

-- the same on its device, which is there
pub record IsEventOf (l : Limits) (e : Event) (w : Whole) : Type 0 where
  pub there : device_in e < length w.devices
  pub event : IsEventIn l e (view (device_in e) w)

-- ---- what an item has to be, so that an account tells it

-- the block of a step is mapped, its counters can rise, and a new one has the next number
abbrev pub IsStepFit : Step → Records → Type 0
IsStepFit (Counted block) w = (r : Range) → range_of block w.ranges ≡ Some r → CanCount r
IsStepFit (Born block place) w = block ≡ w.births + 1
IsStepFit (Dropped block false) w = (r : Range) → range_of block w.ranges ≡ Some r → CanCount r
IsStepFit (Dropped block true) w = IsSome (range_of block w.ranges)
IsStepFit (Moved block) w = IsSome (range_of block w.ranges)
IsStepFit _ w = ⊤

-- the block that holds a pointer is mapped, and the counter can rise
abbrev pub IsAimFit : Aim → Records → Type 0
IsAimFit aims.None w = ⊤
IsAimFit (aims.New pointer block target) w = IsSome (range_of block w.ranges)
IsAimFit (aims.Again pointer block) w = IsSome (range_of block w.ranges) × (count_at block pointer w.attached + 1 < 2 ^ 64)
IsAimFit (aims.Less pointer block) w = IsSome (range_of block w.ranges)
IsAimFit (aims.Cleared pointer block) w = IsSome (range_of block w.ranges)
