-- What holds of every table, law by law.
use Rattle.std.specs.Prelude.{ℕ, ◌≡◌, ◌<◌, length}
use Rattle.std.specs.List.{AllByRecursion}
use Rattle.acc_base.specs.Limits.{IsWithinBounds, limits_on}
use Rattle.acc_base.specs.Section.{device_memory}
use Rattle.acc_base.specs.Holes.{IsDevice}
use Rattle.acc_base.specs.Records.{layout_of}
use Rattle.acc_base.specs.Devices.{view, device_at, device_of_region, device_layout_of, whole_layout_of, events_on, device_layout_alone}
use Rattle.acc_base.specs.Accounts.{AreRangesApart, AreBlocksApart, HasOneBlockEach, IsCounted, IsTraced, AreHeld, AreEntriesHeld, IsRegisterSound, AreAttachmentsSound, AreAttachmentsTraced, AreQueuesSound, AreLoansSound, AreMemoriesSized, IsHistoryLegal, IsReplayed, AreBooksCounted, past_on}
use Rattle.acc_base.specs.Calls.{World}
use Rattle.acc_table.specs.Queries.{IsOpenOn}

-- what holds of a device
pub record IsLawfulOn (w : World) (d : ℕ) : Type 0 where
  -- mapped ranges are not empty, lie in host memory, and do not overlap
  pub ranges : AreRangesApart (limits_on d w.limits) (view d w.state).records.ranges
  -- blocks lie on the device, and do not overlap
  pub blocks : AreBlocksApart (device_memory (limits_on d w.limits)) (view d w.state).records.blocks (view d w.state).records.births
  -- blocks and holes are the device, with no address in two of them, and account for every byte of it
  pub device : IsDevice (device_memory (limits_on d w.limits)) (view d w.state).records.blocks
  -- each range has a block of its own, as long as the range, and each other block is named by a queued transfer
  pub owned : HasOneBlockEach (view d w.state).records
  -- no range has both counters zero, and both are within the limit
  pub counted : AllByRecursion (IsCounted (limits_on d w.limits)) (view d w.state).records.ranges
  -- both counters of a range are the counts over the events of the device
  pub traced : AllByRecursion (IsTraced (past_on d w.history)) (view d w.state).records.ranges
  -- the structured counter of each block is how often open regions hold it
  pub held : AreHeld (layout_of (view d w.state))
  -- of each block, whether it is mapped or not, that is what entries counted and exits have not dropped
  pub entries_held : AreEntriesHeld (past_on d w.history) (view d w.state).register
  -- open regions have rising numbers, below the next one, and at most 64 holdings each
  pub regions : IsRegisterSound (view d w.state).register
  -- attachment counters stand in order, each is from one to the limit, and its block is there
  pub attached : AreAttachmentsSound (limits_on d w.limits) (view d w.state).records.blocks (view d w.state).records.attached
  -- attachment counters are those of the events of the device
  pub attachments_traced : AreAttachmentsTraced (past_on d w.history) (view d w.state).records
  -- there are the queues, each within its limit, and each queued transfer lies in its block, which is there
  pub queues : AreQueuesSound (limits_on d w.limits) (view d w.state).records.blocks (view d w.state).records.queues
  -- no block is lent twice, and each that is lent is mapped
  pub loans : AreLoansSound (view d w.state).records.ranges (view d w.state).records.loans
  -- host memory has its size, and each block that is not lent has a memory of its length
  pub memories : AreMemoriesSized (limits_on d w.limits) (view d w.state)
  -- whatever happened on other devices, the device has what its own events alone lead to
  pub alone : device_layout_of (device_at d w.state.devices) ≡ device_layout_alone (device_layout_of (device_at d w.history.base.state.devices)) (events_on d w.history.trace)

-- the world keeps each law
pub record IsLawful (w : World) : Type 0 where
  -- each limit is within its bounds
  pub bounds : IsWithinBounds w.limits
  -- there are as many devices as the limits say
  pub count : length w.state.devices ≡ w.limits.devices
  -- the laws of each device
  pub devices : (d : ℕ) → d < w.limits.devices → IsLawfulOn w d
  -- no region is open on two devices: it is open on the one where it is found
  pub placed : (number d : ℕ) → IsOpenOn number d w.state → d ≡ device_of_region number w.state
  -- the history is legal, and leads to what the devices have
  pub history : IsHistoryLegal w.limits w.history (whole_layout_of w.state)
  -- with full traces the stored events are legal from the base on, bytes included, and give all memories and all else.
  -- Of a lent block that is the kept copy
  pub replayed : IsReplayed w
  -- there are no more events than tickets and places in the trace, and no more open regions than the limit says
  pub books : AreBooksCounted w
