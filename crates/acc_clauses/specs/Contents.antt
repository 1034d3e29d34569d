-- What contracts see of a device beside what all devices share: the limits, the state, and the room for more. And what
-- holds of its parts.
use Rattle.std.specs.Prelude.{ℕ, ◌≡◌, List, is_none, length}
use Rattle.std.specs.List.{AllByRecursion}
use Rattle.acc_clauses.specs.Words.{Range, Transfer}
use Rattle.acc_base.specs.Limits.{Limits, IsWithinBounds}
use Rattle.acc_base.specs.Section.{device_memory}
use Rattle.acc_base.specs.Records.{State}
use Rattle.acc_base.specs.Ranges.{range_of}
use Rattle.acc_base.specs.Queues.{pins_of}
use Rattle.acc_base.specs.Accounts.{AreRecordsSound, AreMemoriesSized}
use Rattle.acc_dev.specs.Marks.{Mark}
use Rattle.acc_dev.specs.Device.{DeviceState}
use Rattle.acc_present.specs.Present.{PresentState}
use Rattle.acc_present.specs.Attached.{AttachedState}
use Rattle.acc_present.specs.Queued.{QueuesState}
use Rattle.acc_clauses.specs.declared.environments.Environment.{Environment}

-- what can be added without allocating: births of blocks of these lengths, in this order; so many ranges, regions and
-- attachment counters. And so many holdings of the next region, and so many transfers in each queue
pub record Room : Type 0 where
  pub births : List ℕ
  pub ranges : ℕ
  pub regions : ℕ
  pub holdings : ℕ
  pub attachments : ℕ
  pub puts : List ℕ

-- the limits, which stay; the state; and the room
pub record Contents : Type 0 where
  pub limits : Limits
  pub state : State
  pub room : Room

-- ---- the state that the parts stand for

-- what one device has, and the bytes of host memory, which are not its own
pub record WithHost : Type 0 where
  pub present : PresentState
  pub device : DeviceState
  pub host : List ℕ
  pub attached : AttachedState
  pub queues : QueuesState

-- host memory is handed in beside the environment of a device
abbrev pub beside : Environment → List ℕ → WithHost
beside x host = record { present = x.present; device = x.device; host = host; attached = x.attached; queues = x.queues }

-- the number of the next region and the serial number of the next loan
pub record Numbers : Type 0 where
  pub region : ℕ
  pub serial : ℕ

-- the state of the parts, with the numbers of the next region and the next loan
abbrev pub state_of : WithHost → Numbers → State
state_of x next = record {
  records = record { ranges = x.present.table.ranges; blocks = x.device.blocks; attached = x.attached.attached; births = x.device.births; queues = x.queues.queues; loans = x.device.loans };
  register = record { regions = x.present.table.regions; next = next.region; serial = next.serial };
  host = x.host;
  memories = x.device.memories;
}

-- the state of the parts, whatever region or loan comes next
abbrev pub bare_numbers : Numbers
bare_numbers = record { region = 0; serial = 0 }

abbrev pub bare_state : WithHost → State
bare_state x = state_of x bare_numbers

-- and their room
abbrev pub room_of : WithHost → Room
room_of x = record { births = x.device.room; ranges = x.present.room.ranges; regions = x.present.room.regions; holdings = x.present.room.holdings; attachments = x.attached.spare; puts = x.queues.spare }

-- the parts have the sizes that the limits say
pub record AreSizedBy (l : Limits) (x : WithHost) : Type 0 where
  pub counters : x.present.table.counter_max ≡ l.counter_max
  pub device : x.device.memory ≡ device_memory l
  pub pointers : x.attached.counter_max ≡ l.counter_max
  pub queues : x.queues.cap ≡ l.queue_cap

-- the mark of a block says how many queued transfers name it, and whether its mapping has ended
pub record IsMarkRight (ranges : List Range) (queues : List (List Transfer)) (m : Mark) : Type 0 where
  pub pins : m.pins ≡ pins_of m.block queues
  pub ended : m.ended ≡ is_none (range_of m.block ranges)

-- so do all of them
abbrev pub AreMarked : WithHost → Type 0
AreMarked x = AllByRecursion (IsMarkRight x.present.table.ranges x.queues.queues) x.device.marks

-- what each step of a directive keeps: records that are sound, and memories in step with them
pub record IsStateSound (l : Limits) (s : State) : Type 0 where
  pub records : AreRecordsSound l s.records
  pub memories : AreMemoriesSized l s

-- the limits lie within their bounds, the parts fit one another, the state is sound, and the lent blocks are counted
pub record ArePartsSound (l : Limits) (x : WithHost) (n : ℕ) : Type 0 where
  pub bounds : IsWithinBounds l
  pub sized : AreSizedBy l x
  pub sound : IsStateSound l (bare_state x)
  pub marked : AreMarked x
  pub lent : n ≡ length x.device.loans
