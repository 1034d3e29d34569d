-- What contracts see of one device, and what holds of every device beside host memory.
use Rattle.std.specs.Prelude.{ℕ, ◌≡◌, ◌≤◌, List, [], length, replicate}
use Rattle.acc_base.specs.Limits.{Limits}
use Rattle.acc_base.specs.Records.{State}
use Rattle.acc_base.specs.Devices.{OneDevice, new_device}
use Rattle.acc_dev.specs.Device.{IsUnchanged}
use Rattle.acc_clauses.specs.declared.environments.Environment.{Environment}
use Rattle.acc_clauses.specs.Contents.{Contents, Numbers, Room, beside, room_of, AreSizedBy, ArePartsSound}

-- the limits of a device, what it has, and the room for more
pub record DeviceContents : Type 0 where
  pub limits : Limits
  pub device : OneDevice
  pub room : Room

-- what the parts of an environment stand for
abbrev pub device_of : Environment → OneDevice
device_of x = record {
  records = record { ranges = x.present.table.ranges; blocks = x.device.blocks; attached = x.attached.attached; births = x.device.births; queues = x.queues.queues; loans = x.device.loans };
  regions = x.present.table.regions;
  memories = x.device.memories;
}

abbrev pub device_contents : Limits → Environment → DeviceContents
device_contents l x = record { limits = l; device = device_of x; room = room_of (beside x []) }

-- beside any host memory of the size, the parts fit
abbrev pub IsDeviceSound : Limits → Environment → ℕ → Type 0
IsDeviceSound l x lent = ArePartsSound l (beside x (replicate l.host 0)) lent

-- nothing is mapped, and no block was born
pub record IsNewEnvironment (l : Limits) (x : Environment) : Type 0 where
  pub sized : AreSizedBy l (beside x [])
  pub empty : device_of x ≡ new_device
  pub marks : x.device.marks ≡ []

-- two environments are the same, but for room
pub record IsSameEnvironment (x y : Environment) : Type 0 where
  pub table : y.present.table ≡ x.present.table
  pub device : IsUnchanged x.device y.device
  pub counter_max : y.attached.counter_max ≡ x.attached.counter_max
  pub attached : y.attached.attached ≡ x.attached.attached
  pub cap : y.queues.cap ≡ x.queues.cap
  pub queues : y.queues.queues ≡ x.queues.queues

-- ---- beside host memory

-- the limits of a device, and the state that a directive on it sees
pub record Seen : Type 0 where
  pub limits : Limits
  pub state : State

-- a device beside host memory and the numbers of the next region and the next loan
abbrev pub state_beside : OneDevice → List ℕ → Numbers → State
state_beside x host n = record { records = x.records; register = record { regions = x.regions; next = n.region; serial = n.serial }; host = host; memories = x.memories }

abbrev pub contents_beside : DeviceContents → List ℕ → Numbers → Contents
contents_beside x host n = record { limits = x.limits; state = state_beside x.device host n; room = x.room }

-- what a state has of its device
abbrev pub device_in_view : State → OneDevice
device_in_view s = record { records = s.records; regions = s.register.regions; memories = s.memories }

-- ---- beside what all devices share

-- the bytes of host memory, and the numbers of the next region and the next loan
pub record SharedContents : Type 0 where
  pub host : List ℕ
  pub numbers : Numbers

-- what devices of a new table share, where host memory has so many bytes
abbrev pub new_shared : ℕ → SharedContents
new_shared size = record { host = replicate size 0; numbers = record { region = 1; serial = 1 } }

abbrev pub contents_with : DeviceContents → SharedContents → Contents
contents_with x s = contents_beside x s.host s.numbers

-- host memory has as many bytes as before, and no number has fallen
pub record HaveRisen (s t : SharedContents) : Type 0 where
  pub host : length t.host ≡ length s.host
  pub region : s.numbers.region ≤ t.numbers.region
  pub serial : s.numbers.serial ≤ t.numbers.serial
