-- What the devices of a table have, beside what they share.
use Rattle.std.specs.Prelude.{ℕ, ◌≡◌, ◌<◌, List, length, map, slice_index_or}
use Rattle.acc_base.specs.Limits.{Limits, limits_on}
use Rattle.acc_base.specs.Devices.{OneDevice, Whole, new_device}
use Rattle.acc_clauses.specs.Devices.{DeviceContents, SharedContents, contents_with, new_shared}
use Rattle.acc_clauses.specs.Stored.{AreContentsSound}
use Rattle.acc_table.specs.declared.devices.Devices.{Devices}

abbrev pub own : DeviceContents → OneDevice
own x = x.device

-- what all devices have, with host memory and the numbers of the next region and the next loan
abbrev pub whole_with : List DeviceContents → SharedContents → Whole
whole_with xs s = record { devices = map own xs; next = s.numbers.region; serial = s.numbers.serial; host = s.host }

abbrev pub whole_of : Devices → Whole
whole_of x = whole_with x.each.items x.shared

-- the device of this number, which is sound beside what all share
pub record IsDeviceOf (l : Limits) (d : ℕ) (s : SharedContents) (x : DeviceContents) : Type 0 where
  pub limits : x.limits ≡ limits_on d l
  pub sound : AreContentsSound (contents_with x s)

-- each of these is the device of its number
abbrev pub AreDevicesFrom : Limits → SharedContents → List DeviceContents → Type 0
AreDevicesFrom l s xs = (d : ℕ) (x : DeviceContents) → d < length xs → IsDeviceOf l d s (slice_index_or xs d x)

-- there are as many devices as the limits say, each in the place of its number
pub record AreSet (l : Limits) (x : Devices) : Type 0 where
  pub count : length x.each.items ≡ l.devices
  pub each : AreDevicesFrom l x.shared x.each.items

-- these are the first so many devices of a new table
pub record AreNewUpTo (l : Limits) (n : ℕ) (xs : List DeviceContents) : Type 0 where
  pub count : length xs ≡ n
  pub each : AreDevicesFrom l (new_shared l.host) xs
  pub new : (d : ℕ) (x : DeviceContents) → d < length xs → (slice_index_or xs d x).device ≡ new_device
