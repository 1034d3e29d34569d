-- The devices of a table. Each has records, open regions and block memories of its own. Host memory and the numbers of
-- the next region and the next loan exist once. A directive sees one device's view, which is a state.
use Rattle.std.specs.Prelude.{ℕ, ◌==◌, List, [], ◌∷◌, map, filter, fold, replicate, sum_by, slice_index_or, slice_set, length, Bool, true, is_some, unwrap_or, position}
use Rattle.acc_base.specs.Words.{Event}
use Rattle.acc_base.specs.declared.events.Event.TheVariants.{Entered, Left, EnteredData, ExitedData, Updated, Waited, Stepped, HostWritten, Lent, Gathered}
use Rattle.acc_base.specs.Limits.{recorded}
use Rattle.acc_base.specs.Register.{Region, region_at}
use Rattle.acc_base.specs.Records.{Records, Memory, Layout, State, new_records}
use Rattle.acc_base.specs.Walk.{walk}
use Rattle.acc_base.specs.Acting.{after}
use Rattle.acc_base.specs.Replay.{bytes_told}

-- ---- the devices, with and without bytes

-- what one device has: its records, the regions that were entered on it and are open, and the bytes of its blocks
pub record OneDevice : Type 0 where
  pub records : Records
  pub regions : List Region
  pub memories : List Memory

-- the devices by number, from 0 on; the number of the next region, the serial number of the next loan, and host memory
pub record Whole : Type 0 where
  pub devices : List OneDevice
  pub next : ℕ
  pub serial : ℕ
  pub host : List ℕ

-- a device without bytes
pub record DeviceLayout : Type 0 where
  pub records : Records
  pub regions : List Region

-- the devices without bytes
pub record WholeLayout : Type 0 where
  pub devices : List DeviceLayout
  pub next : ℕ
  pub serial : ℕ

abbrev pub device_layout_of : OneDevice → DeviceLayout
device_layout_of x = record { records = x.records; regions = x.regions }

abbrev pub whole_layout_of : Whole → WholeLayout
whole_layout_of w = record { devices = map device_layout_of w.devices; next = w.next; serial = w.serial }

-- nothing is mapped, no region is open, and no block was born
abbrev pub new_device : OneDevice
new_device = record { records = new_records; regions = []; memories = [] }

abbrev pub new_device_layout : DeviceLayout
new_device_layout = record { records = new_records; regions = [] }

-- a new table of so many devices, with so many bytes of host memory
abbrev pub new_whole : ℕ → ℕ → Whole
new_whole count host = record { devices = replicate count new_device; next = 1; serial = 1; host = replicate host 0 }

abbrev pub new_whole_layout : ℕ → WholeLayout
new_whole_layout count = record { devices = replicate count new_device_layout; next = 1; serial = 1 }

-- how many data regions are open on all devices
abbrev pub open_regions : Whole → ℕ
open_regions w = sum_by (λ x. length x.regions) w.devices

-- ---- one device's view

-- a number that is no device's has a new one
abbrev pub device_at : ℕ → List OneDevice → OneDevice
device_at d devices = slice_index_or devices d new_device

abbrev pub device_layout_at : ℕ → List DeviceLayout → DeviceLayout
device_layout_at d devices = slice_index_or devices d new_device_layout

-- what a directive of a device sees: what the device has, with the numbers of all and host memory
abbrev pub view : ℕ → Whole → State
view d w = record {
  records = (device_at d w.devices).records;
  register = record { regions = (device_at d w.devices).regions; next = w.next; serial = w.serial };
  host = w.host;
  memories = (device_at d w.devices).memories;
}

-- and what it leaves
abbrev pub with_view : ℕ → State → Whole → Whole
with_view d s w = record {
  devices = slice_set w.devices d (record { records = s.records; regions = s.register.regions; memories = s.memories });
  next = s.register.next;
  serial = s.register.serial;
  host = s.host;
}

-- the same without bytes
abbrev pub layout_in : ℕ → WholeLayout → Layout
layout_in d w = record { records = (device_layout_at d w.devices).records; register = record { regions = (device_layout_at d w.devices).regions; next = w.next; serial = w.serial } }

abbrev pub with_layout : ℕ → Layout → WholeLayout → WholeLayout
with_layout d lay w = record { devices = slice_set w.devices d (record { records = lay.records; regions = lay.register.regions }); next = lay.register.next; serial = lay.register.serial }

-- ---- where a region is

-- the device on which a region of the number is open; 0 where none is
abbrev pub device_of_region : ℕ → Whole → ℕ
device_of_region number w = unwrap_or (position (λ x. is_some (region_at number x.regions)) w.devices) 0

-- ---- events

-- the device on which an event acted; a write of the host stands with device 0
abbrev pub device_in : Event → ℕ
device_in (Entered device number items did) = device
device_in (Left device number did) = device
device_in (EnteredData device items queue did) = device
device_in (ExitedData device items finalize queue did) = device
device_in (Updated device items if_present queue did) = device
device_in (Waited device queue count) = device
device_in (Stepped device queue block) = device
device_in (HostWritten addr len bytes) = 0
device_in (Lent device region section block serial) = device
device_in (Gathered device serial block bytes) = device

-- the events that acted on a device, in order
abbrev pub events_on : ℕ → List Event → List Event
events_on d events = filter (λ e. device_in e == d) events

-- an event leaves of its device what it leaves of that device's layout, and all other devices as they were
abbrev pub walk_on : Event → WholeLayout → WholeLayout
walk_on e w = with_layout (device_in e) (walk e (layout_in (device_in e) w)) w

unfoldable pub walk_all_on : List Event → WholeLayout → WholeLayout
walk_all_on [] w = w
walk_all_on (e ∷ events) w = walk_all_on events (walk_on e w)

-- with bytes, of those that the call brought
abbrev pub after_on : Bool → Event → List ℕ → Whole → Whole
after_on full e brought w = with_view (device_in e) (after full e brought (view (device_in e) w)) w

-- after a stored event: with full traces it has all bytes that its call brought
abbrev pub after_told : Event → Whole → Whole
after_told e w = after_on true e (bytes_told e (view (device_in e) w)) w

-- what stored events alone lead to
unfoldable pub replayed : List Event → Whole → Whole
replayed [] w = w
replayed (e ∷ events) w = replayed events (after_told e w)

-- what an event leaves of its device, whatever the numbers of the next region and the next loan are, since the event
-- has its own
abbrev pub device_layout_left : DeviceLayout → Event → DeviceLayout
device_layout_left x e =
    let lay : Layout = walk e (record { records = x.records; register = record { regions = x.regions; next = 0; serial = 0 } }) in
    record { records = lay.records; regions = lay.register.regions }

-- after these events alone
abbrev pub device_layout_alone : DeviceLayout → List Event → DeviceLayout
device_layout_alone x events = fold device_layout_left x events

-- ---- what is stored

-- all devices, with their bytes where traces are full
abbrev pub recorded_device : Bool → OneDevice → OneDevice
recorded_device full x = record { records = x.records; regions = x.regions; memories = recorded full x.memories }

abbrev pub recorded_whole : Bool → Whole → Whole
recorded_whole full w = record { devices = map (recorded_device full) w.devices; next = w.next; serial = w.serial; host = recorded full w.host }
