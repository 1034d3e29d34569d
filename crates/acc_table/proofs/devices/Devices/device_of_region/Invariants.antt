use Rattle.std.proofs.Common.{ℕ, ◌≡◌, ◌<◌, false}
use Rattle.std.specs.Prelude.{is_some}
use Rattle.acc_base.specs.Register.{region_at}
use Rattle.acc_base.specs.Devices.{device_at}
use Rattle.acc_table.specs.Devices.{whole_of}
use Rattle.acc_table.proofs.devices.Devices.device_of_region.Given as goal

-- the region is open on no device before this one
abbrev pub invariant-loop-device : goal.invariant-loop-device
invariant-loop-device l = (k : ℕ) → k < l.device → is_some (region_at l.number (device_at k (whole_of l.self).devices).regions) ≡ false
