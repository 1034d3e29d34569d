use Rattle.std.proofs.Common.{◌≡◌, ◌+◌, length, drop}
use Rattle.std.specs.Prelude.{sum_by}
use Rattle.acc_base.specs.Devices.{OneDevice, open_regions}
use Rattle.acc_table.specs.Devices.{whole_of}
use Rattle.acc_table.proofs.devices.Devices.regions.Given as goal

-- the regions of the devices before this one were counted
abbrev pub invariant-loop-device : goal.invariant-loop-device
invariant-loop-device l = l.open + sum_by (λ (x : OneDevice). length x.regions) (drop l.device (whole_of l.self).devices) ≡ open_regions (whole_of l.self)
