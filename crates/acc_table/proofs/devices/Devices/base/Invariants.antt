use Rattle.std.proofs.Common.{◌≡◌, ◌++◌, drop}
use Rattle.std.specs.Prelude.{map}
use Rattle.acc_base.specs.Devices.{recorded_device}
use Rattle.acc_table.specs.Devices.{whole_of}
use Rattle.acc_table.proofs.devices.Devices.base.Given as goal

-- the devices before this one were saved
abbrev pub invariant-loop-device : goal.invariant-loop-device
invariant-loop-device l = l.saved.items ++ map (recorded_device l.full) (drop l.device (whole_of l.self).devices) ≡ map (recorded_device l.full) (whole_of l.self).devices
