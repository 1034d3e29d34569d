use Rattle.acc_table.specs.Devices.{AreNewUpTo}
use Rattle.acc_table.proofs.devices.new_each.Given as goal

-- the devices before this one are there
abbrev pub invariant-loop-device : goal.invariant-loop-device
invariant-loop-device l = AreNewUpTo l.config l.device l.each.items
