use Rattle.acc_table.specs.declared.devices.Devices.{Devices}
use Rattle.acc_table.proofs.NewDevices.{new_set, new_devices}
use Rattle.acc_table.proofs.devices.Devices.new.Goals.{In_ok-new_each}
use Rattle.acc_table.proofs.devices.Devices.new.Goals as goal

abbrev devices : In_ok-new_each → Devices
devices c = record { shared = c.in_ok-new.field-0; each = c.in_ok-new_each.field-0 }

pub returns-clause-set : goal.returns-clause-set
returns-clause-set c = new_set c.args.config.now (devices (goal.at.returns-clause-set c).In_ok-new_each) c.in_ok-new.ensures.ok c.in_ok-new_each.ensures.ok

pub returns-clause-new : goal.returns-clause-new
returns-clause-new c = new_devices c.args.config.now (devices (goal.at.returns-clause-new c).In_ok-new_each) c.in_ok-new.ensures.ok c.in_ok-new_each.ensures.ok
