use Rattle.std.proofs.Common.{◌≡◌, drop}
use Rattle.acc_table.specs.Queries.{later, newest_of}
use Rattle.acc_table.proofs.tables.Table.innermost.Given as goal

-- the newest of the devices before this one, and of those from it on
abbrev pub invariant-loop-device : goal.invariant-loop-device
invariant-loop-device l = later l.newest (newest_of (drop l.device l.self.state.devices)) ≡ newest_of l.self.state.devices
