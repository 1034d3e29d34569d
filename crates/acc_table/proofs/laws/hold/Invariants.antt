use Rattle.std.proofs.Common.{ℕ, ◌<◌}
use Rattle.acc_base.specs.Limits.{limits_on}
use Rattle.acc_base.specs.Section.{device_memory}
use Rattle.acc_base.specs.Holes.{IsDevice}
use Rattle.acc_base.specs.Devices.{view}
use Rattle.acc_table.proofs.laws.hold.Given as goal

-- so of the devices before this one
abbrev pub invariant-loop-device : goal.invariant-loop-device
invariant-loop-device l = (d : ℕ) → d < l.device → IsDevice (device_memory (limits_on d l.table.limits)) (view d l.table.state).records.blocks
