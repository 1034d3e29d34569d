use Rattle.std.proofs.Common.{◌≤◌, subst}
use Rattle.std.specs.List.{AllZip, AllByRecursion}
use Rattle.acc_base.specs.Holes.{IsDevice}
use Rattle.acc_base.specs.Blocks.{used_bytes}
use Rattle.acc_base.specs.Accounts.{IsMemoryOf}
use Rattle.acc_dev.specs.Room.{room_ready}
use Rattle.acc_dev.specs.Marks.{IsMarkOf}
use Rattle.acc_dev.specs.Device.{DeviceState, HasBlocksApart, AreLoansRising, IsLoanOn}
use Rattle.acc_dev.proofs.Slots.{marks_in_step}
use Rattle.acc_dev.proofs.Lent.{loans_rise, in_step}
use Rattle.acc_dev.proofs.Keeping.{apart_of, divided, kept_used_within, loans_on}
use Rattle.acc_dev.proofs.devices.Device.laws.Goals as goal

pub returns-clause-blocks_apart : goal.returns-clause-blocks_apart
returns-clause-blocks_apart c = subst HasBlocksApart c.self.view_is (apart_of c.self.inside.holes c.self.inside.slab.slots c.self.inside.index.entries c.self.inside.births (room_ready c.self.inside) c.self.invariant.0 c.self.invariant.1)

pub returns-clause-memories : goal.returns-clause-memories
returns-clause-memories c = subst (λ (d : DeviceState). AllZip (IsMemoryOf d.loans) d.memories d.blocks) c.self.view_is (in_step c.self.inside.slab.slots c.self.inside.index.entries c.self.invariant.0.rising c.self.invariant.0.backed)

pub returns-clause-bytes_accounted : goal.returns-clause-bytes_accounted
returns-clause-bytes_accounted c = subst (λ (d : DeviceState). used_bytes d.blocks ≤ d.memory.len) c.self.view_is (kept_used_within c.self.inside.holes c.self.inside.slab.slots c.self.inside.index.entries c.self.invariant.0)

pub returns-clause-holes : goal.returns-clause-holes
returns-clause-holes c = subst (λ (d : DeviceState). IsDevice d.memory d.blocks) c.self.view_is (divided c.self.inside.holes c.self.inside.slab.slots c.self.inside.index.entries c.self.invariant.0)

pub returns-clause-marks : goal.returns-clause-marks
returns-clause-marks c = subst (λ (d : DeviceState). AllZip IsMarkOf d.marks d.blocks) c.self.view_is (marks_in_step c.self.inside.slab.slots c.self.inside.index.entries)

pub returns-clause-loans_rise : goal.returns-clause-loans_rise
returns-clause-loans_rise c = subst (λ (d : DeviceState). AreLoansRising d.loans) c.self.view_is (loans_rise c.self.inside.slab.slots c.self.inside.index.entries c.self.invariant.0.rising c.self.invariant.0.backed)

pub returns-clause-loans : goal.returns-clause-loans
returns-clause-loans c = subst (λ (d : DeviceState). AllByRecursion (IsLoanOn d) d.loans) c.self.view_is (loans_on c.self.inside.holes c.self.inside.slab.slots c.self.inside.index.entries c.self.inside.births (room_ready c.self.inside) c.self.invariant.0)
