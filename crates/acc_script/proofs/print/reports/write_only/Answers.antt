use Rattle.std.proofs.Common.{arith}
use Rattle.acc_script.proofs.Fronts.{writing_laws}
use Rattle.acc_script.proofs.print.reports.write_only.Goals as goal

pub returns-then-not-write_sizes : goal.returns-then-not-write_sizes
returns-then-not-write_sizes g c =
    let sizes = rw (c.used.ensures, c.config.ensures) at c.if-not-write_sizes.ensures in
    search (writing_laws, sizes)

pub write_device-requires : goal.write_device-requires
write_device-requires g c = omega (arith, c.laws.ensures.bounds.devices.0)

pub returns : goal.returns
returns g c =
    let sizes = rw (c.used.ensures, c.config.ensures) at c.if-not-write_sizes.ensures in
    search (writing_laws, sizes, c.write_device.ensures)
