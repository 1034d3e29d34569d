use Rattle.acc_script.proofs.Fronts.{writing_laws}
use Rattle.acc_script.proofs.print.reports.write_several.Goals as goal

pub returns-then-not-write_sizes : goal.returns-then-not-write_sizes
returns-then-not-write_sizes g c =
    let sizes = rw (c.devices.ensures.value, c.config-config.ensures) at c.if-not-write_sizes.ensures in
    search (writing_laws, sizes)

pub returns : goal.returns
returns g c =
    let sizes = rw (c.devices.ensures.value, c.config-config.ensures) at c.if-not-write_sizes.ensures in
    search (writing_laws, sizes, c.write_each.ensures)
