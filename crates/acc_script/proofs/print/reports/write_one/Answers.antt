use Rattle.acc_script.proofs.Fronts.{writing_laws}
use Rattle.acc_script.proofs.print.reports.write_one.Goals as goal

pub returns-then-not-write_used : goal.returns-then-not-write_used
returns-then-not-write_used g c =
    let used = rw c.used.ensures at c.if-not-write_used.ensures in
    search (writing_laws, used)

pub returns : goal.returns
returns g c =
    let used = rw c.used.ensures at c.if-not-write_used.ensures in
    search (writing_laws, used, c.write_device.ensures)
