use Rattle.acc_script.proofs.Fronts.{wrote_then}
use Rattle.acc_script.proofs.print.ranges.write_range.Goals as goal

pub returns : goal.returns
returns g c = search (wrote_then, c.if-not-write_mapped.ensures, c.write_pointers.ensures)
