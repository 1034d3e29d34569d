use Rattle.acc_script.proofs.Fronts.{wrote_then, Took_then}
use Rattle.acc_script.proofs.print.reports.write_device.Goals as goal

pub returns : goal.returns
returns g c = search (wrote_then, Took_then, c.if-not-write_ranges.ensures, c.if-not-write_ended.ensures, c.write_queues.ensures)
