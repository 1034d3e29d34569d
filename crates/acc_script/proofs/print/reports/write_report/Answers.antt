use Rattle.acc_script.proofs.Parts.{report_parts}
use Rattle.acc_script.proofs.Fronts.{writing_laws}
use Rattle.acc_script.proofs.print.reports.write_report.Goals as goal

pub returns-then-not-write_memories : goal.returns-then-not-write_memories
returns-then-not-write_memories g c = rw (report_parts c.args.table.now) (search (writing_laws, c.if-not-write_memories.ensures))

pub returns : goal.returns
returns g c =
    let totals = rw (c.regions.ensures, c.events.ensures) at c.write_totals.ensures in
    rw (report_parts c.args.table.now) (search (writing_laws, c.if-not-write_memories.ensures, totals))
