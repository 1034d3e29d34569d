use Rattle.acc_script.proofs.Fronts.{writing_laws}
use Rattle.acc_script.proofs.Parts.{refusal_parts}
use Rattle.acc_script.proofs.print.refusals.write_refusal.Goals as goal

pub returns-then-not-write_refusal_start : goal.returns-then-not-write_refusal_start
returns-then-not-write_refusal_start g c =
    rw (refusal_parts c.args.line c.args.fault) (search (writing_laws, c.if-not-write_refusal_start.ensures))

pub returns-then-not-write_fields : goal.returns-then-not-write_fields
returns-then-not-write_fields g c =
    rw (refusal_parts c.args.line c.args.fault) (search (writing_laws, c.if-not-write_refusal_start.ensures, c.if-not-write_fields.ensures))

pub returns : goal.returns
returns g c =
    rw (refusal_parts c.args.line c.args.fault) (search (writing_laws, c.if-not-write_refusal_start.ensures, c.if-not-write_fields.ensures, c.write_all.ensures))
