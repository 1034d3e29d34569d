use Rattle.std.proofs.Common.{arith}
use Rattle.acc_clauses.specs.Contents.{beside}
use Rattle.acc_clauses.proofs.Steps.{nothing_acts, counted_acts}
use Rattle.acc_clauses.proofs.acting.step_on.Goals as goal

pub returns-in-Nothing : goal.returns-in-Nothing
returns-in-Nothing c = grind (arith, nothing_acts c.args.x.now.task (beside c.args.environment.now c.args.host.now) c.requires.marked)

pub returns-in-Counted : goal.returns-in-Counted
returns-in-Counted c = grind (arith, counted_acts c.args.x.now.task c.in-Counted.block (beside c.args.environment.now c.args.host.now) c.recount.new.self c.recount.ensures.table c.recount.ensures.room c.requires.marked)

pub returns-in-Moved : goal.returns-in-Moved
returns-in-Moved c = grind (arith)
