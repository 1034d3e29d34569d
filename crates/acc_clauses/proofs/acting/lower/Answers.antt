use Rattle.std.proofs.Common.{Bool, sym, subst, arith}
use Rattle.acc_base.specs.declared.events.Step.TheVariants.{Dropped}
use Rattle.acc_clauses.specs.Acts.{IsActedBy}
use Rattle.acc_clauses.specs.Contents.{beside}
use Rattle.acc_clauses.proofs.Steps.{dropped_acts}
use Rattle.acc_clauses.proofs.acting.lower.Goals as goal

pub returns-then-ended : goal.returns-then-ended
returns-then-ended c = record { acted = subst (λ (b : Bool). IsActedBy c.args.task.now (Dropped c.args.block b) (beside c.args.environment.now c.args.host.now) (beside c.end.new.environment c.end.new.host)) (sym c.if-ended.true) c.end.ensures.acted }

pub returns-else-ended : goal.returns-else-ended
returns-else-ended c = grind (arith, dropped_acts c.args.task.now c.args.block (beside c.args.environment.now c.args.host.now) c.recount.new.self c.recount.ensures.table c.recount.ensures.room c.requires.marked)
