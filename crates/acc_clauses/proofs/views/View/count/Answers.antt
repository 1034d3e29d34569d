use Rattle.std.proofs.Common.{arith}
use Rattle.acc_base.proofs.Attached.{count_at-most}
use Rattle.acc_clauses.proofs.views.View.count.Goals as goal

pub returns-clause-limit : goal.returns-clause-limit
returns-clause-limit c = grind (arith, count_at-most)
