use Rattle.std.proofs.Common.{arith}
use Rattle.acc_clauses.proofs.AimsTargeted.{value_read}
use Rattle.acc_clauses.proofs.targets.value_after.Goals as goal

pub returns : goal.returns
returns c = grind (arith, value_read)
