use Rattle.std.proofs.Common.{arith}
use Rattle.acc_clauses.proofs.AimsTargeted.{place_read, sum_bound}
use Rattle.acc_clauses.proofs.targets.address_after.Goals as goal

pub overflow_add-result : goal.overflow_add-result
overflow_add-result c = grind (arith, place_read, sum_bound)

pub returns-in-Inside : goal.returns-in-Inside
returns-in-Inside c = grind (arith, place_read)
