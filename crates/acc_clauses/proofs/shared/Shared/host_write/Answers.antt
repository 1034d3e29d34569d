use Rattle.std.proofs.Common.{arith}
use Rattle.acc_clauses.proofs.Copying.{host_written}
use Rattle.acc_clauses.proofs.shared.Shared.host_write.Goals as goal

pub returns-clause-host : goal.returns-clause-host
returns-clause-host c = grind (arith, host_written)
