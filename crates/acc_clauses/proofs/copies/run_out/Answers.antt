use Rattle.std.proofs.Common.{arith}
use Rattle.acc_clauses.proofs.Moving.{run_copied_out}
use Rattle.acc_clauses.proofs.copies.run_out.Goals as goal

pub returns : goal.returns
returns c = grind (arith, run_copied_out)
