use Rattle.std.proofs.Common.{rules}
use Rattle.acc_clauses.proofs.Alike.{base_told}
use Rattle.acc_clauses.proofs.bases.BasePartialEq.eq.Goals as goal

pub returns-clause-exact : goal.returns-clause-exact
returns-clause-exact c = base_told _ _ _ (search rules)
