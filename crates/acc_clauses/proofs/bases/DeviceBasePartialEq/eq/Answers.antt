use Rattle.std.proofs.Common.{rules}
use Rattle.acc_clauses.proofs.Alike.{device_told}
use Rattle.acc_clauses.proofs.bases.DeviceBasePartialEq.eq.Goals as goal

pub returns-then-are_same_regions-clause-exact : goal.returns-then-are_same_regions-clause-exact
returns-then-are_same_regions-clause-exact c = device_told _ _ _ (search rules)

pub returns-else-are_same_regions-clause-exact : goal.returns-else-are_same_regions-clause-exact
returns-else-are_same_regions-clause-exact c = device_told _ _ _ (search rules)
