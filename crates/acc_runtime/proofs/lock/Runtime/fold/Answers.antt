use Rattle.std.proofs.Common.{rules}
use Rattle.acc_runtime.proofs.Sharing.{was_rebased}
use Rattle.acc_runtime.proofs.lock.Runtime.fold.Goals as goal

pub returns-clause-folded : goal.returns-clause-folded
returns-clause-folded g c = was_rebased c.args.self.now c.fold-outcome.result c.deref_mut.result.now c.fold-outcome.new.self (search rules) (search rules) (search rules) c.fold-outcome.ensures.folded c.fold-outcome.ensures.rebased
