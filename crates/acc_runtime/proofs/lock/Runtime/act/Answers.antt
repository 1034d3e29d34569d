use Rattle.std.proofs.Common.{rules}
use Rattle.acc_runtime.proofs.Sharing.{was_accepted}
use Rattle.acc_runtime.proofs.lock.Runtime.act.Goals as goal

pub returns-clause-accepted : goal.returns-clause-accepted
returns-clause-accepted g c = was_accepted c.args.self.now c.act-outcome.result c.args.caller.now c.act-outcome.new.caller c.deref_mut.result.now c.act-outcome.new.self c.args.call (search rules) (search rules) (search rules) (search rules) c.act-outcome.ensures.done
