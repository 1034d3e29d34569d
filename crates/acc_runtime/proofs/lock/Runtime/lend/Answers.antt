use Rattle.std.proofs.Common.{rules}
use Rattle.acc_runtime.proofs.Lengths.{was_lent_long}
use Rattle.acc_runtime.proofs.lock.Runtime.lend.Goals as goal

pub returns-clause-len : goal.returns-clause-len
returns-clause-len g c = was_lent_long c.args.self.now c.leased.result c.args.caller.now c.act.new.caller c.args.region.now c.args.section (search rules)
