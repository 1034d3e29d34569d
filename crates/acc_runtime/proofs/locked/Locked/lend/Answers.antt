use Rattle.std.proofs.Common.{rules}
use Rattle.acc_runtime.proofs.Lengths.{lent_long}
use Rattle.acc_runtime.proofs.locked.Locked.lend.Goals as goal

pub returns-clause-len : goal.returns-clause-len
returns-clause-len g c = lent_long c.leased.result c.args.caller.now c.act.new.caller c.args.self.now c.act.new.self c.args.region.now c.args.section (search rules)
