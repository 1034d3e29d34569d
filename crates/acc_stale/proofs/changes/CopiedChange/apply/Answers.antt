use Rattle.std.proofs.Common.{rules}
use Rattle.acc_stale.proofs.Each.{copied_is}
use Rattle.acc_stale.proofs.changes.CopiedChange.apply.Goals as goal

pub returns : goal.returns
returns c = copied_is c.args.self.now.from.now c.args.self.now.at c.clipped-from.result.0 c.clipped-from.result.1 c.args.section.now c.copy_from_slice.new.self c.clipped-from.ensures.from c.clipped-from.ensures.count (search rules) (search rules)
