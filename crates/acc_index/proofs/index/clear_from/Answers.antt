use Rattle.std.proofs.Common.{arith}
use Rattle.acc_index.proofs.Indexing.{entries_few, ends-here}
use Rattle.acc_index.proofs.index.clear_from.Goals as goal

pub overflow_sub-len : goal.overflow_sub-len
overflow_sub-len g c = omega (arith, entries_few c.args.items.now.items, c.requires.count, c.args.items.now.ok.0)

pub returns-then-least-len-clause-last : goal.returns-then-least-len-clause-last
returns-then-least-len-clause-last g c = ends-here c.clear_away.new.items.items c.clear_away.ensures.here
