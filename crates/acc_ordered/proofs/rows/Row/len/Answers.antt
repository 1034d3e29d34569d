use Rattle.std.proofs.Common.{arith}
use Rattle.acc_ordered.proofs.Paired.{entries_length}
use Rattle.acc_ordered.proofs.rows.Row.len.Goals as goal

pub returns-clause-value : goal.returns-clause-value
returns-clause-value g c = omega (arith, entries_length g.K.Key.number c.args.self.now c.self.inside.keys.items c.self.inside.values.items c.self.view_is c.self.invariant.each, c.len.ensures)
