use Rattle.std.proofs.Common.{length, ap, arith}
use Rattle.acc_ordered.proofs.Paired.{entries_length}
use Rattle.acc_ordered.proofs.rows.RowClone.clone.Goals as goal

pub append-requires : goal.append-requires
append-requires g c = omega (arith, ap length c.in-Ok.ensures.ok, entries_length g.K.Key.number c.args.self.now c.self.inside.keys.items c.self.inside.values.items c.self.view_is c.self.invariant.each, c.self.invariant.most)
