use Rattle.std.proofs.Common.{arith}
use Rattle.acc_ordered.proofs.Paired.{entries_length, paired_entry}
use Rattle.acc_ordered.proofs.rows.Row.at.Goals as goal

pub index-requires : goal.index-requires
index-requires g c = omega (arith, c.requires, entries_length g.K.Key.number c.args.self.now c.self.inside.keys.items c.self.inside.values.items c.self.view_is c.self.invariant.each, c.self.inside.keys.ok.0, c.self.inside.values.ok.0)

pub index-requires-2 : goal.index-requires-2
index-requires-2 g c = omega (arith, c.requires, entries_length g.K.Key.number c.args.self.now c.self.inside.keys.items c.self.inside.values.items c.self.view_is c.self.invariant.each, c.self.invariant.each, c.self.inside.keys.ok.0, c.self.inside.values.ok.0)

pub returns : goal.returns
returns g c = paired_entry g.K.Key.number c.args.self.now c.self.inside.keys.items c.self.inside.values.items c.args.place c.index.result.now c.index-2.result.now c.self.view_is c.self.invariant.each (omega (arith, c.requires, entries_length g.K.Key.number c.args.self.now c.self.inside.keys.items c.self.inside.values.items c.self.view_is c.self.invariant.each)) c.index.ensures c.index-2.ensures
