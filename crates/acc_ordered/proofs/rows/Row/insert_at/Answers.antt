use Rattle.std.proofs.Common.{List, insert, ap, ◌∙◌, arith}
use Rattle.acc_ordered.specs.Listing.{KeyValue}
use Rattle.acc_ordered.specs.Pairs.{paired}
use Rattle.acc_ordered.proofs.Paired.{entries_length, paired_insert}
use Rattle.acc_ordered.proofs.rows.Row.insert_at.Goals as goal

pub insert_copy-requires-clause-within : goal.insert_copy-requires-clause-within
insert_copy-requires-clause-within g c = omega (arith, c.requires.within, entries_length g.K.Key.number c.args.self.now c.self.inside.keys.items c.self.inside.values.items c.self.view_is c.self.invariant.each, c.self.inside.keys.ok.0)

pub insert_copy-requires-clause-room : goal.insert_copy-requires-clause-room
insert_copy-requires-clause-room g c = omega (arith, c.requires.free, c.self.invariant.keys, entries_length g.K.Key.number c.args.self.now c.self.inside.keys.items c.self.inside.values.items c.self.view_is c.self.invariant.each, c.self.inside.keys.ok.0)

pub insert_copy-requires-2-clause-within : goal.insert_copy-requires-2-clause-within
insert_copy-requires-2-clause-within g c = omega (arith, c.requires.within, entries_length g.K.Key.number c.args.self.now c.self.inside.keys.items c.self.inside.values.items c.self.view_is c.self.invariant.each, c.self.invariant.each, c.self.inside.values.ok.0)

pub insert_copy-requires-2-clause-room : goal.insert_copy-requires-2-clause-room
insert_copy-requires-2-clause-room g c = omega (arith, c.requires.free, c.self.invariant.values, entries_length g.K.Key.number c.args.self.now c.self.inside.keys.items c.self.inside.values.items c.self.view_is c.self.invariant.each, c.self.invariant.each, c.self.inside.values.ok.0)

pub invariant_of-self : goal.invariant_of-self
invariant_of-self g c =
    let len = entries_length g.K.Key.number c.args.self.now c.self.inside.keys.items c.self.inside.values.items c.self.view_is c.self.invariant.each in
    record {
      each = omega (arith, c.insert_copy.ensures.len, c.insert_copy-2.ensures.len, c.insert_copy.new.items.ok.0, c.insert_copy-2.new.items.ok.0, c.self.invariant.each, c.self.inside.keys.ok.0, c.self.inside.values.ok.0);
      most = omega (arith, c.requires.free, c.insert_copy.ensures.len, c.insert_copy.new.items.ok.0, len, c.self.inside.keys.ok.0);
      keys = omega (arith, c.self.invariant.keys, c.insert_copy.ensures.capacity);
      values = omega (arith, c.self.invariant.values, c.insert_copy-2.ensures.capacity);
    }

pub returns : goal.returns
returns g c =
    ap (λ ks. paired g.K.Key.number ks c.insert_copy-2.new.items.items) c.insert_copy.ensures.items
    ∙ ap (λ vs. paired g.K.Key.number (insert c.self.inside.keys.items c.args.place c.args.key) vs) c.insert_copy-2.ensures.items
    ∙ paired_insert g.K.Key.number c.self.inside.keys.items c.self.inside.values.items c.args.place c.args.key c.args.value c.self.invariant.each
    ∙ ap (λ (es : List (KeyValue g.row.T.Denot)). insert es c.args.place (record { key = g.K.Key.number c.args.key; value = c.args.value })) c.self.view_is
