use Rattle.std.proofs.Common.{List, ap, ◌∙◌, arith}
use Rattle.std.specs.List.{remove}
use Rattle.acc_ordered.specs.Listing.{KeyValue}
use Rattle.acc_ordered.specs.Pairs.{paired}
use Rattle.acc_ordered.proofs.Paired.{entries_length, paired_remove}
use Rattle.acc_ordered.proofs.rows.Row.remove_at.Goals as goal

pub remove_copy-requires : goal.remove_copy-requires
remove_copy-requires g c = omega (arith, c.requires, entries_length g.K.Key.number c.args.self.now c.self.inside.keys.items c.self.inside.values.items c.self.view_is c.self.invariant.each, c.self.inside.keys.ok.0, c.self.inside.values.ok.0)

pub remove_copy-requires-2 : goal.remove_copy-requires-2
remove_copy-requires-2 g c = omega (arith, c.requires, entries_length g.K.Key.number c.args.self.now c.self.inside.keys.items c.self.inside.values.items c.self.view_is c.self.invariant.each, c.self.invariant.each, c.self.inside.keys.ok.0, c.self.inside.values.ok.0)

pub returns : goal.returns
returns g c =
    ap (λ ks. paired g.K.Key.number ks c.remove_copy-2.new.items.items) c.remove_copy.ensures.items
    ∙ ap (λ vs. paired g.K.Key.number (remove c.self.inside.keys.items c.args.place) vs) c.remove_copy-2.ensures.items
    ∙ paired_remove g.K.Key.number c.self.inside.keys.items c.self.inside.values.items c.args.place c.self.invariant.each
    ∙ ap (λ (es : List (KeyValue g.row.T.Denot)). remove es c.args.place) c.self.view_is
