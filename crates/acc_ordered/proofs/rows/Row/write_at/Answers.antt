use Rattle.std.proofs.Common.{List, set, get_or, ap, ◌∙◌, arith}
use Rattle.std.proofs.lemmas.Option.{get_or_from_slice_get}
use Rattle.acc_ordered.specs.Listing.{KeyValue}
use Rattle.acc_ordered.proofs.Paired.{entries_length, paired_set}
use Rattle.acc_ordered.proofs.rows.Row.write_at.Goals as goal

pub index_mut-requires : goal.index_mut-requires
index_mut-requires g c = omega (arith, c.requires, entries_length g.K.Key.number c.args.self.now c.self.inside.keys.items c.self.inside.values.items c.self.view_is c.self.invariant.each, c.self.invariant.each, c.self.inside.keys.ok.0, c.self.inside.values.ok.0)

pub returns : goal.returns
returns g c = λ entry there.
    paired_set g.K.Key.number c.self.inside.keys.items c.self.inside.values.items c.args.place c.args.value entry c.self.invariant.each
    ∙ ap (λ (es : List (KeyValue g.row.T.Denot)). set es c.args.place (record (get_or es c.args.place entry) { value = c.args.value })) c.self.view_is
    ∙ ap (λ (e : KeyValue g.row.T.Denot). set c.args.self.now c.args.place (record e { value = c.args.value })) (get_or_from_slice_get c.args.self.now c.args.place entry entry there)
