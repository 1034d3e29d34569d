use Rattle.std.proofs.Common.{◌≡◌, List, ap, subst}
use Rattle.std.specs.Prelude.{IfSome}
use Rattle.acc_ordered.specs.Listing.{KeyValue, Listing, at_key, seen}
use Rattle.acc_ordered.specs.Laid.{side_by_side}
use Rattle.acc_ordered.proofs.Reading.{entry_found}
use Rattle.acc_ordered.proofs.list.OrderedList.at.Goals as goal

pub returns : goal.returns
returns g c =
    let is : side_by_side c.self.inside.rows.items ≡ c.args.self.now.entries = ap (λ (l : Listing g.row.T.Denot). l.entries) c.self.view_is in
    subst (λ (es : List (KeyValue g.row.T.Denot)). IfSome c.entry_at.result (λ found. at_key (g.K.Key.number found.key) es ≡ seen g.K.Key.number c.entry_at.result)) is (entry_found g.K.Key.number c.self.inside.rows.items c.args.place c.entry_at.result c.self.invariant.rows.in_rows.rising c.entry_at.ensures.taken c.entry_at.ensures.entry)
