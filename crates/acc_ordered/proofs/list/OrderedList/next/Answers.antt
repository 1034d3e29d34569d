use Rattle.std.proofs.Common.{◌≡◌, ap, sym, ◌∙◌}
use Rattle.acc_ordered.specs.Listing.{Listing, first_from}
use Rattle.acc_ordered.specs.Laid.{side_by_side}
use Rattle.acc_ordered.specs.Spots.{index_of}
use Rattle.acc_ordered.proofs.Searched.{first_of_from}
use Rattle.acc_ordered.proofs.list.OrderedList.next.Goals as goal

pub returns : goal.returns
returns g c =
    let is : side_by_side c.self.inside.rows.items ≡ c.args.self.now.entries = ap (λ (l : Listing g.row.T.Denot). l.entries) c.self.view_is in
    let place = c.place_of-place.ensures.place in
    (c.entry_from.ensures) ∙ sym (first_of_from (g.K.Key.number c.args.key) (side_by_side c.self.inside.rows.items) (index_of c.self.inside.rows.items c.place_of-place.result) place.split) ∙ ap (first_from (g.K.Key.number c.args.key)) is
