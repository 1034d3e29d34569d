use Rattle.std.proofs.Common.{◌≡◌, IsSome, ap, ◌∙◌}
use Rattle.acc_ordered.specs.Listing.{Listing, at_key, without_key}
use Rattle.acc_ordered.specs.Laid.{side_by_side}
use Rattle.acc_ordered.specs.Spots.{index_of}
use Rattle.acc_ordered.proofs.Searched.{without_got}
use Rattle.acc_ordered.proofs.Answering.{key_of_found, some_is}
use Rattle.acc_ordered.proofs.list.OrderedList.remove.Goals as goal

pub returns-clause-entries : goal.returns-clause-entries
returns-clause-entries g c =
    let is : side_by_side c.self.inside.rows.items ≡ c.args.self.now.entries = ap (λ (l : Listing g.row.T.Denot). l.entries) c.self.view_is in
    let key = g.K.Key.number c.args.key in
    let found = c.locate-place.ensures.entry in
    let there : IsSome (at_key key (side_by_side c.self.inside.rows.items)) = rw is c.requires.there in
    let e = some_is (at_key key (side_by_side c.self.inside.rows.items)) there in
    c.take_out.ensures.entries ∙ without_got key (side_by_side c.self.inside.rows.items) (index_of c.self.inside.rows.items c.locate-place.result) e.0 c.self.invariant.rows.in_rows.rising (found ∙ e.1) (key_of_found key (side_by_side c.self.inside.rows.items) e.0 e.1) ∙ ap (without_key key) is
