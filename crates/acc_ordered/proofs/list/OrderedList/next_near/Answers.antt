use Rattle.std.proofs.Common.{◌≡◌, ap, sym, ◌∙◌}
use Rattle.acc_ordered.specs.Listing.{Listing, first_from, entry_in, seen}
use Rattle.acc_ordered.specs.Laid.{side_by_side}
use Rattle.acc_ordered.specs.Spots.{index_of}
use Rattle.acc_ordered.proofs.Laying.{got}
use Rattle.acc_ordered.proofs.Answering.{got_rows}
use Rattle.acc_ordered.proofs.Searched.{first_of_from}
use Rattle.acc_ordered.proofs.list.OrderedList.next_near.Goals as goal

pub returns-in_default : goal.returns-in_default
returns-in_default g c =
    let is : side_by_side c.self.inside.rows.items ≡ c.args.self.now.entries = ap (λ (l : Listing g.row.T.Denot). l.entries) c.self.view_is in
    let place = c.find_near-place.ensures.place in
    let found = c.entry_from.ensures in
    sym (ap (seen g.K.Key.number) c.in_default.is) ∙ found ∙ sym (first_of_from (g.K.Key.number c.args.key) (side_by_side c.self.inside.rows.items) (index_of c.self.inside.rows.items c.find_near-place.result) place.split) ∙ ap (first_from (g.K.Key.number c.args.key)) is

pub ahead-requires-clause-within : goal.ahead-requires-clause-within
ahead-requires-clause-within g c =
    let place = c.find_near-place.ensures.place in
    let found = c.entry_from.ensures in
    (place.within (got_rows c.self.inside.rows.items (index_of c.self.inside.rows.items c.find_near-place.result) (entry_in g.K.Key.number c.in-Some.entry) (sym found ∙ ap (seen g.K.Key.number) c.in-Some.is)))

pub ahead-requires-clause-some : goal.ahead-requires-clause-some
ahead-requires-clause-some g c =
    let found = c.entry_from.ensures in
    let there = got (side_by_side c.self.inside.rows.items) (index_of c.self.inside.rows.items c.find_near-place.result) (entry_in g.K.Key.number c.in-Some.entry) (sym found ∙ ap (seen g.K.Key.number) c.in-Some.is) in
    there.bound

pub returns : goal.returns
returns g c =
    let is : side_by_side c.self.inside.rows.items ≡ c.args.self.now.entries = ap (λ (l : Listing g.row.T.Denot). l.entries) c.self.view_is in
    let place = c.find_near-place.ensures.place in
    let found = c.entry_from.ensures in
    sym (ap (seen g.K.Key.number) c.in-Some.is) ∙ found ∙ sym (first_of_from (g.K.Key.number c.args.key) (side_by_side c.self.inside.rows.items) (index_of c.self.inside.rows.items c.find_near-place.result) place.split) ∙ ap (first_from (g.K.Key.number c.args.key)) is
