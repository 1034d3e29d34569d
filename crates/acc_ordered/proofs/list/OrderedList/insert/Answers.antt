use Rattle.std.proofs.Common.{◌≡◌, arith, ap, sym, ◌∙◌}
use Rattle.acc_ordered.specs.Listing.{Listing, keyed, at_key, with_entry}
use Rattle.acc_ordered.specs.Laid.{side_by_side}
use Rattle.acc_ordered.specs.Spots.{index_of}
use Rattle.acc_ordered.proofs.Searched.{with_split, rise_split}
use Rattle.acc_ordered.proofs.NoRows.{entries_few}
use Rattle.acc_ordered.proofs.HalfFull.{few_rows}
use Rattle.acc_ordered.proofs.list.OrderedList.insert.Goals as goal

pub put-requires-clause-rising : goal.put-requires-clause-rising
put-requires-clause-rising g c =
    let is : side_by_side c.self.inside.rows.items ≡ c.args.self.now.entries = ap (λ (l : Listing g.row.T.Denot). l.entries) c.self.view_is in
    let place = c.find_near-found.ensures.place in
    let none = ap (at_key (g.K.Key.number c.args.key)) is ∙ c.requires.new in
    rw (c.make_place-place.ensures.entries, c.make_place-place.ensures.number) (rise_split (keyed (g.K.Key.number c.args.key) c.args.value) (side_by_side c.self.inside.rows.items) (index_of c.self.inside.rows.items c.find_near-found.result) c.self.invariant.rows.in_rows.rising place.split none)

pub returns-clause-entries : goal.returns-clause-entries
returns-clause-entries g c =
    let is : side_by_side c.self.inside.rows.items ≡ c.args.self.now.entries = ap (λ (l : Listing g.row.T.Denot). l.entries) c.self.view_is in
    let place = c.find_near-found.ensures.place in
    let none = ap (at_key (g.K.Key.number c.args.key)) is ∙ c.requires.new in
    (rw (c.make_place-place.ensures.entries, c.make_place-place.ensures.number) at c.put.ensures.entries) ∙ sym (with_split (keyed (g.K.Key.number c.args.key) c.args.value) (side_by_side c.self.inside.rows.items) (index_of c.self.inside.rows.items c.find_near-found.result) place.split none) ∙ ap (with_entry (keyed (g.K.Key.number c.args.key) c.args.value)) is

pub overflow_add-self : goal.overflow_add-self
overflow_add-self g c = omega (arith, entries_few c.self.inside.rows.items c.self.invariant.rows.in_rows.each, c.self.invariant.counted, c.self.invariant.few)

pub make_place-place-requires-clause-room : goal.make_place-place-requires-clause-room
make_place-place-requires-clause-room g c =
    let room = ap (λ (l : Listing g.row.T.Denot). l.room) c.self.view_is in
    omega (arith, few_rows c.self.inside.rows.items c.self.invariant.half_full, room, c.requires.room)
