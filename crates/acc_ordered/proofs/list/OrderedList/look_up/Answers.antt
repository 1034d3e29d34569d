use Rattle.std.proofs.Common.{◌≡◌, ap, sym, ◌∙◌, arith}
use Rattle.std.proofs.lemmas.Bool.Decides.{nat_tests}
use Rattle.acc_ordered.specs.Listing.{Listing, at_key, entry_in, seen}
use Rattle.acc_ordered.specs.Laid.{side_by_side}
use Rattle.acc_ordered.specs.Spots.{index_of}
use Rattle.acc_ordered.proofs.Laying.{got}
use Rattle.acc_ordered.proofs.Answering.{got_rows}
use Rattle.acc_ordered.proofs.Searched.{at_other, at_none, not_below_at}
use Rattle.acc_ordered.proofs.list.OrderedList.look_up.Goals as goal

pub returns-in_default : goal.returns-in_default
returns-in_default g c =
    let is : side_by_side c.self.inside.rows.items ≡ c.args.self.now.entries = ap (λ (l : Listing g.row.T.Denot). l.entries) c.self.view_is in
    let place = c.place_of-place.ensures.place in
    let found = c.entry_from.ensures in
    sym (at_none (g.K.Key.number c.args.key) (side_by_side c.self.inside.rows.items) (index_of c.self.inside.rows.items c.place_of-place.result) c.self.invariant.rows.in_rows.rising place.split (sym found ∙ ap (seen g.K.Key.number) c.in_default.is)) ∙ ap (at_key (g.K.Key.number c.args.key)) is

pub returns-then-is_below : goal.returns-then-is_below
returns-then-is_below g c =
    let is : side_by_side c.self.inside.rows.items ≡ c.args.self.now.entries = ap (λ (l : Listing g.row.T.Denot). l.entries) c.self.view_is in
    let place = c.place_of-place.ensures.place in
    let found = c.entry_from.ensures in
    sym (at_other (g.K.Key.number c.args.key) (side_by_side c.self.inside.rows.items) (index_of c.self.inside.rows.items c.place_of-place.result) (entry_in g.K.Key.number c.in-Some.entry) c.self.invariant.rows.in_rows.rising place.split (sym found ∙ ap (seen g.K.Key.number) c.in-Some.is) (λ same. absurd (grind (arith, nat_tests, same, c.is_below.ensures, c.if-is_below.true)))) ∙ ap (at_key (g.K.Key.number c.args.key)) is

pub ahead-requires-clause-within : goal.ahead-requires-clause-within
ahead-requires-clause-within g c =
    let place = c.place_of-place.ensures.place in
    let found = c.entry_from.ensures in
    (place.within (got_rows c.self.inside.rows.items (index_of c.self.inside.rows.items c.place_of-place.result) (entry_in g.K.Key.number c.in-Some.entry) (sym found ∙ ap (seen g.K.Key.number) c.in-Some.is)))

pub ahead-requires-clause-some : goal.ahead-requires-clause-some
ahead-requires-clause-some g c =
    let found = c.entry_from.ensures in
    let there = got (side_by_side c.self.inside.rows.items) (index_of c.self.inside.rows.items c.place_of-place.result) (entry_in g.K.Key.number c.in-Some.entry) (sym found ∙ ap (seen g.K.Key.number) c.in-Some.is) in
    there.bound

pub returns-else-is_below : goal.returns-else-is_below
returns-else-is_below g c =
    let is : side_by_side c.self.inside.rows.items ≡ c.args.self.now.entries = ap (λ (l : Listing g.row.T.Denot). l.entries) c.self.view_is in
    let place = c.place_of-place.ensures.place in
    let found = c.entry_from.ensures in
    sym (not_below_at (g.K.Key.number c.args.key) (side_by_side c.self.inside.rows.items) (index_of c.self.inside.rows.items c.place_of-place.result) (entry_in g.K.Key.number c.in-Some.entry) c.self.invariant.rows.in_rows.rising place.split (sym found ∙ ap (seen g.K.Key.number) c.in-Some.is) (sym c.is_below.ensures ∙ c.if-is_below.false)) ∙ ap (at_key (g.K.Key.number c.args.key)) is
