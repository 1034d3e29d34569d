use Rattle.std.proofs.Common.{ℕ, zero, suc, ◌≡◌, ◌<◌, ◌≤◌, ◌+◌, ◌*◌, ap, sym, ◌∙◌, length, rules, arith}
use Rattle.std.proofs.lemmas.Bool.Decides.{nat_tests}
use Rattle.std.specs.Prelude.{◌==◌, ◌^◌}
use Rattle.acc_ordered.specs.Listing.{Listing, first_from, last_before}
use Rattle.acc_ordered.specs.Laid.{side_by_side}
use Rattle.acc_ordered.specs.Spots.{index_of}
use Rattle.acc_ordered.proofs.NoRows.{rows_few}
use Rattle.acc_ordered.proofs.Searched.{first_of_from, last_of_before}
use Rattle.acc_ordered.proofs.list.OrderedList.around_counted.Goals as goal

pub tick-requires : goal.tick-requires
tick-requires g c = omega (arith, c.requires.limit, c.find_near-place.ensures.steps 64 (omega (arith, c.self.inside.rows.ok.0, c.self.inside.rows.small.0, c.self.inside.rows.small.1)))

pub returns-clause-before : goal.returns-clause-before
returns-clause-before g c =
    let is : side_by_side c.self.inside.rows.items ≡ c.args.self.now.entries = ap (λ (l : Listing g.row.T.Denot). l.entries) c.self.view_is in
    let place = c.find_near-place.ensures.place in
    c.neighbors.ensures.before ∙ sym (last_of_before (g.K.Key.number c.args.key) (side_by_side c.self.inside.rows.items) (index_of c.self.inside.rows.items c.find_near-place.result) place.split) ∙ ap (last_before (g.K.Key.number c.args.key)) is

pub returns-clause-from : goal.returns-clause-from
returns-clause-from g c =
    let is : side_by_side c.self.inside.rows.items ≡ c.args.self.now.entries = ap (λ (l : Listing g.row.T.Denot). l.entries) c.self.view_is in
    let place = c.find_near-place.ensures.place in
    c.neighbors.ensures.from ∙ sym (first_of_from (g.K.Key.number c.args.key) (side_by_side c.self.inside.rows.items) (index_of c.self.inside.rows.items c.find_near-place.result) place.split) ∙ ap (first_from (g.K.Key.number c.args.key)) is

pub returns-clause-steps : goal.returns-clause-steps
returns-clause-steps g c = λ d few.
    let is : side_by_side c.self.inside.rows.items ≡ c.args.self.now.entries = ap (λ (l : Listing g.row.T.Denot). l.entries) c.self.view_is in
    let long = ap length is in
    let fewer = rows_few c.self.inside.rows.items c.self.invariant.rows.in_rows.each in
    let none : c.is_empty.result ≡ (length c.self.inside.rows.items == 0) = search rules in
    let some : 0 < length c.self.inside.rows.items = grind (arith, nat_tests, none, c.if-is_empty.false) in
    let taken = c.find_near-place.ensures.steps d (omega (arith, few, long, fewer)) in
    more d (omega (arith, few, long, fewer, some)) taken
  where
    more : (d : ℕ) → 1 < 2 ^ d → c.find_near-place.new.steps ≤ c.args.steps.now + d → c.tick.new.self ≤ c.args.steps.now + 2 * d
    more zero lt taken = absurd (omega (arith, lt))
    more (suc d) lt taken = omega (arith, taken, c.tick.ensures)
