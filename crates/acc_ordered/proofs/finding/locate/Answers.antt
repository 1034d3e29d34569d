use Rattle.std.proofs.Common.{ap, ◌∙◌}
use Rattle.std.specs.Prelude.{slice_get}
use Rattle.acc_ordered.specs.Laid.{side_by_side}
use Rattle.acc_ordered.specs.Spots.{index_of}
use Rattle.std.proofs.lemmas.Bool.{OnTrue_at}
use Rattle.acc_ordered.proofs.Searched.{split_bound, at_split}
use Rattle.acc_ordered.proofs.Reading.{near_found, some_rows}
use Rattle.acc_ordered.proofs.finding.locate.Goals as goal

pub returns-then-stands_at-clause-taken : goal.returns-then-stands_at-clause-taken
returns-then-stands_at-clause-taken g c = (OnTrue_at c.if-stands_at.true c.stands_at.ensures).taken

pub returns-then-stands_at-clause-entry : goal.returns-then-stands_at-clause-entry
returns-then-stands_at-clause-entry g c = near_found (g.K.Key.number c.args.key) c.args.rows.now.items c.args.near c.requires.in_rows.rising (OnTrue_at c.if-stands_at.true c.stands_at.ensures)

pub ahead-requires-clause-within : goal.ahead-requires-clause-within
ahead-requires-clause-within g c = c.place_of.ensures.place.within (some_rows (g.K.Key.number c.args.key) c.args.rows.now.items c.requires.there)

pub ahead-requires-clause-some : goal.ahead-requires-clause-some
ahead-requires-clause-some g c = split_bound (g.K.Key.number c.args.key) (side_by_side c.args.rows.now.items) (index_of c.args.rows.now.items c.place_of.result) c.place_of.ensures.place.split c.requires.there

pub returns-clause-entry : goal.returns-clause-entry
returns-clause-entry g c = ap (slice_get (side_by_side c.args.rows.now.items)) c.ahead.ensures.number ∙ at_split (g.K.Key.number c.args.key) (side_by_side c.args.rows.now.items) (index_of c.args.rows.now.items c.place_of.result) c.requires.in_rows.rising c.place_of.ensures.place.split c.requires.there
