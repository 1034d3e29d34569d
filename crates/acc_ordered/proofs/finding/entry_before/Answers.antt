use Rattle.std.proofs.Common.{sym, arith}
use Rattle.acc_ordered.specs.Listing.{entry_in}
use Rattle.acc_ordered.proofs.Reading.{before_row, before_none}
use Rattle.acc_ordered.proofs.finding.entry_before.Goals as goal

pub at-requires : goal.at-requires
at-requires g c = grind (arith, c.requires.bound, c.if-place-eq0.false)

pub returns-then-place-eq0 : goal.returns-then-place-eq0
returns-then-place-eq0 g c = λ rows at first. before_none rows c.args.place c.if-place-eq0.true (first c.if-place-eq0.true)

pub returns : goal.returns
returns g c = λ rows at first. sym (before_row rows c.args.place c.args.row.now (entry_in g.K.Key.number c.at.result) at c.if-place-eq0.false c.at.ensures)
