use Rattle.std.proofs.Common.{◌≡◌, ◌+◌, ◌<◌, length, sym, ◌∙◌, arith}
use Rattle.acc_ordered.specs.Listing.{entry_in}
use Rattle.acc_ordered.proofs.Laying.{entry_in_row, row_bound}
use Rattle.acc_ordered.proofs.Reading.{read_past, read_next}
use Rattle.acc_ordered.proofs.finding.entry_behind.Goals as goal

pub returns-then-place-len : goal.returns-then-place-len
returns-then-place-len g c = sym (entry_in_row c.args.rows.now.items c.args.place c.args.row.now (entry_in g.K.Key.number c.at.result) c.requires.at (omega (arith, c.len.ensures.value)) c.at.ensures)

pub returns-then-place-len-2 : goal.returns-then-place-len-2
returns-then-place-len-2 g c =
    let end : c.args.place.at ≡ length c.args.row.now = omega (arith, c.len.ensures.value, c.requires.bound) in
    sym (read_past c.args.rows.now.items c.args.place c.args.row.now c.requires.at end (c.if-place-len-2.true ∙ c.len-2.ensures ∙ c.args.rows.now.ok.0))

pub returns : goal.returns
returns g c =
    let end : c.args.place.at ≡ length c.args.row.now = omega (arith, c.len.ensures.value, c.requires.bound) in
    let lt : c.args.place.row + 1 < length c.args.rows.now.items = grind (arith, row_bound c.args.rows.now.items c.args.place.row c.args.row.now c.requires.at, c.if-place-len-2.false) in
    sym (read_next c.args.rows.now.items c.args.place c.args.row.now c.index.result.now (entry_in g.K.Key.number c.at-2.result) c.requires.each c.requires.at end lt c.index.ensures c.at-2.ensures)
