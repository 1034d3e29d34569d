use Rattle.std.proofs.Common.{◌<◌, length, arith}
use Rattle.acc_ordered.specs.Listing.{entry_in}
use Rattle.acc_ordered.proofs.Laying.{row_at, entry_in_row}
use Rattle.acc_ordered.proofs.finding.entry_at.Goals as goal

pub returns-clause-taken : goal.returns-clause-taken
returns-clause-taken g c = record {
  row = c.index-row.result.now;
  row_is = row_at c.args.rows.now.items c.args.place.row c.index-row.result.now (omega (arith, c.if-place-len.false)) c.index-row.ensures;
  bound = omega (arith, c.if-place-len-2.false, c.len-2.ensures.value);
}

pub returns-clause-entry : goal.returns-clause-entry
returns-clause-entry g c =
    let at = row_at c.args.rows.now.items c.args.place.row c.index-row.result.now (omega (arith, c.if-place-len.false)) c.index-row.ensures in
    let lt : c.args.place.at < length c.index-row.result.now = omega (arith, c.if-place-len-2.false, c.len-2.ensures.value) in
    entry_in_row c.args.rows.now.items c.args.place c.index-row.result.now (entry_in g.K.Key.number c.at.result) at lt c.at.ensures
