use Rattle.std.proofs.Common.{ap, length, arith}
use Rattle.acc_ordered.proofs.Reading.{read_row, read_at}
use Rattle.acc_ordered.proofs.changes.take_out.Goals as goal

pub take_row-requires-clause-alone : goal.take_row-requires-clause-alone
take_row-requires-clause-alone g c = record {
  row = c.index.result.now;
  row_is = read_at c.args.rows.now.items c.args.place.row c.requires.taken.row c.index.result.now c.requires.taken.row_is c.index.ensures;
  count_is = omega (arith, c.len.ensures.value);
}

pub shorten-requires-clause-among : goal.shorten-requires-clause-among
shorten-requires-clause-among g c =
    let same = ap length (read_row c.args.rows.now.items c.args.place.row c.requires.taken.row c.index.result.now c.requires.taken.row_is c.index.ensures) in
    record {
      row = c.index.result.now;
      row_is = read_at c.args.rows.now.items c.args.place.row c.requires.taken.row c.index.result.now c.requires.taken.row_is c.index.ensures;
      bound = omega (arith, c.requires.taken.bound, same);
      others = omega (arith, c.len.ensures.value, c.requires.taken.bound, same);
    }
