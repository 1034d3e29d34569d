use Rattle.std.proofs.Common.{◌≡◌, length, arith}
use Rattle.acc_ordered.proofs.Laying.{number_next}
use Rattle.acc_ordered.proofs.Reading.{read_at, read_bound, taken_next}
use Rattle.acc_ordered.proofs.finding.ahead.Goals as goal

pub returns-then-place-len-clause-taken : goal.returns-then-place-len-clause-taken
returns-then-place-len-clause-taken g c = record {
  row = c.index.result.now;
  row_is = read_at c.args.rows.now.items c.args.place.row c.requires.within.row c.index.result.now c.requires.within.row_is c.index.ensures;
  bound = omega (arith, c.len.ensures.value);
}

pub returns-else-place-len-clause-taken : goal.returns-else-place-len-clause-taken
returns-else-place-len-clause-taken g c =
    let at = read_at c.args.rows.now.items c.args.place.row c.requires.within.row c.index.result.now c.requires.within.row_is c.index.ensures in
    let end : c.args.place.at ≡ length c.index.result.now = omega (arith, c.len.ensures.value, read_bound c.args.rows.now.items c.args.place c.index.result.now c.requires.within c.index.ensures) in
    taken_next c.args.rows.now.items c.args.place c.index.result.now c.requires.each at end c.requires.some

pub returns-else-place-len-clause-number : goal.returns-else-place-len-clause-number
returns-else-place-len-clause-number g c =
    let at = read_at c.args.rows.now.items c.args.place.row c.requires.within.row c.index.result.now c.requires.within.row_is c.index.ensures in
    let end : c.args.place.at ≡ length c.index.result.now = omega (arith, c.len.ensures.value, read_bound c.args.rows.now.items c.args.place c.index.result.now c.requires.within c.index.ensures) in
    number_next c.args.rows.now.items c.args.place c.index.result.now at end
