use Rattle.std.proofs.Common.{◌≡◌, ◌+◌, ◌<◌, length, ltb, arith}
use Rattle.std.proofs.lemmas.Bool.{OnTrue_from}
use Rattle.std.proofs.lemmas.Bool.Decides.{nat_tests}
use Rattle.acc_ordered.specs.Spots.{index_of, HasPlace}
use Rattle.acc_ordered.proofs.Laying.{row_at, row_bound, number_next}
use Rattle.acc_ordered.proofs.Reading.{read_at, read_bound}
use Rattle.acc_ordered.proofs.changes.goes_on.Goals as goal

pub returns : goal.returns
returns g c =
    let at = read_at c.args.rows.now.items c.args.place.row c.requires.row c.index.result.now c.requires.row_is c.index.ensures in
    let end : c.args.place.at ≡ length c.index.result.now = omega (arith, c.len.ensures.value, c.if-place-len.false, read_bound c.args.rows.now.items c.args.place c.index.result.now c.requires c.index.ensures) in
    let lt : c.args.place.row + 1 < length c.args.rows.now.items = grind (arith, row_bound c.args.rows.now.items c.args.place.row c.index.result.now at, c.if-place-len-2.false, c.len-2.ensures, c.args.rows.now.ok.0) in
    OnTrue_from (ltb c.len-3.result 64) (HasPlace c.args.rows.now.items (record { row = c.args.place.row + 1; at = 0 }) × (index_of c.args.rows.now.items (record { row = c.args.place.row + 1; at = 0 }) ≡ index_of c.args.rows.now.items c.args.place)) (λ free. (
      record {
        row = c.index-2.result.now;
        row_is = row_at c.args.rows.now.items (c.args.place.row + 1) c.index-2.result.now lt c.index-2.ensures;
        bound = omega arith;
        free = grind (arith, nat_tests, free, c.len-3.ensures.value);
      },
      number_next c.args.rows.now.items c.args.place c.index.result.now at end,
    ))
