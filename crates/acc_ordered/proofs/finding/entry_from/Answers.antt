use Rattle.std.proofs.Common.{◌<◌, length, arith}
use Rattle.std.proofs.lemmas.Bool.Decides.{nat_tests}
use Rattle.acc_ordered.proofs.Reading.{read_at, read_bound}
use Rattle.acc_ordered.proofs.finding.entry_from.Goals as goal

pub entry_behind-requires-clause-at : goal.entry_behind-requires-clause-at
entry_behind-requires-clause-at g c =
    let some : 0 < length c.args.rows.now.items = grind (arith, nat_tests) in
    let w = c.requires.within some in
    read_at c.args.rows.now.items c.args.place.row w.row c.index.result.now w.row_is c.index.ensures

pub entry_behind-requires-clause-bound : goal.entry_behind-requires-clause-bound
entry_behind-requires-clause-bound g c =
    let some : 0 < length c.args.rows.now.items = grind (arith, nat_tests) in
    read_bound c.args.rows.now.items c.args.place c.index.result.now (c.requires.within some) c.index.ensures
