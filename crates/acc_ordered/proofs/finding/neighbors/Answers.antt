use Rattle.acc_ordered.proofs.Reading.{read_at, read_bound}
use Rattle.acc_ordered.proofs.finding.neighbors.Goals as goal

pub entry_before-requires : goal.entry_before-requires
entry_before-requires g c = record { bound = read_bound c.args.rows.now.items c.args.place c.index-row.result.now c.requires.within c.index-row.ensures }

pub entry_behind-requires-clause-at : goal.entry_behind-requires-clause-at
entry_behind-requires-clause-at g c = read_at c.args.rows.now.items c.args.place.row c.requires.within.row c.index-row.result.now c.requires.within.row_is c.index-row.ensures

pub entry_behind-requires-clause-bound : goal.entry_behind-requires-clause-bound
entry_behind-requires-clause-bound g c = read_bound c.args.rows.now.items c.args.place c.index-row.result.now c.requires.within c.index-row.ensures

pub returns-clause-before : goal.returns-clause-before
returns-clause-before g c = c.entry_before.ensures c.args.rows.now.items (read_at c.args.rows.now.items c.args.place.row c.requires.within.row c.index-row.result.now c.requires.within.row_is c.index-row.ensures) c.requires.first
