use Rattle.std.proofs.Common.{refl}
use Rattle.acc_clauses.proofs.Laws.{counters_read}
use Rattle.acc_clauses.proofs.readings.counters_after.Goals as goal

pub returns-clause-value : goal.returns-clause-value
returns-clause-value c = counters_read c.args.view.now.limits c.args.draft.now c.args.draft.now c.args.view.now.state.records c.args.block _ _ c.requires.planned refl c.counters_known-counters.ensures.structured c.counters_known-counters.ensures.dynamic c.counters_past.ensures.value
