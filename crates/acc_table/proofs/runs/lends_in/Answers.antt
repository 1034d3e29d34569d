use Rattle.std.proofs.Common.{rules, tests}
use Rattle.std.proofs.lemmas.Iterator.{YieldsList-from_slice}
use Rattle.std.proofs.lemmas.Iterator.Consumers.{count_from_yields_List, YieldsList-from_filter}
use Rattle.acc_table.specs.Turning.{is_lend}
use Rattle.acc_table.proofs.runs.lends_in.Goals as goal

pub returns : goal.returns
returns c = count_from_yields_List _ _ c.count.ensures.ran (YieldsList-from_filter _ is_lend (YieldsList-from_slice c.args.turns.now cc) c.filter.ensures.closure (λ x b q k. search (rules, tests)))
