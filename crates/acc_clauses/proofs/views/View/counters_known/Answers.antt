use Rattle.std.proofs.Common.{sym}
use Rattle.acc_clauses.proofs.Legal.{limit_of}
use Rattle.acc_clauses.proofs.views.View.counters_known.Goals as goal

pub returns-in-Some-clause-structured_limit : goal.returns-in-Some-clause-structured_limit
returns-in-Some-clause-structured_limit c = (limit_of c.args.self.now.limits c.args.self.now.state.records c.args.block c.in-Some.range c.laws.ensures.sound.records (sym c.in-Some.ensures)).structured

pub returns-in-Some-clause-dynamic_limit : goal.returns-in-Some-clause-dynamic_limit
returns-in-Some-clause-dynamic_limit c = (limit_of c.args.self.now.limits c.args.self.now.state.records c.args.block c.in-Some.range c.laws.ensures.sound.records (sym c.in-Some.ensures)).dynamic
