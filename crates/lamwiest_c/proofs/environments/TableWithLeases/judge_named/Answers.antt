use Rattle.lamwiest_c.specs.Named.{directive_named}
use Rattle.lamwiest_c.proofs.Judged.{read_wrong, read_right}
use Rattle.lamwiest_c.proofs.environments.TableWithLeases.judge_named.Goals as goal

pub returns-in-Ok-clause-judged : goal.returns-in-Ok-clause-judged
returns-in-Ok-clause-judged c = read_right c.args.self.now (directive_named c.args.asked.now c.args.items.now) c.in-Ok.directive c.judge.result c.in-Ok.ensures c.judge.ensures.told

pub returns-in-Err-clause-judged : goal.returns-in-Err-clause-judged
returns-in-Err-clause-judged c = read_wrong c.args.self.now (directive_named c.args.asked.now c.args.items.now) c.in-Err.refusal c.in-Err.ensures
