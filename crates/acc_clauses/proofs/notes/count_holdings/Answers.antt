use Rattle.std.proofs.Common.{rules}
use Rattle.acc_clauses.proofs.Asking.{held_by}
use Rattle.acc_clauses.proofs.notes.count_holdings.Goals as goal

pub returns-in-Enter : goal.returns-in-Enter
returns-in-Enter c = let held = held_by c.args.directive.now c.requires.asked.0 c.args.acts.now c.requires.asked.1 in search rules

pub returns-in_default : goal.returns-in_default
returns-in_default c = let held = held_by c.args.directive.now c.requires.asked.0 c.args.acts.now c.requires.asked.1 in search rules
