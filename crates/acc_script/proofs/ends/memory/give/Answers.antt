use Rattle.std.proofs.Common.{rules, drop}
use Rattle.acc_script.proofs.Gives.{given_further, left_further}
use Rattle.acc_script.proofs.ends.memory.give.Goals as goal

pub returns-clause-given : goal.returns-clause-given
returns-clause-given c = given_further c.args.at c.min-count.result c.args.bytes.now c.copy_from_slice.new.self (drop c.min-count.result c.args.piece.now) (search rules) (search rules)

pub returns-clause-left : goal.returns-clause-left
returns-clause-left c = left_further c.args.at c.min-count.result c.args.bytes.now c.copy_from_slice.new.self (drop c.min-count.result c.args.piece.now) (search rules) (search rules)
