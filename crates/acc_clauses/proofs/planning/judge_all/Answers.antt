use Rattle.std.proofs.Common.{arith}
use Rattle.std.proofs.lemmas.Bool.Decides.{nat_tests}
use Rattle.acc_clauses.proofs.Turns.{judge_all-nil}
use Rattle.acc_clauses.proofs.planning.judge_all.Goals as goal

pub returns-in-Wait-clause-judged : goal.returns-in-Wait-clause-judged
returns-in-Wait-clause-judged c = grind (arith, nat_tests, judge_all-nil)
