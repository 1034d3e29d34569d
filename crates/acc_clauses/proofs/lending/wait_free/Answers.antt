use Rattle.std.proofs.Common.{arith}
use Rattle.acc_clauses.proofs.Freed.{none_unlent, queue_lent, queue_free}
use Rattle.acc_clauses.proofs.lending.wait_free.Goals as goal

pub returns-then-loans-eq0 : goal.returns-then-loans-eq0
returns-then-loans-eq0 c = grind (arith, none_unlent)

pub returns-in_err-queue_free-in-None : goal.returns-in_err-queue_free-in-None
returns-in_err-queue_free-in-None c = grind (arith, queue_lent)

pub loop-q-preserved : goal.loop-q-preserved
loop-q-preserved c = grind (arith, queue_free)
