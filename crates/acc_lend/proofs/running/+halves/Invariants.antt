use Rattle.std.proofs.Common.{length}
use Rattle.acc_lend.proofs.running.+halves.Given as goal

-- a half has fewer parts

abbrev pub decreases-Work::run : goal.decreases-Work::run
decreases-Work::run g l = length l.lengths.now

abbrev pub decreases-join_mut+arg2 : goal.decreases-join_mut+arg2
decreases-join_mut+arg2 g l = length l.low.now

abbrev pub decreases-join_mut+arg3 : goal.decreases-join_mut+arg3
decreases-join_mut+arg3 g l = length l.high.now
