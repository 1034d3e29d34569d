use Rattle.std.proofs.Common.{length}
use Rattle.acc_jobs.proofs.awkward.leases.Given as goal

abbrev pub decreases-loop-lease : goal.decreases-loop-lease
decreases-loop-lease l = length l.out.items
