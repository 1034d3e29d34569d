use Rattle.std.proofs.Common.{vec_len}
use Rattle.acc_table.proofs.calls.abandon_all.Given as goal

abbrev pub decreases-loop-lease : goal.decreases-loop-lease
decreases-loop-lease l = vec_len l.leases
