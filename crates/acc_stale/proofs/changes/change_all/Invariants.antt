use Rattle.std.proofs.Common.{◌≡◌}
use Rattle.acc_stale.proofs.Turns.{changed_from}
use Rattle.acc_stale.proofs.changes.change_all.Given as goal

abbrev pub invariant-loop-place : goal.invariant-loop-place
invariant-loop-place g l = l.section ≡ changed_from (g.B.Compared.compared l.bytes) 0 l.place l.initial.section
