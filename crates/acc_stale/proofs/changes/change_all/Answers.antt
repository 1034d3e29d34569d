use Rattle.acc_stale.proofs.Turns.{turn}
use Rattle.acc_stale.proofs.changes.change_all.Goals as goal

pub loop-place-preserved : goal.loop-place-preserved
loop-place-preserved g c = turn (g.B.Compared.compared c.args.bytes.now) _ _ _ _ _ c.loop-place.invariant c.loop-place-test.true c.mark.ensures
