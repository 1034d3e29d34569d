use Rattle.std.proofs.Common.{refl}
use Rattle.acc_stale.specs.declared.marks.Mark.TheVariants.{New}
use Rattle.acc_stale.specs.Marks.{filled}
use Rattle.acc_stale.proofs.Turns.{turn}
use Rattle.acc_stale.proofs.changes.FilledChange.apply.Goals as goal

pub loop-mark-preserved : goal.loop-mark-preserved
loop-mark-preserved c = turn (filled c.args.self.now.0) c.loop-mark.mark-index New c.args.section.now c.loop-mark.section c.args.self.now.0 c.loop-mark.invariant c.loop-mark-test.true refl
