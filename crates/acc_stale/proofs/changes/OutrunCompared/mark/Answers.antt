use Rattle.acc_stale.specs.declared.marks.Mark.TheVariants.{New}
use Rattle.acc_stale.proofs.Compared.{outrun_at}
use Rattle.acc_stale.proofs.changes.OutrunCompared.mark.Goals as goal

pub returns-else-self-place : goal.returns-else-self-place
returns-else-self-place c = outrun_at c.args.self.now.before.now c.args.self.now.after.now c.args.self.now.own.now c.args.place _ _ _ c.args.mark c.against-written.result c.requires c.if-self-place.false (c.against-written.ensures New)
