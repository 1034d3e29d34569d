use Rattle.acc_stale.specs.declared.marks.Mark.TheVariants.{New}
use Rattle.acc_stale.proofs.Compared.{overrun_at}
use Rattle.acc_stale.proofs.changes.OverrunCompared.mark.Goals as goal

pub returns : goal.returns
returns c = overrun_at c.args.self.now.after.now c.args.self.now.own.now c.args.place _ _ c.args._mark c.against.result c.requires (c.against.ensures New)
