use Rattle.std.proofs.Common.{sym, ◌∙◌}
use Rattle.acc_stale.specs.declared.marks.Mark.TheVariants.{New}
use Rattle.acc_stale.proofs.Compared.{outdated_at}
use Rattle.acc_stale.proofs.changes.OutdatedCompared.mark.Goals as goal

pub returns-else-is : goal.returns-else-is
returns-else-is c = outdated_at c.args.self.now.written.now c.args.self.now.own.now c.args.place _ _ c.args.mark c.against.result c.requires (sym c.is.ensures ∙ c.if-is.false) (c.against.ensures New)
