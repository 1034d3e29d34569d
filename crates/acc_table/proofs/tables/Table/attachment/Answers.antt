use Rattle.std.proofs.Common.{refl}
use Rattle.acc_table.proofs.tables.Table.attachment.Goals as goal

-- a device that is not there has what a new one has
pub returns-in-None : goal.returns-in-None
returns-in-None c = rw c.in-None.ensures.new refl
