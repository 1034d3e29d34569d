use Rattle.std.proofs.Common.{rules}
use Rattle.acc_table.proofs.tables.Table.ended.Goals as goal

-- a device that is not there has what a new one has
pub returns-in_err-on : goal.returns-in_err-on
returns-in_err-on c = rw c.in_err-on.ensures.new (search rules)
