use Rattle.acc_dev.proofs.Rising.{slot_found, none_found}
use Rattle.acc_dev.proofs.entries.slot.Goals as goal

pub returns-clause-found : goal.returns-clause-found
returns-clause-found c = slot_found c.args.index.now.entries c.args.block _ (rw c.in_ok-get.was at c.get.ensures)

pub returns-in_err-get-clause-none : goal.returns-in_err-get-clause-none
returns-in_err-get-clause-none c = rw c.from_residual.ensures (none_found c.args.index.now.entries c.args.block (rw c.in_err-get.was at c.get.ensures))
