use Rattle.std.proofs.Common.{refl}
use Rattle.acc_stale.proofs.Counts.{born_told}
use Rattle.acc_stale.proofs.accounts.Account.born.Goals as goal

pub returns-clause-ok : goal.returns-clause-ok
returns-clause-ok c = born_told c.args.held.placed.device c.args.held.placed.block c.args.self.now _ (record { held = c.args.held; pointers = c.new-pointers.result }) c.in_ok-insert.ensures.updates refl c.new-pointers.ensures.empty
