use Rattle.std.proofs.Common.{refl}
use Rattle.acc_stale.proofs.Counts.{region_opened}
use Rattle.acc_stale.proofs.accounts.Account.open.Goals as goal

pub returns : goal.returns
returns c = record { ok = region_opened c.args.device c.args.number c.args.self.now _ c.in_ok-tasks.tasks _ c.in_ok-tasks.ensures c.in_ok-insert.ensures.updates refl refl }
