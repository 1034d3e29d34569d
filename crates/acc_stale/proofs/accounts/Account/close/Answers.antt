use Rattle.std.proofs.Common.{refl, None}
use Rattle.acc_stale.proofs.Counts.{region_written}
use Rattle.acc_stale.proofs.accounts.Account.close.Goals as goal

pub returns : goal.returns
returns c = record { closed = region_written c.args.device c.args.number c.args.self.now _ None c.remove.ensures.updates refl refl }
