use Rattle.acc_stale.proofs.Beginning.{new_follows_whole}
use Rattle.acc_stale.proofs.accounts.Account.new.Goals as goal

pub returns : goal.returns
returns c count host = new_follows_whole count host _ c.new-2.ensures.items
