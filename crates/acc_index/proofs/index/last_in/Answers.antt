use Rattle.std.proofs.Common.{sym}
use Rattle.acc_index.proofs.Indexing.{last_is}
use Rattle.acc_index.proofs.index.last_in.Goals as goal

pub returns : goal.returns
returns g c = sym (last_is c.args.items.now c.in_ok-last.field-0.now c.requires (sym c.in_ok-last.ensures.value))
