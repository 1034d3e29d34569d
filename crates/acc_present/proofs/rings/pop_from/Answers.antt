use Rattle.std.proofs.Common.{arith}
use Rattle.acc_present.proofs.Changed.{popped_at, kept_at}
use Rattle.acc_present.proofs.rings.pop_from.Goals as goal

pub returns-clause-queues : goal.returns-clause-queues
returns-clause-queues c = popped_at c.args.rings.now.items c.args.q c.index_mut.result.now c.pop.new.self (omega arith) c.index_mut.ensures.value c.pop.ensures.transfers

pub returns-clause-spare : goal.returns-clause-spare
returns-clause-spare c = kept_at c.args.rings.now.items c.args.q c.index_mut.result.now c.pop.new.self (omega arith) c.index_mut.ensures.value c.pop.ensures.spare
