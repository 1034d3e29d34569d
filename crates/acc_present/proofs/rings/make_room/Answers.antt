use Rattle.std.proofs.Common.{arith}
use Rattle.acc_present.proofs.Changed.{same_at, spare_new, kept_at}
use Rattle.acc_present.proofs.rings.make_room.Goals as goal

pub returns-clause-ok : goal.returns-clause-ok
returns-clause-ok c = rw (spare_new c.args.rings.now.items c.args.q c.reserve.new.self (omega arith)) c.reserve.ensures.ok

pub returns-clause-queues : goal.returns-clause-queues
returns-clause-queues c = same_at c.args.rings.now.items c.args.q c.index_mut.result.now c.reserve.new.self (omega arith) c.index_mut.ensures.value c.reserve.ensures.transfers

pub returns-clause-spare : goal.returns-clause-spare
returns-clause-spare c = kept_at c.args.rings.now.items c.args.q c.index_mut.result.now c.reserve.new.self (omega arith) c.index_mut.ensures.value c.reserve.ensures.spare
