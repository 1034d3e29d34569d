use Rattle.std.proofs.Common.{arith}
use Rattle.acc_present.proofs.Changed.{put_at, ring_taken_at}
use Rattle.acc_present.proofs.rings.put_into.Goals as goal

pub returns-clause-queues : goal.returns-clause-queues
returns-clause-queues c = put_at c.args.rings.now.items c.args.q c.index_mut.result.now c.put.new.self c.args.t (omega arith) c.index_mut.ensures.value c.put.ensures.transfers

pub returns-clause-spare : goal.returns-clause-spare
returns-clause-spare c = ring_taken_at c.args.rings.now.items c.args.q c.index_mut.result.now c.put.new.self (omega arith) c.index_mut.ensures.value c.put.ensures.spare
