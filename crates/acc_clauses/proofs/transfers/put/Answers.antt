use Rattle.std.proofs.Common.{arith}
use Rattle.acc_clauses.specs.Contents.{beside}
use Rattle.acc_clauses.proofs.Marked.{pins_below}
use Rattle.acc_clauses.proofs.Putting.{queue_there, put_moves}
use Rattle.acc_clauses.proofs.transfers.put.Goals as goal

pub put_reserved-requires-clause-known : goal.put_reserved-requires-clause-known
put_reserved-requires-clause-known c = queue_there c.args.q c.args.environment.now.queues.spare c.laws.ensures.spare c.requires.can.spare

pub pin-requires-clause-few : goal.pin-requires-clause-few
pin-requires-clause-few c = let x = c.args.environment.now in pins_below x.present.table.ranges x.queues.cap x.queues.queues c.args.t.block x.device.marks c.laws.ensures.queues c.requires.marked

pub returns : goal.returns
returns c =
    let x = c.args.environment.now in
    let there = queue_there c.args.q x.queues.spare c.laws.ensures.spare c.requires.can.spare in
    record {
      moved = λ host. put_moves c.args.q c.args.t (beside x host) c.put_reserved.new.self c.pin.new.self (omega (arith, there, c.laws.ensures.queues.count)) c.requires.marked c.put_reserved.ensures.queues c.put_reserved.ensures.cap c.put_reserved.ensures.room c.pin.ensures;
    }
