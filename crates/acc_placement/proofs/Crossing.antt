-- The holes of a space may be handed to another thread: no part of it belongs to one thread.
use denote.Param.Send.{IsSend, sendable}
use Rattle.std.proofs.Crossing.{crosses}
use Rattle.acc_placement.proofs.nodes.Node.TheLaws.TheKnot as knot
use Rattle.acc_placement.specs.contracts.placement.Holes as Holes

pub holes_send : IsSend Holes.the_row
holes_send = search (sendable, crosses, knot.crosses) depth 60 fits 100000
