-- What a device has on record may be handed to another thread: no part of it belongs to one thread.
use denote.Param.Send.{IsSend, sendable}
use Rattle.std.proofs.Crossing.{crosses}
use Rattle.acc_present.specs.contracts.attaching.Attached as Attached
use Rattle.acc_present.specs.contracts.presence.Present as Present
use Rattle.acc_present.specs.contracts.waiting.Queues as Queues

pub present_send : IsSend Present.the_row
present_send = search (sendable, crosses) depth 60 fits 100000

pub attached_send : IsSend Attached.the_row
attached_send = search (sendable, crosses) depth 40 fits 100000

pub queues_send : IsSend Queues.the_row
queues_send = search (sendable, crosses) depth 40
