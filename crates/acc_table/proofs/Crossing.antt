-- A table may be handed to another thread: no part of it belongs to one thread.
use denote.Param.Send.{IsSend, sendable}
use Rattle.std.proofs.Crossing.{crosses}
use Rattle.acc_clauses.proofs.Crossing.{shared_send, device_data_send, base_send, plan_send}
use Rattle.acc_base.specs.contracts.events.Event as Event
use Rattle.acc_table.specs.contracts.devices.Devices as Devices
use Rattle.acc_table.specs.contracts.tables.Table as Table

devices_send : IsSend (Devices.the_field).row
devices_send = search (sendable, crosses, shared_send, device_data_send) depth 60 fits 100000

event_send : IsSend (Event.the_field).row
event_send = search (sendable, crosses) depth 60 fits 100000

pub table_send : IsSend Table.the_row
table_send = search (sendable, crosses, devices_send, base_send, plan_send, event_send) depth 60 fits 100000
