-- Host memory and a device may be handed to another thread: no part of them belongs to one thread.
use denote.Param.Send.{IsSend, sendable}
use Rattle.std.proofs.Crossing.{crosses}
use Rattle.acc_placement.proofs.Crossing.{holes_send}
use Rattle.acc_dev.specs.contracts.devices.Device as Device
use Rattle.acc_dev.specs.contracts.entries.Stored as Stored
use Rattle.acc_dev.specs.contracts.ended.EndedBlocks as EndedBlocks
use Rattle.acc_dev.specs.contracts.memories.HostMem as HostMem

pub host_send : IsSend HostMem.the_row
host_send = search (sendable, crosses) depth 40

stored_send : IsSend Stored.the_row
stored_send = search (sendable, crosses) depth 60 fits 100000

ended_blocks_send : IsSend EndedBlocks.the_row
ended_blocks_send = search (sendable, crosses) depth 60 fits 100000

pub device_send : IsSend Device.the_row
device_send = search (sendable, crosses, holes_send, stored_send, ended_blocks_send) depth 60 fits 100000
