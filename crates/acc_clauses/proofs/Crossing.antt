-- What one device has, and a plan, may be handed to another thread: no part of them belongs to one thread.
use denote.Param.Send.{IsSend, sendable, view_send, recorded_send, struct_send}
use denote.Param.SendFields.{as_row_send}
use denote.Struct.Declared.{shape}
use Rattle.std.proofs.Crossing.{crosses}
use Rattle.acc_dev.proofs.Crossing.{host_send, device_send}
use Rattle.acc_present.proofs.Crossing.{queues_send, attached_send, present_send}
use Rattle.acc_base.specs.contracts.configs.Config as Config
use Rattle.acc_clauses.specs.contracts.environments.Environment as Environment
use Rattle.acc_clauses.specs.contracts.devices.DeviceData as DeviceData
use Rattle.acc_clauses.specs.contracts.devices.DeviceData.TheInside as inside
use Rattle.acc_clauses.specs.contracts.shared.Shared as Shared
use Rattle.acc_clauses.specs.contracts.bases.Base as Base
use Rattle.acc_clauses.specs.contracts.bases.DeviceBase as DeviceBase
use Rattle.acc_clauses.specs.contracts.plans.Plan as Plan

-- ---- what one device has, and what all share

environment_send : IsSend (Environment.the_field).row
environment_send = search (sendable, crosses, device_send, present_send, attached_send, queues_send) depth 60 fits 100000

pub config_send : IsSend Config.the_row
config_send = search (sendable, crosses) depth 60 fits 100000

pub device_data_send : IsSend DeviceData.the_row
device_data_send = view_send _ _ _ _ _ (recorded_send inside.the_field.row _ _ inside.the_type.to_one (struct_send (shape inside.the_type) (as_row_send Config.the_field config_send, (search (sendable, crosses) depth 20, (environment_send, (search (sendable, crosses) depth 20, tt))))))

pub shared_send : IsSend Shared.the_row
shared_send = search (sendable, crosses, host_send) depth 60 fits 100000

-- ---- what the devices of a table had, and a plan

device_base_send : IsSend DeviceBase.the_row
device_base_send = search (sendable, crosses) depth 60 fits 100000

pub base_send : IsSend Base.the_row
base_send = search (sendable, crosses, device_base_send) depth 60 fits 100000

pub plan_send : IsSend Plan.the_row
plan_send = search (sendable, crosses) depth 40 fits 100000
