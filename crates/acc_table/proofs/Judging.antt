-- A lease of a device that is not there is refused.
use Rattle.std.proofs.Common.{◌≡◌, ◌≤◌, refl, ◌∙◌, ap, length, Result, Ok, Err}
use Rattle.acc_clauses.specs.Words.{Event, Fault}
use Rattle.acc_base.specs.declared.calls.Call.TheVariants.{Gather}
use Rattle.acc_base.specs.declared.faults.Fault.TheVariants.{NoLease}
use Rattle.acc_base.specs.Results.{◌>>=◌}
use Rattle.acc_base.specs.Limits.{Limits, limits_on}
use Rattle.acc_base.specs.Records.{State}
use Rattle.acc_base.specs.Loans.{Leased}
use Rattle.acc_base.specs.Devices.{OneDevice, new_device, device_at, view}
use Rattle.acc_base.specs.Judge.{Verdict, Makes, gather_event}
use Rattle.acc_base.specs.Calls.{World, judge, ticket, trace_room}
use Rattle.acc_base.proofs.Views.{device_beyond}

refused_from : (r : Result Event Fault) (fault : Fault) → r ≡ Err fault → ◌≡◌ {A = Result Verdict Fault} (r >>= λ e. Ok (Makes e)) (Err fault)
refused_from r fault h = rw h refl

lease_judgement : (w : World) (lease : Leased) → ticket w ≡ Ok tt → trace_room w ≡ Ok tt → judge w (Gather lease) ≡ (gather_event (limits_on lease.device w.limits) lease (view lease.device w.state) >>= λ e. Ok (Makes e))
unfolding judge
lease_judgement w lease ticket_is room_is = rw (ticket_is, room_is) refl

-- a device that has nothing has lent nothing
gather_none : (l : Limits) (lease : Leased) (s : State) (x : OneDevice) → s.records ≡ x.records → x ≡ new_device → gather_event l lease s ≡ Err (NoLease lease.serial)
unfolding gather_event
gather_none l lease s x records new = let none : s.records ≡ new_device.records = records ∙ ap (λ (y : OneDevice). y.records) new in rw none refl

-- so the lease is refused
pub lease_beyond : (w : World) (lease : Leased) → length w.state.devices ≤ lease.device → ticket w ≡ Ok tt → trace_room w ≡ Ok tt → judge w (Gather lease) ≡ Err (NoLease lease.serial)
lease_beyond w lease beyond ticket_is room_is = lease_judgement w lease ticket_is room_is ∙ refused_from _ (NoLease lease.serial) (gather_none (limits_on lease.device w.limits) lease (view lease.device w.state) (device_at lease.device w.state.devices) refl (device_beyond lease.device w.state.devices beyond))
