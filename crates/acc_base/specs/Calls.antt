-- A call on a table: its refusal, or its event with the world after it. A world is a history and what it led to on all
-- devices.
use Rattle.std.specs.Prelude.{ℕ, ◌+◌, nat_le, Bool, List, [], ◌∷◌, ◌++◌, length, unwrap_or, Result, Ok, ⊤}
use Rattle.acc_base.specs.Words.{Section, Directive, Call, Event, Fault}
use Rattle.acc_base.specs.declared.directives.Directive.TheVariants.{Enter, Exit}
use Rattle.acc_base.specs.declared.calls.Call.TheVariants.{Do, HostWrite, Lend, Gather}
use Rattle.acc_base.specs.declared.faults.Fault.TheVariants.{NoTickets, NoAllowance, TraceFull, NoDevice}
use Rattle.acc_base.specs.Results.{◌>>=◌, ◌>>◌, refuse_if}
use Rattle.acc_base.specs.Limits.{Limits, limits_on}
use Rattle.acc_base.specs.Loans.{Leased}
use Rattle.acc_base.specs.Judge.{Verdict, Makes, few_items, device_named, directive_verdict, host_write_event, lend_event, gather_event}
use Rattle.acc_base.specs.Devices.{Whole, view, new_whole, open_regions, device_of_region, after_on, recorded_whole}

-- what a table had when its trace was last made empty, and how many events had led there. That is everything but bytes;
-- with full traces the bytes of all memories too
pub record Base : Type 0 where
  pub state : Whole
  pub events : ℕ

-- what a table has, as a base to which so many events had led
abbrev pub base_of : Bool → Whole → ℕ → Base
base_of full w events = record { state = recorded_whole full w; events = events }

-- a base, and the events since
pub record History : Type 0 where
  pub base : Base
  pub trace : List Event

-- the limits, which stay; what happened; and what it led to
pub record World : Type 0 where
  pub limits : Limits
  pub history : History
  pub state : Whole

-- a new table, and no event
abbrev pub new_history : Limits → History
new_history l = record { base = base_of l.full (new_whole l.devices l.host) 0; trace = [] }

-- one event more
abbrev pub with_event : Event → History → History
with_event e h = record { base = h.base; trace = h.trace ++ e ∷ [] }

-- the number of all events, those before the base too
abbrev pub event_count : History → ℕ
event_count h = h.base.events + length h.trace

abbrev pub new_world : Limits → World
new_world l = record { limits = l; history = new_history l; state = new_whole l.devices l.host }

-- what a world has is its base now, and there is no event since; nothing else changes
abbrev pub rebased : World → World
rebased w = record {
  limits = w.limits;
  history = record { base = base_of w.limits.full w.state (event_count w.history); trace = [] };
  state = w.state;
}

-- ---- which device a directive is for

-- the one that it names, or that of the region that it leaves
abbrev pub device_for : Directive → Whole → ℕ
device_for (Exit number) w = device_of_region number w
device_for directive w = unwrap_or (device_named directive) 0

-- ---- what is refused before the items are judged

-- there is a ticket for one more event
abbrev pub ticket : World → Result ⊤ Fault
ticket w = refuse_if (nat_le w.limits.tickets (event_count w.history)) (NoTickets 0)

-- entry to a region: there are fewer open regions on all devices than the limit says
abbrev pub allowance : World → Directive → Result ⊤ Fault
allowance w (Enter device items) = refuse_if (nat_le w.limits.regions (open_regions w.state)) (NoAllowance 0)
allowance w _ = Ok tt

-- there is room in the trace for one more event
abbrev pub trace_room : World → Result ⊤ Fault
trace_room w = refuse_if (nat_le w.limits.trace_cap (length w.history.trace)) (TraceFull (length w.history.trace))

-- there is such a device
abbrev pub device_there : World → ℕ → Result ⊤ Fault
device_there w d = refuse_if (nat_le w.limits.devices d) (NoDevice d)

-- ---- a call

-- a directive on a device, in that device's view
abbrev pub verdict_on : World → ℕ → Directive → Result Verdict Fault
verdict_on w d directive = directive_verdict (limits_on d w.limits) d directive (view d w.state)

-- the loan of a section that is mapped on a device, in that device's view
abbrev pub loan_on : World → ℕ → ℕ → Section → Result Event Fault
loan_on w d region section = lend_event (limits_on d w.limits) d region section (view d w.state)

-- the first refusal of a call in the order of refusals, or the verdict on it
unfoldable pub judge : World → Call Leased → Result Verdict Fault
judge w (Do directive) = do
  ticket w
  allowance w directive
  few_items directive
  trace_room w
  device_there w (device_for directive w.state)
  verdict_on w (device_for directive w.state) directive
judge w (HostWrite addr bytes) = do
  ticket w
  trace_room w
  e ← host_write_event w.limits addr bytes
  Ok (Makes e)
judge w (Lend region section) = do
  ticket w
  trace_room w
  e ← loan_on w (device_of_region region w.state) region section
  Ok (Makes e)
judge w (Gather lease) = do
  ticket w
  trace_room w
  e ← gather_event (limits_on lease.device w.limits) lease (view lease.device w.state)
  Ok (Makes e)

-- the bytes that a call brings
abbrev pub bytes_brought : Call Leased → List ℕ
bytes_brought (HostWrite addr bytes) = bytes
bytes_brought (Gather lease) = lease.bytes
bytes_brought _ = []

-- the world after an event of a call
unfoldable pub world_after : Call Leased → Event → World → World
world_after call e w = record {
  limits = w.limits;
  history = with_event e w.history;
  state = after_on w.limits.full e (bytes_brought call) w.state;
}
