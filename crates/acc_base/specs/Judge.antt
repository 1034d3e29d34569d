-- What each directive, write and loan is refused for, in order, and else the event that it makes.
use Rattle.std.specs.Prelude.{ℕ, Bool, not, nat_lt, ◌==◌, List, [], map, take, length, reverse, Option, is_none, ok_or, Some, None, Result, Ok, Err, ⊤}
use Rattle.acc_base.specs.Words.{Directive, Section, Found, Loan, Holding, Transfer, Task, Did, Event, Fault}
use Rattle.acc_base.specs.declared.directives.Directive.TheVariants.{Enter, Exit, EnterData, ExitData, Update, Wait, Step}
use Rattle.acc_base.specs.declared.mappings.Found.TheVariants.{Empty, Inside, Partly, Absent}
use Rattle.acc_base.specs.declared.events.Event.TheVariants as events
use Rattle.acc_base.specs.declared.faults.Fault.TheVariants.{TooManyItems, PartlyPresent, NotPresent, NoRegion, NoLease, NoDevice}
use Rattle.acc_base.specs.Results.{◌>>=◌, ◌>>◌, refuse_if}
use Rattle.acc_base.specs.Limits.{Limits, recorded}
use Rattle.acc_base.specs.Records.{State}
use Rattle.acc_base.specs.Ranges.{where_is}
use Rattle.acc_base.specs.Register.{Register, holdings_at}
use Rattle.acc_base.specs.Loans.{Leased, not_lent, none_lent}
use Rattle.acc_base.specs.Bytes.{bytes_of}
use Rattle.acc_base.specs.Leases.{section_bytes, is_returnable}
use Rattle.acc_base.specs.Clauses.{in_host}
use Rattle.acc_base.specs.Acting.{judge_all}
use Rattle.acc_base.specs.Queues.{queue_at, head_of, queue_named}
use Rattle.acc_base.specs.Waits.{steps_of, transfers_of}
use Rattle.acc_base.specs.Walk.{enter_task, enter_data_task, exit_task, move_task, leave_tasks}

-- how many items a directive may have
abbrev pub item_limit : ℕ
item_limit = 64

-- how many items a directive names
abbrev pub item_count : Directive → ℕ
item_count (Enter device items) = length items
item_count (EnterData device items queue) = length items
item_count (ExitData device items finalize queue) = length items
item_count (Update device items if_present queue) = length items
item_count _ = 0

abbrev pub few_items : Directive → Result ⊤ Fault
few_items d = refuse_if (nat_lt item_limit (item_count d)) (TooManyItems (item_count d))

-- what a directive asks, in the order in which it acts, where the region that it leaves holds these
abbrev pub tasks_with : Directive → List Holding → List Task
tasks_with (Enter device items) holdings = map enter_task items
tasks_with (Exit number) holdings = leave_tasks holdings
tasks_with (EnterData device items queue) holdings = map (enter_data_task queue) items
tasks_with (ExitData device items finalize queue) holdings = map (exit_task finalize queue) items
tasks_with (Update device items if_present queue) holdings = map (move_task if_present queue) items
tasks_with _ holdings = []

-- what the region holds that a directive leaves, if it is open
abbrev pub holdings_left : Directive → Register → Result (List Holding) Fault
holdings_left (Exit number) g = ok_or (holdings_at number g.regions) (NoRegion number)
holdings_left _ g = Ok []

-- what a directive asks, in the order in which it acts
abbrev pub tasks_of : Directive → Register → Result (List Task) Fault
tasks_of d g = do
  holdings ← holdings_left d g
  Ok (tasks_with d holdings)

-- the queue that a directive names
abbrev pub queue_in : Directive → Option ℕ
queue_in (EnterData device items queue) = queue
queue_in (ExitData device items finalize queue) = queue
queue_in (Update device items if_present queue) = queue
queue_in (Wait device queue) = queue
queue_in (Step device queue) = Some queue
queue_in _ = None

-- the queued transfers that a directive makes
abbrev pub transfers_in : Directive → List (List Transfer) → List Transfer
transfers_in (Wait device queue) queues = transfers_of queue queues
transfers_in (Step device queue) queues = take 1 (queue_at queue queues)
transfers_in _ queues = []

-- the verdict on an accepted call: an event, or nothing to do
pub data Verdict : Type 0 where
  Makes : Event → Verdict
  Idle : Verdict

-- the step of a queue of a device makes its first transfer; there is nothing to do where the queue is empty
abbrev pub step_verdict : ℕ → ℕ → Option Transfer → Verdict
step_verdict d queue None = Idle
step_verdict d queue (Some t) = Makes (events.Stepped d queue t.block)

-- the verdict on a directive on a device where its tasks did this, in the order in which they acted
abbrev pub verdict_of : ℕ → Directive → State → List Did → Verdict
verdict_of d (Enter device items) s dids = Makes (events.Entered d s.register.next items dids)
verdict_of d (Exit number) s dids = Makes (events.Left d number (reverse dids))
verdict_of d (EnterData device items queue) s dids = Makes (events.EnteredData d items queue dids)
verdict_of d (ExitData device items finalize queue) s dids = Makes (events.ExitedData d items finalize queue dids)
verdict_of d (Update device items if_present queue) s dids = Makes (events.Updated d items if_present queue dids)
verdict_of d (Wait device queue) s dids = Makes (events.Waited d queue (length (steps_of queue s.records.queues)))
verdict_of d (Step device queue) s dids = step_verdict d queue (head_of queue s.records.queues)

-- the first refusal of a directive on a device, in that device's view, or the verdict on it. An unknown region comes
-- first, then an unknown queue. Then come its items, or the transfers that it makes, in the order in which they act
unfoldable pub directive_verdict : Limits → ℕ → Directive → State → Result Verdict Fault
directive_verdict l d directive s = do
  tasks ← tasks_of directive s.register
  queue_named (queue_in directive)
  dids ← judge_all l 0 tasks s
  none_lent (transfers_in directive s.records.queues) s.records.loans
  Ok (verdict_of d directive s dids)

-- the device that a directive names; to leave a region names none
abbrev pub device_named : Directive → Option ℕ
device_named (Enter device items) = Some device
device_named (Exit number) = None
device_named (EnterData device items queue) = Some device
device_named (ExitData device items finalize queue) = Some device
device_named (Update device items if_present queue) = Some device
device_named (Wait device queue) = Some device
device_named (Step device queue) = Some device

-- a directive that names another device than this one is refused
abbrev pub own_device : ℕ → Option ℕ → Result ⊤ Fault
own_device d None = Ok tt
own_device d (Some named) = refuse_if (not (named == d)) (NoDevice named)

-- the result of planning a directive for the device of these limits: too many items are refused first, and then another
-- device
unfoldable pub plan_of : Limits → Directive → State → Result Verdict Fault
plan_of l directive s = do
  few_items directive
  own_device l.number (device_named directive)
  directive_verdict l l.number directive s

-- the event of a write of bytes from a host address on
abbrev pub written : Bool → ℕ → List ℕ → Event
written full addr bytes = events.HostWritten addr (length bytes) (recorded full bytes)

-- the bytes are written into host memory
unfoldable pub host_write_event : Limits → ℕ → List ℕ → Result Event Fault
host_write_event l addr bytes = in_host l 0 (record { start = addr; len = length bytes }) >> Ok (written l.full addr bytes)

-- ---- loans

-- a region of the number is open
abbrev pub region_open : ℕ → Register → Result ⊤ Fault
region_open number g = refuse_if (is_none (holdings_at number g.regions)) (NoRegion number)

-- the event of a loan of a section that lies there
abbrev pub lend_there : Found → ℕ → ℕ → Section → State → Result Event Fault
lend_there Empty d region section s = Err (NotPresent 0)
lend_there (Inside block offset) d region section s = not_lent (Some block) s.records.loans >> Ok (events.Lent d region section block s.register.serial)
lend_there Partly d region section s = Err (PartlyPresent 0)
lend_there Absent d region section s = Err (NotPresent 0)

-- the loan of a section of host memory, which is mapped on a device and not lent, in a region that is open there
unfoldable pub lend_event : Limits → ℕ → ℕ → Section → State → Result Event Fault
lend_event l d region section s = region_open region s.register >> (in_host l 0 section >> lend_there (where_is section s.records.ranges) d region section s)

-- what the lease of a loan of a device holds
abbrev pub leased : ℕ → Loan → State → Leased
leased d loan s = record { device = d; serial = loan.serial; block = loan.block; offset = loan.offset; len = loan.len; bytes = bytes_of loan.block s.memories }

-- the event of a lease that brings its block back
abbrev pub gathered : Bool → Leased → Event
gathered full lease = events.Gathered lease.device lease.serial lease.block (recorded full (section_bytes lease))

-- a lease brings its block back to the device of these limits
unfoldable pub gather_event : Limits → Leased → State → Result Event Fault
gather_event l lease s = refuse_if (not (is_returnable l.full l.number lease s.records.blocks s.records.loans s.memories)) (NoLease lease.serial) >> Ok (gathered l.full lease)
