-- The counters of a device as counts over its events since a base, from its own values on; and which lists of events
-- are legal.
use Rattle.std.specs.Prelude.{ℕ, suc, ◌+◌, ◌-◌, ◌≡◌, ◌<◌, Bool, false, if◌then◌else◌, ◌==◌, List, [], ◌∷◌, length, Option, option_map, Some, Ok, count_by, sum_by, fold, IsSome, ⊤}
use Rattle.acc_base.specs.Words.{Step, Did, Event, Aim, Task, Loan}
use Rattle.acc_base.specs.declared.events.Step.TheVariants.{Counted, Born, Dropped}
use Rattle.acc_base.specs.declared.events.Event.TheVariants.{Entered, Left, EnteredData, ExitedData, Updated, Waited, Stepped, HostWritten, Lent, Gathered}
use Rattle.acc_base.specs.declared.attachments.Aim.TheVariants as aims
use Rattle.acc_base.specs.declared.tasks.Task.TheVariants.{Enter, ExitRegion, ExitData, Move}
use Rattle.acc_base.specs.Limits.{Limits, limits_on}
use Rattle.acc_base.specs.Records.{Records, Layout}
use Rattle.acc_base.specs.Ranges.{where_is, structured_of, dynamic_of}
use Rattle.acc_base.specs.Register.{holdings_at}
use Rattle.acc_base.specs.Clauses.{in_host}
use Rattle.acc_base.specs.Attachments.{count_at, count_after}
use Rattle.acc_base.specs.Steps.{pointer_aimed, judge_step, act_step, act}
use Rattle.acc_base.specs.Loans.{is_lent, loan_of, none_lent}
use Rattle.acc_base.specs.Detaching.{block_in, block_with, detach_if, judge_release}
use Rattle.acc_base.specs.Pointers.{device_address_of}
use Rattle.acc_base.specs.Queues.{head_of, queue_named}
use Rattle.acc_base.specs.Waits.{steps_of, transfers_of}
use Rattle.acc_base.specs.Walk.{asked_in, done_in}
use Rattle.acc_base.specs.Devices.{WholeLayout, device_in, layout_in, walk_on}

-- what a device had when the trace was last made empty, and its events since
pub record Past : Type 0 where
  pub records : Records
  pub trace : List Event

-- a step counted the block
abbrev pub counts : ℕ → Step → Bool
counts block (Counted b) = b == block
counts block (Born b place) = b == block
counts block _ = false

-- a step took from a counter of the block
abbrev pub drops : ℕ → Step → Bool
drops block (Dropped b ended) = b == block
drops block _ = false

-- how many of these items counted the block
abbrev pub count_counted : ℕ → List Did → ℕ
count_counted block did = count_by (λ d. counts block d.step) did

-- how many of these items took from a counter of the block
abbrev pub count_dropped : ℕ → List Did → ℕ
count_dropped block did = count_by (λ d. drops block d.step) did

-- ---- the structured counter (OpenACC 3.3, section 2.6.7): entries to regions less exits

-- how often an event's entry to a region counted the block
abbrev pub entries_of : ℕ → Event → ℕ
entries_of block (Entered device number items did) = count_counted block did
entries_of block _ = 0

-- how often an event's exit from a region dropped it
abbrev pub exits_of : ℕ → Event → ℕ
exits_of block (Left device number did) = count_dropped block did
exits_of block _ = 0

-- how often all entries counted the block, and its counter in the base
abbrev pub entries_in : ℕ → Past → ℕ
entries_in block h = structured_of block h.records.ranges + sum_by (entries_of block) h.trace

-- how often all exits since dropped it
abbrev pub exits_in : ℕ → Past → ℕ
exits_in block h = sum_by (exits_of block) h.trace

-- ---- the dynamic counter (OpenACC 3.3, section 2.6.7): `enter data` adds, `exit data` takes away, `finalize` gives
-- zero

-- after an item of `exit data`
abbrev pub dynamic_dropped : Bool → ℕ → ℕ → Did → ℕ
dynamic_dropped finalize block n did = if drops block did.step then (if finalize then 0 else n - 1) else n

-- after an event
abbrev pub dynamic_after : ℕ → ℕ → Event → ℕ
dynamic_after block n (EnteredData device items queue did) = n + count_counted block did
dynamic_after block n (ExitedData device items finalize queue did) = fold (dynamic_dropped finalize block) n did
dynamic_after block n _ = n

abbrev pub dynamic_in : ℕ → Past → ℕ
dynamic_in block h = fold (dynamic_after block) (dynamic_of block h.records.ranges) h.trace

-- ---- the attachment counter of a pointer in a block (OpenACC 3.3, section 2.6.8): what attaching and detaching makes
-- of it

-- after an event
abbrev pub attached_after : ℕ → ℕ → ℕ → Event → ℕ
attached_after block pointer n e = fold (λ m d. count_after block pointer d.aim m) n (done_in e)

abbrev pub attached_in : ℕ → ℕ → Past → ℕ
attached_in block pointer h = fold (attached_after block pointer) (count_at block pointer h.records.attached) h.trace

-- ---- legal events: of bytes, an event has only whether an attachment acts, and the target that it writes

-- some mapped host address has this device address
abbrev pub IsTarget : ℕ → Records → Type 0
IsTarget target w = (address : ℕ) × (device_address_of address w ≡ Some target)

-- the pointer can have been attached so. It is present in the block, which is not lent. The target is the device
-- address of a mapped address. It is attached again only where it is attached, below the limit
abbrev pub IsAttachLegal : Limits → Option ℕ → Aim → Records → Type 0
IsAttachLegal l named aims.None w = ⊤
IsAttachLegal l named (aims.New pointer block target) w = (named ≡ Some pointer) × (block_with pointer w.ranges ≡ Some block) × (is_lent block w.loans ≡ false) × IsTarget target w
IsAttachLegal l named (aims.Again pointer block) w = (named ≡ Some pointer) × (block_with pointer w.ranges ≡ Some block) × (is_lent block w.loans ≡ false) × (0 < count_at block pointer w.attached) × (count_at block pointer w.attached < l.counter_max)
IsAttachLegal l named _ w = ⊥

-- what became of the pointer of an item is legal in what was there before the item
abbrev pub IsAimLegal : Limits → Task → Did → Records → Type 0
IsAimLegal l (Enter counter item queue) did w = IsAttachLegal l (pointer_aimed (Enter counter item queue) did.step) did.aim (act_step (Enter counter item queue) did.step w)
IsAimLegal l (ExitRegion holding) did w = did.aim ≡ judge_release holding.aim w
IsAimLegal l (ExitData finalize item queue) did w = did.aim ≡ detach_if finalize (pointer_aimed (ExitData finalize item queue) did.step) w
IsAimLegal l (Move if_present item queue) did w = did.aim ≡ aims.None

-- each task did what it is judged to do in what the tasks before it left
abbrev pub AreJudged : Limits → ℕ → List Task → List Did → Records → Type 0
AreJudged l n [] [] w = ⊤
AreJudged l n (task ∷ tasks) (did ∷ dids) w = (judge_step l n task w ≡ Ok did.step) × IsAimLegal l task did w × AreJudged l (suc n) tasks dids (act task did w)
AreJudged l n _ _ w = ⊥

-- so many bytes are stored where traces are full, and none where they are counted
abbrev pub HasRecorded : Limits → ℕ → List ℕ → Type 0
HasRecorded l len bytes = length bytes ≡ (if l.full then len else 0)

-- what an event names is so. A new region has the next number, and a region that is left is open. There is the queue. A
-- wait makes as many transfers as wait there, and a step makes the first one; none of them is of a lent block. A write
-- lies in host memory, and its bytes are stored. A loan is of a section inside a range whose block is not lent, in an
-- open region and under the next serial number. A block comes back that is lent under its serial number, and the bytes
-- of its section are stored
abbrev pub NamesRight : Limits → Event → Layout → Type 0
NamesRight l (Entered device number items did) lay = number ≡ lay.register.next
NamesRight l (Left device number did) lay = IsSome (holdings_at number lay.register.regions)
NamesRight l (EnteredData device items queue did) lay = queue_named queue ≡ Ok tt
NamesRight l (ExitedData device items finalize queue did) lay = queue_named queue ≡ Ok tt
NamesRight l (Updated device items if_present queue did) lay = queue_named queue ≡ Ok tt
NamesRight l (Waited device queue count) lay = (queue_named queue ≡ Ok tt) × (count ≡ length (steps_of queue lay.records.queues)) × (none_lent (transfers_of queue lay.records.queues) lay.records.loans ≡ Ok tt)
NamesRight l (Stepped device queue block) lay = (option_map (λ t. t.block) (head_of queue lay.records.queues) ≡ Some block) × (is_lent block lay.records.loans ≡ false)
NamesRight l (HostWritten addr len bytes) lay = (in_host l 0 (record { start = addr; len = len }) ≡ Ok tt) × HasRecorded l len bytes
NamesRight l (Lent device region section block serial) lay = IsSome (holdings_at region lay.register.regions) × (block_in (where_is section lay.records.ranges) ≡ Some block) × (is_lent block lay.records.loans ≡ false) × (serial ≡ lay.register.serial)
NamesRight l (Gathered device serial block bytes) lay = (loan : Loan) × (loan_of block lay.records.loans ≡ Some loan) × (loan.serial ≡ serial) × HasRecorded l loan.len bytes

pub record IsLegal (l : Limits) (e : Event) (lay : Layout) : Type 0 where
  pub names : NamesRight l e lay
  pub judged : AreJudged l 0 (asked_in e lay.register) (done_in e) lay.records

-- its device is there, and it is legal in that device's layout
pub record IsLegalOn (l : Limits) (e : Event) (w : WholeLayout) : Type 0 where
  pub there : device_in e < length w.devices
  pub legal : IsLegal (limits_on (device_in e) l) e (layout_in (device_in e) w)

-- each event in what the events before it left
abbrev pub AreLegal : Limits → List Event → WholeLayout → Type 0
AreLegal l [] w = ⊤
AreLegal l (e ∷ events) w = IsLegalOn l e w × AreLegal l events (walk_on e w)
