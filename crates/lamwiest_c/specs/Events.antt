-- The stored trace as C sees it.
use Rattle.std.specs.Prelude.{ℕ, ◌≡◌, ◌==◌, Bool, if◌then◌else◌, List, [], length, Option, option_map, option_and_then, unwrap_or, Ok, Err, MatchBool, MatchOption}
use Rattle.std.specs.List.{slice_get}
use Rattle.acc_base.specs.declared.events.Event.{Event}
use Rattle.acc_base.specs.declared.events.Event.TheVariants.{Entered, Left, EnteredData, ExitedData, Updated, Waited, Stepped, HostWritten, Lent, Gathered}
use Rattle.acc_base.specs.declared.items.ExitClause.{ExitClause}
use Rattle.acc_base.specs.declared.items.RegionClause.{RegionClause}
use Rattle.acc_base.specs.declared.items.UpdateClause.{UpdateClause}
use Rattle.acc_base.specs.declared.items.Item.{Item}
use Rattle.acc_base.specs.declared.items.ExitClause.TheVariants as exits
use Rattle.acc_base.specs.declared.items.RegionClause.TheVariants as regions
use Rattle.acc_base.specs.declared.items.UpdateClause.TheVariants as updates
use Rattle.acc_base.specs.declared.tasks.Task.{Task}
use Rattle.acc_base.specs.declared.tasks.Task.TheVariants.{Enter, ExitRegion, ExitData, Move}
use Rattle.acc_base.specs.Calls.{World}
use Rattle.acc_base.specs.Devices.{device_in}
use Rattle.acc_base.specs.Items.{tasks_named}
use Rattle.acc_base.specs.Walk.{did_in}
use Rattle.lamwiest_c.specs.declared.events.RawEvent.{RawEvent}
use Rattle.lamwiest_c.specs.declared.items.RawItem.{RawItem}
use Rattle.lamwiest_c.specs.declared.items.TheConstants.{COPY, COPYIN, COPYOUT, COPYOUT_ZERO, CREATE, CREATE_ZERO, NO_CREATE, PRESENT, ATTACH, DELETE, DETACH, SELF, DEVICE, NO_QUEUE_GIVEN}
use Rattle.lamwiest_c.specs.declared.statuses.Refusal.TheVariants.{Absent, BadLength}
use Rattle.lamwiest_c.specs.Environments.{DataEnvironment}
use Rattle.lamwiest_c.specs.Answers.{Told}

-- ---- an event

abbrev pub kind_of : Event → ℕ
kind_of (Entered device number items did) = 1
kind_of (Left device number did) = 2
kind_of (EnteredData device items queue did) = 3
kind_of (ExitedData device items finalize queue did) = 4
kind_of (Updated device items if_present queue did) = 5
kind_of (Waited device queue count) = 6
kind_of (Stepped device queue block) = 7
kind_of (HostWritten addr len bytes) = 8
kind_of (Lent device region section block serial) = 9
kind_of (Gathered device serial block bytes) = 10

abbrev pub queue_or_none : Option ℕ → ℕ
queue_or_none queue = unwrap_or queue NO_QUEUE_GIVEN

abbrev pub option_number : Bool → ℕ
option_number option = if option then 1 else 0

-- the bytes that are stored with it
abbrev pub bytes_in : Event → List ℕ
bytes_in (HostWritten addr len bytes) = bytes
bytes_in (Gathered device serial block bytes) = bytes
bytes_in _ = []

-- what is told of each event
abbrev pub told_of_each : Event → RawEvent
told_of_each e = record { kind = kind_of e; option = 0; device = device_in e; queue = NO_QUEUE_GIVEN; region = 0; lease = 0; block = 0; start = 0; len = 0; count = length (did_in e); stored = length (bytes_in e) }

-- of a directive that has items
abbrev pub asked_beside : Event → RawEvent → RawEvent
asked_beside (Entered device number items did) r = record r { region = number }
asked_beside (Left device number did) r = record r { region = number }
asked_beside (EnteredData device items queue did) r = record r { queue = queue_or_none queue }
asked_beside (ExitedData device items finalize queue did) r = record r { option = option_number finalize; queue = queue_or_none queue }
asked_beside (Updated device items if_present queue did) r = record r { option = option_number if_present; queue = queue_or_none queue }
asked_beside _ r = r

-- and of any event alone
abbrev pub told_beside : Event → RawEvent → RawEvent
told_beside (Waited device queue count) r = record r { queue = queue_or_none queue; count = count }
told_beside (Stepped device queue block) r = record r { queue = queue; block = block }
told_beside (HostWritten addr len bytes) r = record r { start = addr; len = len }
told_beside (Lent device region section block serial) r = record r { region = region; lease = serial; block = block; start = section.start; len = section.len }
told_beside (Gathered device serial block bytes) r = record r { lease = serial; block = block }
told_beside e r = asked_beside e r

abbrev pub raw_event : Event → RawEvent
raw_event e = told_beside e (told_of_each e)

-- the stored event of a place
abbrev pub event_at : ℕ → World → Option RawEvent
event_at place w = option_map raw_event (slice_get w.history.trace place)

-- ---- its items

abbrev pub region_number : RegionClause → ℕ
region_number regions.Copy = COPY
region_number regions.Copyin = COPYIN
region_number (regions.Copyout zero) = if zero then COPYOUT_ZERO else COPYOUT
region_number (regions.Create zero) = if zero then CREATE_ZERO else CREATE
region_number regions.NoCreate = NO_CREATE
region_number regions.Present = PRESENT
region_number regions.Attach = ATTACH

abbrev pub exit_number : ExitClause → ℕ
exit_number exits.Delete = DELETE
exit_number exits.Copyout = COPYOUT
exit_number exits.Detach = DETACH

abbrev pub update_number : UpdateClause → ℕ
update_number updates.ToSelf = SELF
update_number updates.ToDevice = DEVICE

-- an item under the number of its clause
abbrev pub item_under : {C : Type 0} → ℕ → Item C → RawItem
item_under clause item = record { clause = clause; start = item.section.start; len = item.section.len; pointer = unwrap_or item.pointer 0 }

-- the item that asked a task; the clauses of enter data have the numbers of those of a region
abbrev pub item_asked : Task → RawItem
item_asked (Enter counter item queue) = item_under (region_number item.clause) item
item_asked (ExitRegion holding) = item_under (region_number holding.item.clause) holding.item
item_asked (ExitData finalize item queue) = item_under (exit_number item.clause) item
item_asked (Move if_present item queue) = item_under (update_number item.clause) item

-- what the stored event of a place named as its item of another one
abbrev pub item_at : ℕ → ℕ → World → Option RawItem
item_at place item w = option_and_then (λ e. option_map item_asked (slice_get (tasks_named e) item)) (slice_get w.history.trace place)

-- ---- its bytes

-- a buffer as long as the bytes has them; another stays as it was, and C gets the length that is expected
abbrev pub IsWhole : List ℕ → List ℕ → List ℕ → Told → Type 0
IsWhole bytes old new T =
    MatchBool (length old == length bytes)
    (T (Ok (length bytes)) × (new ≡ bytes))
    (T (Err (BadLength (length bytes))) × (new ≡ old))

abbrev pub IsEventRead : DataEnvironment → ℕ → List ℕ → List ℕ → Told → Type 0
IsEventRead e place old new T =
    MatchOption (slice_get e.world.history.trace place)
    (T (Err Absent) × (new ≡ old))
    (λ event. IsWhole (bytes_in event) old new T)
