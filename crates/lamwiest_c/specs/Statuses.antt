-- The status of what came of a call, and the fields of a refusal.
use Rattle.std.specs.Prelude.{ℕ, ◌≡◌, ◌==◌, if◌then◌else◌, Option, Some, None, Result, Ok, Err}
use Rattle.acc_base.specs.declared.faults.Fault.{Fault}
use Rattle.acc_base.specs.declared.faults.Fault.TheVariants.{Memory, BadConfig, NoTickets, NoAllowance, TooManyItems, TraceFull, OutOfHost, Misaligned, NoQueue, PartlyPresent, NotPresent, CounterFull, Lent, DeviceFull, QueueFull, NoRegion, NoLease, NoDevice, Script}
use Rattle.acc_base.specs.declared.faults.ScriptFault.{ScriptFault}
use Rattle.acc_base.specs.declared.faults.ScriptFault.TheVariants.{TooLong, NotText, Syntax, Number, UnknownName, NameTaken, HostFull, NoOpenRegion, Unclosed}
use Rattle.acc_base.specs.Faults.{number_of}
use Rattle.lamwiest_c.specs.declared.statuses.TheConstants.{ENDED, BAD_CLAUSE, BAD_LENGTH, ABSENT, BAD_VERSION}
use Rattle.lamwiest_c.specs.declared.statuses.Refusal.{Refusal}
use Rattle.lamwiest_c.specs.declared.statuses.Refusal.TheVariants.{Ended, BadClause, BadLength, Absent, BadVersion, OfTable}
use Rattle.lamwiest_c.specs.declared.statuses.FaultFields.{FaultFields}

-- the number of what is wrong with a line of a script, and what has a number
abbrev pub kind_number : ScriptFault → ℕ
kind_number TooLong = 1
kind_number NotText = 2
kind_number Syntax = 3
kind_number Number = 4
kind_number UnknownName = 5
kind_number NameTaken = 6
kind_number HostFull = 7
kind_number NoOpenRegion = 8
kind_number Unclosed = 9

abbrev pub kind_of : ℕ → Option ScriptFault
kind_of number =
    if number == 1 then Some TooLong else
    if number == 2 then Some NotText else
    if number == 3 then Some Syntax else
    if number == 4 then Some Number else
    if number == 5 then Some UnknownName else
    if number == 6 then Some NameTaken else
    if number == 7 then Some HostFull else
    if number == 8 then Some NoOpenRegion else
    if number == 9 then Some Unclosed else None

-- the item that a fault names, or what is wrong with a line, or 0
abbrev pub item_of : Fault → ℕ
item_of (OutOfHost item) = item
item_of (Misaligned item) = item
item_of (PartlyPresent item) = item
item_of (NotPresent item) = item
item_of (CounterFull item) = item
item_of (DeviceFull item need) = item
item_of (Script line kind) = kind_number kind
item_of _ = 0

-- its other number, or 0
abbrev pub value_of : Fault → ℕ
value_of (NoTickets left) = left
value_of (NoAllowance left) = left
value_of (TooManyItems n) = n
value_of (TraceFull len) = len
value_of (NoQueue q) = q
value_of (QueueFull q) = q
value_of (Lent block) = block
value_of (DeviceFull item need) = need
value_of (NoRegion number) = number
value_of (NoLease serial) = serial
value_of (NoDevice device) = device
value_of (Script line kind) = line
value_of _ = 0

abbrev pub status_of : Refusal → ℕ
status_of Ended = ENDED
status_of (BadClause item) = BAD_CLAUSE
status_of (BadLength len) = BAD_LENGTH
status_of Absent = ABSENT
status_of (BadVersion library) = BAD_VERSION
status_of (OfTable fault) = number_of fault

-- the fields of a refusal
abbrev pub fields_of : Refusal → FaultFields
fields_of Ended = record { status = ENDED; item = 0; value = 0 }
fields_of (BadClause item) = record { status = BAD_CLAUSE; item = item; value = 0 }
fields_of (BadLength len) = record { status = BAD_LENGTH; item = 0; value = len }
fields_of Absent = record { status = ABSENT; item = 0; value = 0 }
fields_of (BadVersion library) = record { status = BAD_VERSION; item = 0; value = library }
fields_of (OfTable fault) = record { status = number_of fault; item = item_of fault; value = value_of fault }

-- what came of a call, as its status
abbrev pub status_in : Result ℕ Refusal → ℕ
status_in (Ok n) = 0
status_in (Err refusal) = status_of refusal

-- and as the fields of its refusal, all 0 where it was done
abbrev pub fields_in : Result ℕ Refusal → FaultFields
fields_in (Ok n) = record { status = 0; item = 0; value = 0 }
fields_in (Err refusal) = fields_of refusal

-- the number that was returned, or what stood in its place
abbrev pub number_after : Result ℕ Refusal → ℕ → ℕ
number_after (Ok n) old = n
number_after (Err refusal) old = old

-- the fault of a line, if there is such a thing to be wrong with it
abbrev pub fault_at : ℕ → Option ScriptFault → Option Refusal
fault_at line None = None
fault_at line (Some kind) = Some (OfTable (Script line kind))

-- the refusal of a status with these fields, if there is one
abbrev pub refusal_with : ℕ → ℕ → ℕ → Option Refusal
refusal_with status item value =
    if status == 1 then Some (OfTable Memory) else
    if status == 2 then Some (OfTable BadConfig) else
    if status == 3 then Some (OfTable (NoTickets value)) else
    if status == 4 then Some (OfTable (NoAllowance value)) else
    if status == 5 then Some (OfTable (TooManyItems value)) else
    if status == 6 then Some (OfTable (TraceFull value)) else
    if status == 7 then Some (OfTable (OutOfHost item)) else
    if status == 8 then Some (OfTable (Misaligned item)) else
    if status == 9 then Some (OfTable (NoQueue value)) else
    if status == 10 then Some (OfTable (PartlyPresent item)) else
    if status == 11 then Some (OfTable (NotPresent item)) else
    if status == 12 then Some (OfTable (CounterFull item)) else
    if status == 13 then Some (OfTable (Lent value)) else
    if status == 14 then Some (OfTable (DeviceFull item value)) else
    if status == 15 then Some (OfTable (QueueFull value)) else
    if status == 16 then Some (OfTable (NoRegion value)) else
    if status == 17 then Some (OfTable (NoLease value)) else
    if status == 19 then fault_at value (kind_of item) else
    if status == 22 then Some (OfTable (NoDevice value)) else
    if status == ENDED then Some Ended else
    if status == BAD_CLAUSE then Some (BadClause item) else
    if status == BAD_LENGTH then Some (BadLength value) else
    if status == ABSENT then Some Absent else
    if status == BAD_VERSION then Some (BadVersion value) else None

abbrev pub refusal_in : FaultFields → Option Refusal
refusal_in fields = refusal_with fields.status fields.item fields.value

-- the call returned this status and these fields
abbrev pub IsAnswered : ℕ → FaultFields → Result ℕ Refusal → Type 0
IsAnswered status fields made = (status ≡ status_in made) × (fields ≡ fields_in made)

-- and this number, where another stood in its place before
abbrev pub IsNumberAnswered : ℕ → FaultFields → ℕ → ℕ → Result ℕ Refusal → Type 0
IsNumberAnswered status fields old new made = (status ≡ status_in made) × (fields ≡ fields_in made) × (new ≡ number_after made old)
