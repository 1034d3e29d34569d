-- The number, the name and the text of each fault.
use Rattle.std.specs.Prelude.{ℕ, List, [], ◌++◌, codes}
use Rattle.std.specs.Fmt.{decimal}
use Rattle.acc_base.specs.Words.{Fault, ScriptFault}
use Rattle.acc_base.specs.declared.faults.Fault.TheVariants.{Memory, BadConfig, NoTickets, NoAllowance, TooManyItems, TraceFull, OutOfHost, Misaligned, NoQueue, PartlyPresent, NotPresent, CounterFull, Lent, DeviceFull, QueueFull, NoRegion, NoLease, BadCuts, Script, Read, Write, NoDevice}
use Rattle.acc_base.specs.declared.faults.ScriptFault.TheVariants.{TooLong, NotText, Syntax, Number, UnknownName, NameTaken, HostFull, NoOpenRegion, Unclosed}

abbrev pub number_of : Fault → ℕ
number_of Memory = 1
number_of BadConfig = 2
number_of (NoTickets left) = 3
number_of (NoAllowance left) = 4
number_of (TooManyItems n) = 5
number_of (TraceFull len) = 6
number_of (OutOfHost item) = 7
number_of (Misaligned item) = 8
number_of (NoQueue q) = 9
number_of (PartlyPresent item) = 10
number_of (NotPresent item) = 11
number_of (CounterFull item) = 12
number_of (Lent block) = 13
number_of (DeviceFull item need) = 14
number_of (QueueFull q) = 15
number_of (NoRegion number) = 16
number_of (NoLease serial) = 17
number_of BadCuts = 18
number_of (Script line kind) = 19
number_of Read = 20
number_of Write = 21
number_of (NoDevice device) = 22

abbrev pub name_of : Fault → List ℕ
name_of Memory = codes "Memory"
name_of BadConfig = codes "BadConfig"
name_of (NoTickets left) = codes "NoTickets"
name_of (NoAllowance left) = codes "NoAllowance"
name_of (TooManyItems n) = codes "TooManyItems"
name_of (TraceFull len) = codes "TraceFull"
name_of (OutOfHost item) = codes "OutOfHost"
name_of (Misaligned item) = codes "Misaligned"
name_of (NoQueue q) = codes "NoQueue"
name_of (PartlyPresent item) = codes "PartlyPresent"
name_of (NotPresent item) = codes "NotPresent"
name_of (CounterFull item) = codes "CounterFull"
name_of (Lent block) = codes "Lent"
name_of (DeviceFull item need) = codes "DeviceFull"
name_of (QueueFull q) = codes "QueueFull"
name_of (NoRegion number) = codes "NoRegion"
name_of (NoLease serial) = codes "NoLease"
name_of BadCuts = codes "BadCuts"
name_of (Script line kind) = codes "Script"
name_of Read = codes "Read"
name_of Write = codes "Write"
name_of (NoDevice device) = codes "NoDevice"

abbrev pub kind_name_of : ScriptFault → List ℕ
kind_name_of TooLong = codes "TooLong"
kind_name_of NotText = codes "NotText"
kind_name_of Syntax = codes "Syntax"
kind_name_of Number = codes "Number"
kind_name_of UnknownName = codes "UnknownName"
kind_name_of NameTaken = codes "NameTaken"
kind_name_of HostFull = codes "HostFull"
kind_name_of NoOpenRegion = codes "NoOpenRegion"
kind_name_of Unclosed = codes "Unclosed"

-- each field's name and value
abbrev pub fields_text : Fault → List ℕ
fields_text (NoTickets left) = codes " left " ++ decimal left
fields_text (NoAllowance left) = codes " left " ++ decimal left
fields_text (TooManyItems n) = codes " n " ++ decimal n
fields_text (TraceFull len) = codes " len " ++ decimal len
fields_text (OutOfHost item) = codes " item " ++ decimal item
fields_text (Misaligned item) = codes " item " ++ decimal item
fields_text (NoQueue q) = codes " q " ++ decimal q
fields_text (PartlyPresent item) = codes " item " ++ decimal item
fields_text (NotPresent item) = codes " item " ++ decimal item
fields_text (CounterFull item) = codes " item " ++ decimal item
fields_text (Lent block) = codes " block " ++ decimal block
fields_text (DeviceFull item need) = codes " item " ++ decimal item ++ codes " need " ++ decimal need
fields_text (QueueFull q) = codes " q " ++ decimal q
fields_text (NoRegion number) = codes " number " ++ decimal number
fields_text (NoDevice device) = codes " device " ++ decimal device
fields_text (NoLease serial) = codes " serial " ++ decimal serial
fields_text (Script line kind) = codes " line " ++ decimal line ++ codes " kind " ++ kind_name_of kind
fields_text _ = []

-- the number, the name, and each field's name and value
abbrev pub fault_text : Fault → List ℕ
fault_text fault = decimal (number_of fault) ++ codes " " ++ name_of fault ++ fields_text fault
