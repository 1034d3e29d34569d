-- What a script prints.
use Rattle.std.specs.Prelude.{ℕ, suc, Bool, false, List, [], ◌∷◌, ◌++◌, length, filter, ◌==◌, ◌&&◌, nat_le, if◌then◌else◌, codes}
use Rattle.std.specs.Fmt.{decimal, digits}
use Rattle.std.specs.List.{flat_map}
use Rattle.acc_base.specs.declared.faults.Fault.{Fault}
use Rattle.acc_base.specs.Faults.{number_of, name_of, fault_text}
use Rattle.acc_base.specs.declared.mappings.Block.{Block}
use Rattle.acc_base.specs.declared.mappings.Ended.{Ended}
use Rattle.acc_base.specs.declared.transfers.Transfer.{Transfer}
use Rattle.acc_base.specs.declared.mappings.Found.{Found}
use Rattle.acc_base.specs.declared.mappings.Found.TheVariants.{Inside}
use Rattle.acc_base.specs.declared.attachments.Attachment.{Attachment}
use Rattle.acc_base.specs.declared.items.Section.{Section}
use Rattle.acc_base.specs.Section.{covers}
use Rattle.acc_base.specs.Ranges.{where_is}
use Rattle.acc_base.specs.Blocks.{used_bytes}
use Rattle.acc_base.specs.Records.{Records}
use Rattle.acc_base.specs.Waits.{ended_blocks, told_ended}
use Rattle.acc_base.specs.Limits.{Limits}
use Rattle.acc_base.specs.Devices.{OneDevice, view, open_regions}
use Rattle.acc_base.specs.Calls.{World, event_count}
use Rattle.acc_table.specs.declared.calls.Mapped.{Mapped}
use Rattle.acc_table.specs.Queries.{mapped_as}

-- an address as `0x` and hexadecimal digits
abbrev pub address : ℕ → List ℕ
address n = codes "0x" ++ digits 16 false n

-- ---- refusals

-- a field of a fault: its name and its value
abbrev pub field_text : List ℕ → ℕ → List ℕ
field_text name value = name ++ decimal value

-- the line of a refusal up to the fields of the fault
abbrev pub refusal_start : ℕ → Fault → List ℕ
refusal_start line fault =
    codes "line "
    ++ (decimal line ++ (codes ": refused " ++ (decimal (number_of fault) ++ (codes " " ++ name_of fault))))

-- a line that was refused
unfoldable pub refusal_text : ℕ → Fault → List ℕ
refusal_text line fault = codes "line " ++ (decimal line ++ (codes ": refused " ++ (fault_text fault ++ codes "\n")))

-- ---- the report

-- the sizes of host memory and of the memory of each device, and one number more with its name
abbrev pub sizes_text : Limits → List ℕ → ℕ → List ℕ
sizes_text limits name number =
    codes "host "
    ++ (decimal limits.host ++ (codes " device " ++ (decimal limits.device ++ (name ++ (decimal number ++ codes "\n")))))

-- a device by its number, and what blocks take of it
abbrev pub used_text : ℕ → ℕ → List ℕ
used_text device used = codes "device " ++ (decimal device ++ (codes " used " ++ (decimal used ++ codes "\n")))

-- the end of the line of a mapped range, which shows whether its block is lent
abbrev pub lent_text : Bool → List ℕ
lent_text lent = if lent then codes " lent\n" else codes "\n"

-- the two reference counters of a mapped range, and whether its block is lent, up to the end of its line
abbrev pub counters_text : ℕ → ℕ → Bool → List ℕ
counters_text structured dynamic lent =
    codes " structured " ++ (decimal structured ++ (codes " dynamic " ++ (decimal dynamic ++ lent_text lent)))

-- a mapped range: where it is mapped to, and its counters
unfoldable pub mapped_text : Mapped → List ℕ
mapped_text m =
    codes "map "
    ++ (address m.start ++ (codes " " ++ (decimal m.len ++ (codes " at " ++ (address m.place ++ counters_text m.structured m.dynamic m.lent)))))

-- how many regions are open, and how many events there were
abbrev pub totals_text : ℕ → ℕ → List ℕ
totals_text regions events =
    codes "regions " ++ (decimal regions ++ (codes " events " ++ (decimal events ++ codes "\n")))

-- a pointer and its attachment counter
abbrev pub pointer_text : Attachment → List ℕ
pointer_text a = codes "pointer " ++ (address a.pointer ++ (codes " count " ++ (decimal a.count ++ codes "\n")))

-- the attached pointers that begin in a section inside one range, by rising address
abbrev pub attached_within : Found → Section → List Attachment → List Attachment
attached_within (Inside block offset) s attached = filter (λ a. a.block == block && covers s a.pointer) attached
attached_within _ s attached = []

-- a line for each
abbrev pub pointers_text : Section → Records → List ℕ
pointers_text s w = flat_map pointer_text (attached_within (where_is s w.ranges) s w.attached)

-- a mapped range, and the attached pointers in it
abbrev pub range_text : Records → Mapped → List ℕ
range_text w m = mapped_text m ++ pointers_text (record { start = m.start; len = m.len }) w

-- each mapped range by rising start
abbrev pub ranges_text : Records → List ℕ
ranges_text w = flat_map (λ r. range_text w (mapped_as w.blocks w.loans r)) w.ranges

-- ---- blocks whose mapping has ended

-- where such a block lies, what it takes, and how many queued transfers name it
abbrev pub ended_text : Ended → List ℕ
ended_text e =
    codes "ended "
    ++ (address e.place ++ (codes " " ++ (decimal e.size ++ (codes " pins " ++ (decimal e.pins ++ codes "\n")))))

-- a block among others that stand by rising place
abbrev pub placed_among : Block → List Block → List Block
placed_among b [] = b ∷ []
placed_among b (c ∷ cs) = if nat_le b.place c.place then b ∷ c ∷ cs else c ∷ placed_among b cs

-- blocks by rising place
abbrev pub by_place : List Block → List Block
by_place [] = []
by_place (b ∷ bs) = placed_among b (by_place bs)

-- the blocks whose mapping has ended that lie at or above a device address, by rising place
abbrev pub ended_texts : ℕ → Records → List ℕ
ended_texts from w = flat_map (λ b. ended_text (told_ended w.queues b)) (by_place (ended_blocks from w))

-- ---- queues

-- how many transfers wait in a queue
abbrev pub queue_text : ℕ → ℕ → List ℕ
queue_text q len = codes "queue " ++ (decimal q ++ (codes " length " ++ (decimal len ++ codes "\n")))

-- a queue of this length, where it is not empty
abbrev pub waiting_text : ℕ → ℕ → List ℕ
waiting_text q len = if len == 0 then [] else queue_text q len

-- the queues from a number on, each where it is not empty
abbrev pub queues_text : ℕ → List (List Transfer) → List ℕ
queues_text q [] = []
queues_text q (transfers ∷ queues) = waiting_text q (length transfers) ++ queues_text (suc q) queues

-- ---- all of it

-- what a device has: mapped ranges, blocks whose mapping has ended, and queues
abbrev pub device_text : Records → List ℕ
device_text w = ranges_text w ++ ended_texts 0 w ++ queues_text 0 w.queues

-- the one device there is, behind the sizes and what blocks take of it
abbrev pub only_text : World → List ℕ
only_text w =
    sizes_text w.limits (codes " used ") (used_bytes (view 0 w.state).records.blocks)
    ++ device_text (view 0 w.state).records

-- one of several devices: its number, what blocks take of it, and what it has
abbrev pub one_text : ℕ → OneDevice → List ℕ
one_text device x = used_text device (used_bytes x.records.blocks) ++ device_text x.records

-- the devices from a number on
abbrev pub each_text : ℕ → List OneDevice → List ℕ
each_text device [] = []
each_text device (x ∷ xs) = one_text device x ++ each_text (suc device) xs

-- several devices, behind the sizes and their number
abbrev pub several_text : World → List ℕ
several_text w = sizes_text w.limits (codes " devices ") w.limits.devices ++ each_text 0 w.state.devices

-- all devices: the number of one that is alone is not written
abbrev pub memories_text : World → List ℕ
memories_text w = if w.limits.devices == 1 then only_text w else several_text w

-- the report of a table
unfoldable pub report_text : World → List ℕ
report_text w = memories_text w ++ totals_text (open_regions w.state) (event_count w.history)
