-- Pointers (OpenACC 3.3, sections 2.6.8 and 2.7.2): what one holds, what it is to be aimed at, and what attaching it
-- does. And what attaching and detaching leave of the bytes.
use Rattle.std.specs.Prelude.{ℕ, ◌+◌, ◌-◌, if◌then◌else◌, ◌==◌, List, map, take, drop, Option, Some, None, unwrap_or, option_map, slice_index, Result, Ok}
use Rattle.std.specs.Int.{to_le_bytes, from_le_bytes, w64}
use Rattle.acc_base.specs.Words.{Block, Found, Aim, Fault}
use Rattle.acc_base.specs.declared.mappings.Found.TheVariants.{Inside}
use Rattle.acc_base.specs.declared.attachments.Aim.TheVariants as aims
use Rattle.acc_base.specs.Limits.{Limits}
use Rattle.acc_base.specs.Section.{covers, host_base, only}
use Rattle.acc_base.specs.Ranges.{where_is, start_of}
use Rattle.acc_base.specs.Blocks.{place_of}
use Rattle.acc_base.specs.Attachments.{pointer_at, count_at, attach}
use Rattle.acc_base.specs.Results.{◌>>◌}
use Rattle.acc_base.specs.Loans.{not_lent}
use Rattle.acc_base.specs.Records.{Records, Memory, State}
use Rattle.acc_base.specs.Detaching.{block_with}
use Rattle.acc_base.specs.Steps.{records_aimed}
use Rattle.acc_base.specs.Bytes.{bytes_of, host_byte, written_bytes, memory_changed}

-- ---- what a pointer holds, and where its target lies

-- the number that the eight bytes of a pointer are, in bytes of which the first has this address
abbrev pub pointer_in : ℕ → ℕ → List ℕ → ℕ
pointer_in first pointer bytes = from_le_bytes w64 (take 8 (drop (pointer - first) bytes))

-- the address that the host's pointer holds
abbrev pub host_pointer : ℕ → State → ℕ
host_pointer pointer s = pointer_in host_base pointer s.host

-- the address that the pointer in a block holds
abbrev pub device_pointer : ℕ → ℕ → State → ℕ
device_pointer block pointer s = pointer_in (start_of block s.records.ranges) pointer (bytes_of block s.memories)

-- the device address of the section that lies there
abbrev pub address_in : Found → List Block → Option ℕ
address_in (Inside block offset) blocks = Some (place_of block blocks + offset)
address_in _ blocks = None

-- the device address that a host address is mapped to
abbrev pub device_address_of : ℕ → Records → Option ℕ
device_address_of address w = address_in (where_is (only address) w.ranges) w.blocks

-- what a pointer is to be aimed at: the device address of the address that the host's pointer holds. No range has the
-- address of a null pointer
abbrev pub target_of : ℕ → State → Option ℕ
target_of pointer s = device_address_of (host_pointer pointer s) s.records

-- the attachment counter of a pointer in the block that holds it, 0 where it is not present
abbrev pub attachment_of : ℕ → Records → ℕ
attachment_of pointer w = unwrap_or (option_map (λ block. count_at block pointer w.attached) (block_with pointer w.ranges)) 0

-- ---- attaching

-- a pointer that lies in a block, which is not lent, is aimed at a target; where pointer or target is missing, nothing
-- is done
abbrev pub attach_there : Limits → ℕ → ℕ → Option ℕ → Option ℕ → State → Result Aim Fault
attach_there l n pointer (Some block) (Some target) s = not_lent (Some block) s.records.loans >> attach l.counter_max n block pointer target (device_pointer block pointer s) s.records.attached
attach_there l n pointer _ _ s = Ok aims.None

-- attaching the pointer of the item at place n
unfoldable pub judge_attach : Limits → ℕ → ℕ → State → Result Aim Fault
judge_attach l n pointer s = attach_there l n pointer (block_with pointer s.records.ranges) (target_of pointer s) s

-- ---- what it leaves of the bytes

-- the memories with eight bytes from a source written over a pointer in a block
abbrev pub pointer_written : ℕ → ℕ → (ℕ → ℕ) → State → List Memory
pointer_written block pointer source s = map (memory_changed block (written_bytes (covers (pointer_at pointer)) source (start_of block s.records.ranges))) s.memories

-- an attachment writes the target's device address, and a detachment to zero the host's bytes
abbrev pub memories_aimed : Aim → State → List Memory
memories_aimed (aims.New pointer block target) s = pointer_written block pointer (λ a. slice_index (to_le_bytes w64 target) (a - pointer)) s
memories_aimed (aims.Less pointer block) s = if count_at block pointer s.records.attached == 1 then pointer_written block pointer (host_byte s.host) s else s.memories
memories_aimed (aims.Cleared pointer block) s = pointer_written block pointer (host_byte s.host) s
memories_aimed _ s = s.memories

-- the state after an attachment or a detachment
unfoldable pub aimed : Aim → State → State
aimed aim s = record { records = records_aimed aim s.records; register = s.register; host = s.host; memories = memories_aimed aim s }
