-- What the step of an item leaves of the bytes: the host's, and those of the blocks.
use Rattle.std.specs.Prelude.{ℕ, suc, ◌-◌, Bool, true, false, not, ◌&&◌, if◌then◌else◌, ◌==◌, List, [], ◌∷◌, ◌++◌, map, replicate, filter, find, Option, Some, None, unwrap_or, option_map, slice_index}
use Rattle.std.specs.List.{list_any}
use Rattle.acc_base.specs.Words.{Section, Block, Attachment, Task, Transfer, Step}
use Rattle.acc_base.specs.declared.tasks.Task.TheVariants.{Enter}
use Rattle.acc_base.specs.declared.events.Step.TheVariants.{Born, Dropped}
use Rattle.acc_base.specs.Section.{covers, host_base}
use Rattle.acc_base.specs.Attachments.{is_skipped}
use Rattle.acc_base.specs.Records.{Records, Memory, State}
use Rattle.acc_base.specs.Clauses.{is_zeroed}
use Rattle.acc_base.specs.Tasks.{section_of}
use Rattle.acc_base.specs.Transfers.{first_address, made_now}
use Rattle.acc_base.specs.Steps.{is_in_use, act_step}

-- the bytes from an address on, where those at some addresses come from a source
abbrev pub written_bytes : (ℕ → Bool) → (ℕ → ℕ) → ℕ → List ℕ → List ℕ
written_bytes taken source address [] = []
written_bytes taken source address (byte ∷ bytes) = (if taken address then source address else byte) ∷ written_bytes taken source (suc address) bytes

-- the host's byte at an address
abbrev pub host_byte : List ℕ → ℕ → ℕ
host_byte host address = slice_index host (address - host_base)

abbrev pub bytes_of : ℕ → List Memory → List ℕ
bytes_of block memories = unwrap_or (option_map (λ m. m.bytes) (find (λ m. m.block == block) memories)) []

-- the memory, with a change of its bytes where it is the block's
abbrev pub memory_changed : ℕ → (List ℕ → List ℕ) → Memory → Memory
memory_changed block change m = if m.block == block then record m { bytes = change m.bytes } else m

-- the memories of these blocks
abbrev pub memories_kept : List Block → List Memory → List Memory
memories_kept blocks memories = filter (λ m. list_any (λ b. b.number == m.block) blocks) memories

-- the memories without that of a block
abbrev pub without_memory : ℕ → List Memory → List Memory
without_memory block memories = filter (λ m. not (m.block == block)) memories

-- ---- transfers: they copy the section but for the bytes of attached pointers, and every other byte stays. That
-- attached pointers stay is this project's rule: the end of section 2.6.8 of OpenACC 3.3 leaves an update of them
-- undefined

-- the address is one of those that are copied
abbrev pub is_moved : Section → ℕ → List Attachment → ℕ → Bool
is_moved section block attached address = covers section address && not (is_skipped block attached address)

-- the bytes of a block that is mapped from an address on, where those at some addresses come from the host
abbrev pub bytes_moved_in : (ℕ → Bool) → List ℕ → ℕ → List ℕ → List ℕ
bytes_moved_in moved host start bytes = written_bytes moved (host_byte host) start bytes

-- the bytes of the host, where those at some addresses come from a block that is mapped from an address on
abbrev pub bytes_moved_out : (ℕ → Bool) → List ℕ → ℕ → List ℕ → List ℕ
bytes_moved_out moved bytes start host = written_bytes moved (λ a. slice_index bytes (a - start)) host_base host

-- the host's bytes after a transfer, if there is one
abbrev pub host_made : Option Transfer → List Attachment → List Memory → List ℕ → List ℕ
host_made None attached memories host = host
host_made (Some t) attached memories host =
    if t.out
    then bytes_moved_out (is_moved t.section t.block attached) (bytes_of t.block memories) (first_address t) host
    else host

-- the blocks' bytes after a transfer, if there is one
abbrev pub memories_made : Option Transfer → List Attachment → List ℕ → List Memory → List Memory
memories_made None attached host memories = memories
memories_made (Some t) attached host memories =
    if t.out
    then memories
    else map (memory_changed t.block (bytes_moved_in (is_moved t.section t.block attached) host (first_address t))) memories

-- ---- one item: a new block is filled, then the copy is made, then the memory of a block that is given back is gone

-- the byte that fills a new block, which the modifier `zero` changes
abbrev pub fill_byte : Bool → ℕ
fill_byte zeroed = if zeroed then 0 else 0xa5

-- what fills a block that is born by this task
abbrev pub fill_of : Task → ℕ
fill_of (Enter counter item queue) = fill_byte (is_zeroed item.clause)
fill_of _ = fill_byte false

abbrev pub memories_begun : Task → Step → List Memory → List Memory
memories_begun task (Born block place) memories = memories ++ record { block = block; bytes = replicate (section_of task).len (fill_of task) } ∷ []
memories_begun task _ memories = memories

-- the memory of a block is gone once the block is given back
abbrev pub memories_released : ℕ → Records → List Memory → List Memory
memories_released block w memories = if is_in_use block w then memories else without_memory block memories

-- the memories after a step that left these records
abbrev pub memories_ended : Step → Records → List Memory → List Memory
memories_ended (Dropped block true) w memories = memories_released block w memories
memories_ended _ w memories = memories

-- the host's bytes after a task
abbrev pub host_acted : Task → Step → State → List ℕ
host_acted task step s = host_made (made_now task step s.records.ranges) s.records.attached s.memories s.host

-- the blocks' bytes after a task
abbrev pub memories_acted : Task → Step → State → List Memory
memories_acted task step s = memories_ended step (act_step task step s.records) (memories_made (made_now task step s.records.ranges) s.records.attached s.host (memories_begun task step s.memories))

unfoldable pub step_state : Task → Step → State → State
step_state task step s = record {
  records = act_step task step s.records;
  register = s.register;
  host = host_acted task step s;
  memories = memories_acted task step s;
}

-- ---- a write of the host

-- the host after it wrote bytes from an address on
abbrev pub host_after_write : ℕ → ℕ → List ℕ → List ℕ → List ℕ
host_after_write addr len bytes host = written_bytes (covers (record { start = addr; len = len })) (λ a. slice_index bytes (a - addr)) host_base host
