-- What a data environment holds at one moment: its records, its register, and the bytes of its memories.
use Rattle.std.specs.Prelude.{ℕ, List, [], replicate}
use Rattle.acc_base.specs.Words.{Range, Block, Attachment, Transfer, Loan}
use Rattle.acc_base.specs.Queues.{new_queues}
use Rattle.acc_base.specs.Register.{Register, new_register}

-- everything of a device but bytes: the mapped ranges by rising start, the blocks by rising number, and how many blocks
-- were ever born. And the attachment counters above zero by rising block and pointer, the queued transfers, and the
-- loans by rising block
pub record Records : Type 0 where
  pub ranges : List Range
  pub blocks : List Block
  pub attached : List Attachment
  pub births : ℕ
  pub queues : List (List Transfer)
  pub loans : List Loan

-- the bytes of a block, each at its offset; none while it is lent
pub record Memory : Type 0 where
  pub block : ℕ
  pub bytes : List ℕ

-- everything but bytes: what the device has, and what there is once whatever the device
pub record Layout : Type 0 where
  pub records : Records
  pub register : Register

-- the records, the register, the bytes of host memory, and those of each block
pub record State : Type 0 where
  pub records : Records
  pub register : Register
  pub host : List ℕ
  pub memories : List Memory

-- a state without its bytes
abbrev pub layout_of : State → Layout
layout_of s = record { records = s.records; register = s.register }

-- nothing is mapped, no block was born, the queues are empty, and nothing is lent
abbrev pub new_records : Records
new_records = record { ranges = []; blocks = []; attached = []; births = 0; queues = new_queues; loans = [] }

-- nothing is mapped, and no region is open
abbrev pub new_layout : Layout
new_layout = record { records = new_records; register = new_register }

-- nothing is mapped, no region is open, and so many bytes of host memory are zero
abbrev pub new_state : ℕ → State
new_state host = record { records = new_records; register = new_register; host = replicate host 0; memories = [] }
