-- Making queued transfers (OpenACC 3.3, section 2.16): the first of a queue, or all of one queue or of all of them.
use Rattle.std.specs.Prelude.{ℕ, suc, ◌&&◌, nat_le, List, [], ◌∷◌, ◌++◌, length, filter, replicate, Option, Some, None, is_none, option_map}
use Rattle.std.specs.List.{flat_map}
use Rattle.acc_base.specs.Words.{Block, Ended, Transfer}
use Rattle.acc_base.specs.Records.{Records, State}
use Rattle.acc_base.specs.Ranges.{range_of}
use Rattle.acc_base.specs.Blocks.{size_of, lowest}
use Rattle.acc_base.specs.Queues.{queue_at, head_of, popped, pins_of}
use Rattle.acc_base.specs.Steps.{released}
use Rattle.acc_base.specs.Bytes.{host_made, memories_made, memories_released}

-- ---- the first transfer of a queue

-- it leaves the queue, and a block whose mapping has ended is given back after its last one
abbrev pub records_made : ℕ → Option Transfer → Records → Records
records_made q None w = w
records_made q (Some t) w = released t.block (record w { queues = popped q w.queues })

unfoldable pub records_stepped : ℕ → Records → Records
records_stepped q w = records_made q (head_of q w.queues) w

-- it is made with the bytes and the attached pointers of this moment
abbrev pub state_made : ℕ → Option Transfer → State → State
state_made q None s = s
state_made q (Some t) s = record {
  records = records_made q (Some t) s.records;
  register = s.register;
  host = host_made (Some t) s.records.attached s.memories s.host;
  memories = memories_released t.block (records_made q (Some t) s.records) (memories_made (Some t) s.records.attached s.host s.memories);
}

unfoldable pub stepped : ℕ → State → State
stepped q s = state_made q (head_of q s.records.queues) s

-- ---- one after the other, each from the queue that stands next

unfoldable pub records_drained : List ℕ → Records → Records
records_drained [] w = w
records_drained (q ∷ qs) w = records_drained qs (records_stepped q w)

unfoldable pub drained : List ℕ → State → State
drained [] s = s
drained (q ∷ qs) s = drained qs (stepped q s)

-- the queues from a number on, each as often as it has transfers
abbrev pub steps_from : ℕ → List (List Transfer) → List ℕ
steps_from q [] = []
steps_from q (transfers ∷ queues) = replicate (length transfers) q ++ steps_from (suc q) queues

-- the steps of a wait: one queue until it is empty, or all queues, from the first to the last
abbrev pub steps_of : Option ℕ → List (List Transfer) → List ℕ
steps_of (Some q) queues = replicate (length (queue_at q queues)) q
steps_of None queues = steps_from 0 queues

-- the transfers of a wait, in the order in which it makes them
abbrev pub transfers_of : Option ℕ → List (List Transfer) → List Transfer
transfers_of (Some q) queues = queue_at q queues
transfers_of None queues = flat_map (λ transfers. transfers) queues

-- ---- blocks whose mapping has ended

-- those that lie at or above a device address: no range has them
abbrev pub ended_blocks : ℕ → Records → List Block
ended_blocks from w = filter (λ b. is_none (range_of b.number w.ranges) && nat_le from b.place) w.blocks

-- what a query says of one
abbrev pub told_ended : List (List Transfer) → Block → Ended
told_ended queues b = record { place = b.place; size = size_of b; pins = pins_of b.number queues }

-- the one of least place at or above a device address
abbrev pub ended_from : ℕ → Records → Option Ended
ended_from from w = option_map (told_ended w.queues) (lowest (ended_blocks from w))
