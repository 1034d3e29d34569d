-- The queues of transfers that are yet to be made (OpenACC 3.3, section 2.16, asynchronous behavior).
use Rattle.std.specs.Prelude.{ℕ, ◌==◌, nat_le, List, [], ◌∷◌, ◌++◌, length, drop, replicate, Option, Some, None, slice_get, slice_index_or, slice_set, Result, Ok, ⊤, count_by, sum_by}
use Rattle.acc_base.specs.Words.{Transfer, Fault}
use Rattle.acc_base.specs.declared.transfers.TheConstants.{QUEUE_COUNT}
use Rattle.acc_base.specs.declared.faults.Fault.TheVariants.{NoQueue, QueueFull}
use Rattle.acc_base.specs.Results.{refuse_if}

-- the queues by number, from 0 on. Each has the transfers that were put into it and not yet made, the oldest at the
-- front
abbrev pub new_queues : List (List Transfer)
new_queues = replicate QUEUE_COUNT []

-- the transfers of a queue; a number that is no queue's has none
abbrev pub queue_at : ℕ → List (List Transfer) → List Transfer
queue_at q queues = slice_index_or queues q []

-- the transfer that a queue makes next
abbrev pub head_of : ℕ → List (List Transfer) → Option Transfer
head_of q queues = slice_get (queue_at q queues) 0

-- the queues with one more transfer at the end of one
abbrev pub put : ℕ → Transfer → List (List Transfer) → List (List Transfer)
put q t queues = slice_set queues q (queue_at q queues ++ t ∷ [])

-- the queues without the first transfer of one
abbrev pub popped : ℕ → List (List Transfer) → List (List Transfer)
popped q queues = slice_set queues q (drop 1 (queue_at q queues))

-- how many of these transfers name a block
abbrev pub pins_in : ℕ → List Transfer → ℕ
pins_in block transfers = count_by (λ t. t.block == block) transfers

-- how many queued transfers name a block
abbrev pub pins_of : ℕ → List (List Transfer) → ℕ
pins_of block queues = sum_by (pins_in block) queues

-- ---- what is refused

-- there is such a queue
abbrev pub queue_known : ℕ → Result ⊤ Fault
queue_known q = refuse_if (nat_le QUEUE_COUNT q) (NoQueue q)

-- so is the one that is named, if one is
abbrev pub queue_named : Option ℕ → Result ⊤ Fault
queue_named None = Ok tt
queue_named (Some q) = queue_known q

-- it has fewer transfers than the limit says
abbrev pub queue_room : ℕ → ℕ → List (List Transfer) → Result ⊤ Fault
queue_room queue_cap q queues = refuse_if (nat_le queue_cap (length (queue_at q queues))) (QueueFull q)
