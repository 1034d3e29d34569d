-- What contracts see of the queues of transfers, and what holds of them at all times (OpenACC 3.3, section 2.16,
-- asynchronous behavior).
use Rattle.std.specs.Prelude.{ℕ, ◌≡◌, ◌≢◌, ◌+◌, ◌≤◌, List, length, slice_index}
use Rattle.std.specs.List.{AllByRecursion}
use Rattle.acc_base.specs.declared.transfers.Transfer.{Transfer}
use Rattle.acc_base.specs.declared.transfers.TheConstants.{QUEUE_COUNT}
use Rattle.acc_base.specs.Limits.{IsFromOne}

-- the limit of each queue, the queues by number, and for each how many more transfers it can take without allocating
pub record QueuesState : Type 0 where
  pub cap : ℕ
  pub queues : List (List Transfer)
  pub spare : List ℕ

-- each of the queues has at most as many transfers as the limit says, which is from 1 to 4,096
pub record AreQueues (cap : ℕ) (queues : List (List Transfer)) : Type 0 where
  pub limit : IsFromOne 4096 cap
  pub count : length queues ≡ QUEUE_COUNT
  pub each : AllByRecursion (λ transfers. length transfers ≤ cap) queues

-- ---- room

-- how many more transfers a queue can take without allocating; a number that is no queue's can take none
abbrev pub spare_at : ℕ → List ℕ → ℕ
spare_at q spare = slice_index spare q

-- no queue's room has shrunk
abbrev pub AreRoomsKept : List ℕ → List ℕ → Type 0
AreRoomsKept old new = (q : ℕ) → spare_at q old ≤ spare_at q new

-- one queue's room has shrunk by one at most, and no other's
pub record IsRoomTaken (q : ℕ) (old new : List ℕ) : Type 0 where
  pub one : spare_at q old ≤ spare_at q new + 1
  pub others : (other : ℕ) → other ≢ q → spare_at other old ≤ spare_at other new
