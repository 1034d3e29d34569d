-- How the queues are kept, each in a ring. No public clause cites this module.
use Rattle.std.specs.Prelude.{ℕ, List, map}
use Rattle.acc_base.specs.declared.transfers.Transfer.{Transfer}

-- the transfers of a queue, and how many more it can take without allocating
pub record RingState : Type 0 where
  pub transfers : List Transfer
  pub spare : ℕ

-- the transfers of each ring
abbrev pub queues_in : List RingState → List (List Transfer)
queues_in rings = map (λ r. r.transfers) rings

-- how many more each ring can take without allocating
abbrev pub spares_in : List RingState → List ℕ
spares_in rings = map (λ r. r.spare) rings
