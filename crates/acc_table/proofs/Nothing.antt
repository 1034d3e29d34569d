-- What queries find on a device that has nothing, as on one that is not there.
use Rattle.std.proofs.Common.{ℕ, zero, suc, ◌≡◌, refl, true, false, cond, List, [], None, replicate}
use Rattle.std.specs.Prelude.{slice_index_or}
use Rattle.acc_clauses.specs.Words.{Section, Transfer}
use Rattle.acc_base.specs.declared.mappings.Found.TheVariants.{Empty, Absent}
use Rattle.acc_base.specs.Section.{is_empty}
use Rattle.acc_base.specs.Queues.{new_queues, queue_at}
use Rattle.acc_base.specs.Records.{new_records}
use Rattle.acc_table.specs.Queries.{counters_inside, counters_of_section, attached_inside, first_attached}

pub counters_none : (s : Section) → counters_of_section s new_records ≡ None
counters_none s = elim (is_empty s) as (λ b. counters_inside (cond b Empty Absent) [] ≡ None) [ true ↦ refl | false ↦ refl ]

pub attached_none : (s : Section) → first_attached s new_records ≡ None
attached_none s = elim (is_empty s) as (λ b. attached_inside (cond b Empty Absent) s [] ≡ None) [ true ↦ refl | false ↦ refl ]

pub queue_none : (q : ℕ) → queue_at q new_queues ≡ []
queue_none q = go 16 q
  where
    go : (n q : ℕ) → slice_index_or {A = List Transfer} (replicate n []) q [] ≡ []
    go zero q = refl
    go (suc n) zero = refl
    go (suc n) (suc q) = go n q
