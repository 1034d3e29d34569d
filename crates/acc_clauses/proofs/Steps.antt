-- What the steps of items leave of the parts that change counters, and what all steps need of the present table.
use Rattle.std.proofs.lemmas.Bool.Decides.{nat_tests}
use Rattle.std.proofs.Common.{ℕ, ◌≡◌, refl, sym, ap, true, false, List, [], ◌∷◌, Option, Some, None, arith}
use Rattle.std.specs.Prelude.{◌==◌, IsSome}
use Rattle.std.specs.List.{AllByRecursion}
use Rattle.acc_clauses.specs.Words.{Range, Task, Transfer}
use Rattle.acc_base.specs.declared.events.Step.TheVariants.{Nothing, Counted, Dropped}
use Rattle.acc_base.specs.Records.{State}
use Rattle.acc_base.specs.Ranges.{range_of, changed_at}
use Rattle.acc_base.specs.Tasks.{queue_of, recounted}
use Rattle.acc_base.specs.Transfers.{at_once, queues_after}
use Rattle.acc_base.specs.Steps.{act_row, act_step, with_range_changed}
use Rattle.acc_base.specs.Bytes.{step_state}
use Rattle.acc_base.proofs.Lookups.{at-none}
use Rattle.acc_base.proofs.Memories.{recounted-block}
use Rattle.acc_present.specs.Present.{PresentTable, PresentState, with_ranges}
use Rattle.acc_present.specs.Present as present
use Rattle.acc_clauses.specs.Contents.{Numbers, WithHost, AreMarked, state_of}
use Rattle.acc_clauses.specs.Overlays.{puts_by}
use Rattle.acc_clauses.specs.Acts.{IsChangedBy, IsActedBy}
use Rattle.acc_clauses.proofs.Changes.{state_from_parts, room_same}
use Rattle.acc_clauses.proofs.Marked.{marks_counted}

-- ---- ranges

pub is_some : {X : Type 0} (o : Option X) (x : X) → o ≡ Some x → IsSome o
is_some o x e = rw e refl

-- ---- steps without a transfer

-- nothing is put
pub none_put : (o : Option ℕ) (queues : List (List Transfer)) → queues_after o None queues ≡ queues
none_put o queues = grind (arith, nat_tests)

-- nor made at once
pub none_made : (o : Option ℕ) → at_once o None ≡ None
none_made o = grind (arith, nat_tests)

pub nothing_acts : (task : Task) (x : WithHost) → AreMarked x → IsActedBy task Nothing x x
unfolding step_state act_step act_row
nothing_acts task x marked = grind (arith, nat_tests)

-- the marks stay right where the counters of a range change
pub counted_marked : (task : Task) (k : ℕ) (x : WithHost) (r : PresentState) → r.table ≡ with_ranges x.present.table (changed_at k (recounted task) x.present.table.ranges) → AreMarked x → AreMarked (record x { present = r })
counted_marked task k x r e marked = rw e (marks_counted x.present.table.ranges k (recounted task) x.queues.queues x.device.marks (recounted-block task) marked)

-- the counters of a range change, and nothing else
counter_acts : (change : State → State) (puts : ℕ → ℕ) (task : Task) (k : ℕ) (x : WithHost) (r : PresentState) → r.table ≡ with_ranges x.present.table (changed_at k (recounted task) x.present.table.ranges) → present.IsRoomKept x.present.room r.room → AreMarked x
    → ((next : Numbers) → state_of (record x { present = r }) next ≡ change (state_of x next)) → IsChangedBy change [] 0 puts x (record x { present = r })
counter_acts change puts task k x r e room marked same = grind (arith, nat_tests, room_same puts x (record x { present = r }) room, counted_marked task k x r e marked)

pub counted_acts : (task : Task) (k : ℕ) (x : WithHost) (r : PresentState) → r.table ≡ with_ranges x.present.table (changed_at k (recounted task) x.present.table.ranges) → present.IsRoomKept x.present.room r.room → AreMarked x
    → IsActedBy task (Counted k) x (record x { present = r })
unfolding step_state act_step act_row with_range_changed
counted_acts task k x r e room marked = counter_acts (step_state task (Counted k)) (λ q. puts_by q task (Counted k)) task k x r e room marked
    (λ next. state_from_parts (record x { present = r }) next (step_state task (Counted k) (state_of x next)) (ap (λ t. t.ranges) e) refl refl refl (sym (none_put (queue_of task) x.queues.queues)) refl (ap (λ t. t.regions) e) refl refl
    (rw (none_made (queue_of task)) refl) (rw (none_made (queue_of task)) refl))

pub dropped_acts : (task : Task) (k : ℕ) (x : WithHost) (r : PresentState) → r.table ≡ with_ranges x.present.table (changed_at k (recounted task) x.present.table.ranges) → present.IsRoomKept x.present.room r.room → AreMarked x
    → IsActedBy task (Dropped k false) x (record x { present = r })
unfolding step_state act_step act_row with_range_changed
dropped_acts task k x r e room marked = counter_acts (step_state task (Dropped k false)) (λ q. puts_by q task (Dropped k false)) task k x r e room marked
    (λ next. state_from_parts (record x { present = r }) next (step_state task (Dropped k false) (state_of x next)) (ap (λ t. t.ranges) e) refl refl refl (sym (none_put (queue_of task) x.queues.queues)) refl (ap (λ t. t.regions) e) refl refl
    (rw (none_made (queue_of task)) refl) (rw (none_made (queue_of task)) refl))

-- ---- what the calls on the present table need

-- no range has a new number
pub new_absent : (k : ℕ) (ranges : List Range) → AllByRecursion (λ r. r.block ≡ k → ⊥) ranges → range_of k ranges ≡ None
new_absent k ranges h = at-none (λ (r : Range). r.block) k ranges h

-- the range of a block has the block
pub found_block : (k : ℕ) (ranges : List Range) (r : Range) → range_of k ranges ≡ Some r → (r.block == k) ≡ true
found_block k [] r e = cc
found_block k (x ∷ xs) r e = grind (arith, nat_tests, found_block k xs r)
