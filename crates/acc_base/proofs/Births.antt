-- How many blocks were born, after tasks and after queued transfers.
use Rattle.std.proofs.Common.{ℕ, ◌≡◌, ◌+◌, ◌≤◌, refl, ◌∙◌, true, List, [], ◌∷◌, Option, Some, None, arith}
use Rattle.acc_base.specs.Words.{Task, Transfer, Step}
use Rattle.acc_base.specs.declared.events.Step.TheVariants.{Dropped}
use Rattle.acc_base.specs.Records.{Records}
use Rattle.acc_base.specs.Queues.{head_of}
use Rattle.acc_base.specs.Steps.{released, act_row, act_step, records_after_birth, records_after_end, with_range_changed}
use Rattle.acc_base.specs.Waits.{records_made, records_stepped, records_drained}

-- a step gives birth to at most one
pub births_most : (task : Task) (step : Step) (w : Records) → (act_step task step w).births ≤ w.births + 1
unfolding act_step act_row records_after_birth records_after_end released with_range_changed
births_most task (Dropped k true) w = omega arith
births_most task _ w = omega arith

-- and takes none back
pub births_least : (task : Task) (step : Step) (w : Records) → w.births ≤ (act_step task step w).births
unfolding act_step act_row records_after_birth records_after_end released with_range_changed
births_least task (Dropped k true) w = omega arith
births_least task _ w = omega arith

-- transfers that are made give birth to none
births-stepped : (q : ℕ) (w : Records) → (records_stepped q w).births ≡ w.births
unfolding records_stepped released
births-stepped q w = go (head_of q w.queues)
  where
    go : (o : Option Transfer) → (records_made q o w).births ≡ w.births
    go None = refl
    go (Some t) = refl

pub births-drained : (qs : List ℕ) (w : Records) → (records_drained qs w).births ≡ w.births
unfolding records_drained
births-drained [] w = refl
births-drained (q ∷ qs) w = births-drained qs (records_stepped q w) ∙ births-stepped q w
