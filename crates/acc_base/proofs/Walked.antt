-- The layout after an event is the walk of the event.
use Rattle.std.proofs.Common.{◌≡◌, refl, ◌∙◌, ap, Bool, List, [], ◌∷◌, ℕ, Option, Some, None}
use Rattle.acc_base.specs.Words.{Transfer, Task, Did, Event}
use Rattle.acc_base.specs.declared.tasks.Task.TheVariants.{Enter}
use Rattle.acc_base.specs.Records.{State, Records, layout_of}
use Rattle.acc_base.specs.Steps.{act, act_all}
use Rattle.acc_base.specs.Walk.{walk, asked_in, done_in, stepped_in, loaned, register_after}
use Rattle.acc_base.specs.Queues.{head_of}
use Rattle.acc_base.specs.Bytes.{step_state}
use Rattle.acc_base.specs.Waits.{records_made, records_stepped, state_made, stepped, records_drained, drained}
use Rattle.acc_base.specs.Pointers.{aimed}
use Rattle.acc_base.specs.Acting.{act_state, act_all_state, after}

-- the records after a task of a state are those that the task leaves of its records
pub records-act_state : (task : Task) (did : Did) (s : State) → (act_state task did s).records ≡ act task did s.records
unfolding act_state act step_state aimed
records-act_state (Enter counter item queue) did s = refl
records-act_state _ did s = refl

-- and the same of a list of tasks
pub records-act_all_state : (tasks : List Task) (dids : List Did) (s : State) → (act_all_state tasks dids s).records ≡ act_all tasks dids s.records
unfolding act_all_state act_all
records-act_all_state [] [] s = refl
records-act_all_state (t ∷ ts) (d ∷ ds) s = records-act_all_state ts ds (act_state t d s) ∙ ap (act_all ts ds) (records-act_state t d s)
records-act_all_state _ _ s = refl

-- tasks leave the register
register-act_state : (task : Task) (did : Did) (s : State) → (act_state task did s).register ≡ s.register
unfolding act_state step_state aimed
register-act_state (Enter counter item queue) did s = refl
register-act_state _ did s = refl

pub register-act_all_state : (tasks : List Task) (dids : List Did) (s : State) → (act_all_state tasks dids s).register ≡ s.register
unfolding act_all_state
register-act_all_state [] [] s = refl
register-act_all_state (t ∷ ts) (d ∷ ds) s = register-act_all_state ts ds (act_state t d s) ∙ register-act_state t d s
register-act_all_state _ _ s = refl

-- transfers that are made one after the other
records-stepped : (q : ℕ) (s : State) → (stepped q s).records ≡ records_stepped q s.records
unfolding stepped records_stepped
records-stepped q s = go (head_of q s.records.queues)
  where
    go : (o : Option Transfer) → (state_made q o s).records ≡ records_made q o s.records
    go None = refl
    go (Some t) = refl

pub records-drained : (qs : List ℕ) (s : State) → (drained qs s).records ≡ records_drained qs s.records
unfolding drained records_drained
records-drained [] s = refl
records-drained (q ∷ qs) s = records-drained qs (stepped q s) ∙ ap (records_drained qs) (records-stepped q s)

-- the layout after an event, whatever bytes its call brought
pub layout-after : (full : Bool) (e : Event) (brought : List ℕ) (s : State) → layout_of (after full e brought s) ≡ walk e (layout_of s)
unfolding after walk
layout-after full e brought s = ap (λ (w : Records). record { records = loaned e w; register = register_after e s.register })
    (records-drained (stepped_in e s.records.queues) (act_all_state (asked_in e s.register) (done_in e) s) ∙ ap (records_drained (stepped_in e s.records.queues)) (records-act_all_state (asked_in e s.register) (done_in e) s))
