-- A step and an attachment or a detachment, one after the other.
use Rattle.std.proofs.lemmas.Bool.Decides.{nat_tests}
use Rattle.std.proofs.Common.{ℕ, ◌≡◌, refl, ap, [], Option, arith, append-nil, Bool, subst, sym}
use Rattle.std.specs.Prelude.{◌⊎◌}
use Rattle.acc_clauses.specs.Words.{Item, ExitClause, UpdateClause, Holding, Task, Did, Step, Aim}
use Rattle.acc_base.specs.declared.tasks.Task.TheVariants.{Enter, ExitRegion, ExitData, Move}
use Rattle.acc_base.specs.Records.{State}
use Rattle.acc_base.specs.Bytes.{step_state}
use Rattle.acc_base.specs.Pointers.{aimed}
use Rattle.acc_base.specs.Acting.{act_state}
use Rattle.acc_clauses.specs.Contents.{WithHost, state_of, room_of, bare_numbers, bare_state}
use Rattle.acc_clauses.specs.Overlays.{puts_by}
use Rattle.acc_clauses.specs.Acts.{IsEnter, CanDo, CanQueue, HasPutRoom, birth_of, pointers_of, IsActedBy, IsAimedBy, IsDoneBy, CanNeed, CanAim, CanAct}
use Rattle.acc_clauses.proofs.Changes.{both}

-- the task is no entry
pub not_entry : (task : Task) → ((h : Holding) × (task ≡ ExitRegion h)) ⊎ ((finalize : Bool) × (item : Item ExitClause) × (queue : Option ℕ) × (task ≡ ExitData finalize item queue)) ⊎ ((if_present : Bool) × (item : Item UpdateClause) × (queue : Option ℕ) × (task ≡ Move if_present item queue)) → IsEnter task → ⊥
not_entry task h1 entry = grind (arith, nat_tests)

-- entry attaches after its step
enter_whole : (task : Task) (did : Did) (s : State) → IsEnter task → aimed did.aim (step_state task did.step s) ≡ act_state task did s
unfolding act_state
enter_whole task did s entry = grind (arith, nat_tests)

pub entry_done : (task : Task) (did : Did) (x y z : WithHost) → IsEnter task → IsActedBy task did.step x y → IsAimedBy did.aim y z → IsDoneBy task did x z
entry_done task did x y z entry acted aims = both (step_state task did.step) (aimed did.aim) (act_state task did) (birth_of task did.step) [] (birth_of task did.step) 0 (pointers_of did.aim) (pointers_of did.aim) (λ q. puts_by q task did.step) (λ q. 0) (λ q. puts_by q task did.step) x y z
    (λ next. enter_whole task did (state_of x next) entry) (append-nil (birth_of task did.step)) (omega arith) (λ q. omega arith) acted aims

-- and exit detaches before it
leave_whole : (task : Task) (did : Did) (s : State) → (IsEnter task → ⊥) → step_state task did.step (aimed did.aim s) ≡ act_state task did s
unfolding act_state
leave_whole task did s other = grind (arith, nat_tests)

pub leaves : (task : Task) (did : Did) (x y z : WithHost) → (IsEnter task → ⊥) → IsAimedBy did.aim x y → IsActedBy task did.step y z → IsDoneBy task did x z
leaves task did x y z other aims acted = both (aimed did.aim) (step_state task did.step) (act_state task did) [] (birth_of task did.step) (birth_of task did.step) (pointers_of did.aim) 0 (pointers_of did.aim) (λ q. 0) (λ q. puts_by q task did.step) (λ q. puts_by q task did.step) x y z
    (λ next. leave_whole task did (state_of x next) other) refl (omega arith) (λ q. omega arith) aims acted

-- ---- what the second part of a task needs is there after the first one

pub aim_after : (task : Task) (did : Did) (x y : WithHost) → IsEnter task → CanDo x task did → IsActedBy task did.step x y → CanAim y.attached.counter_max did.aim (bare_state y)
aim_after (Enter counter item queue) did x y entry can acted = subst (λ n. CanAim n did.aim (bare_state y)) (sym acted.pointer_max) (subst (CanAim x.attached.counter_max did.aim) (sym (acted.state bare_numbers)) can.aim)
aim_after _ did x y entry can acted = absurd entry

pub step_after : (task : Task) (did : Did) (x y : WithHost) → (IsEnter task → ⊥) → CanDo x task did → IsAimedBy did.aim x y → CanAct y.present.table.counter_max y.device.memory task did.step (bare_state y)
step_after task did x y other can aims =
    subst (λ n. CanAct n y.device.memory task did.step (bare_state y)) (sym aims.counter_max) (subst (λ n. CanAct x.present.table.counter_max n task did.step (bare_state y)) (sym aims.memory)
    (subst (CanAct x.present.table.counter_max x.device.memory task did.step) (sym (aims.state bare_numbers)) (go task other can)))
  where
    go : (t : Task) → (IsEnter t → ⊥) → CanDo x t did → CanAct x.present.table.counter_max x.device.memory t did.step (aimed did.aim (bare_state x))
    go t enters can = grind (arith, nat_tests)

-- what an attachment or a detachment leaves of the queues, and of the room in them
pub queues_kept : (aim : Aim) (task : Task) (step : Step) (x y : WithHost) → IsAimedBy aim x y → CanQueue task step x → CanQueue task step y
unfolding aimed
queues_kept aim task step x y h can =
    let queues : y.queues.queues ≡ x.queues.queues = ap (λ (s : State). s.records.queues) (h.state bare_numbers) in
    let ranges : y.present.table.ranges ≡ x.present.table.ranges = ap (λ (s : State). s.records.ranges) (h.state bare_numbers) in
    rw (h.queue_cap, queues, ranges) can

-- and of the loans
pub needed_kept : (aim : Aim) (task : Task) (step : Step) (x y : WithHost) → IsAimedBy aim x y → CanNeed task step x → CanNeed task step y
unfolding aimed
needed_kept aim task step x y h can =
    let loans : y.device.loans ≡ x.device.loans = ap (λ (s : State). s.records.loans) (h.state bare_numbers) in
    rw loans can

pub puts_kept : (aim : Aim) (puts : ℕ → ℕ) (x y : WithHost) → IsAimedBy aim x y → HasPutRoom puts (room_of x) → HasPutRoom puts (room_of y)
puts_kept aim puts x y h room q = omega (arith, h.room.puts q, room q)

-- what a task can do has room in its queue
pub do_needed : (x : WithHost) (task : Task) (did : Did) → CanDo x task did → CanNeed task did.step x
do_needed x task did can = grind (arith, nat_tests)

pub do_queue : (x : WithHost) (task : Task) (did : Did) → CanDo x task did → CanQueue task did.step x
do_queue x task did can = grind (arith, nat_tests)
