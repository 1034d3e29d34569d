-- How many transfers wait in a queue after tasks.
use Rattle.std.proofs.Common.{ℕ, ◌≡◌, ◌+◌, ◌<◌, ◌∙◌, cond, ◌&&◌, List, [], ◌∷◌, length, Option, Some, None, Ok, arith}
use Rattle.std.specs.Prelude.{nat_le, is_some}
use Rattle.std.proofs.lemmas.Bool.Decides.{nat_tests}
use Rattle.std.proofs.lemmas.List.{length-set, length-append, get_or-set_same, get_or-set_other}
use Rattle.acc_clauses.specs.Words.{Range, Transfer, Task, Step, Did}
use Rattle.acc_base.specs.declared.transfers.TheConstants.{QUEUE_COUNT}
use Rattle.acc_base.specs.declared.faults.Fault.TheVariants.{QueueFull}
use Rattle.acc_base.specs.Results.{refuse_if}
use Rattle.acc_base.specs.Limits.{Limits}
use Rattle.acc_base.specs.Records.{Records}
use Rattle.acc_base.specs.Queues.{queue_at, queue_named}
use Rattle.acc_base.specs.Tasks.{queue_of}
use Rattle.acc_base.specs.Transfers.{transfer_of, room_for, queues_after}
use Rattle.acc_base.specs.Steps.{records_after_birth, records_after_end, released, with_range_changed, act_row, act_step, act, act_all}
use Rattle.acc_base.proofs.SameMapping.{mapping-act}
use Rattle.acc_clauses.specs.declared.acted.Acted.{Acted}
use Rattle.acc_clauses.specs.Overlays.{IsPlanned, tasks_in, dids_in, records_after, moves, is_queue, puts_by, puts_in}

-- ---- one transfer

-- the step has a transfer just as the tables say
pub moves_some : (task : Task) (step : Step) (ranges : List Range) → moves task step ≡ is_some (transfer_of task step ranges)
moves_some task step ranges = grind (arith, nat_tests)

-- there stay as many queues
length-after : (named : Option ℕ) (t : Option Transfer) (queues : List (List Transfer)) → length (queues_after named t queues) ≡ length queues
length-after named t queues = grind (arith, nat_tests, length-set)

waiting-after : (q : ℕ) (named : Option ℕ) (t : Option Transfer) (queues : List (List Transfer)) → q < length queues
    → length (queue_at q (queues_after named t queues)) ≡ length (queue_at q queues) + cond (is_queue q named && is_some t) 1 0
waiting-after q named t queues there = grind (arith, nat_tests, get_or-set_same, length-append, get_or-set_other)

-- ---- one task

-- a step puts its transfer into the queue, and nothing else changes the queues
queues-step : (task : Task) (step : Step) (w : Records) → (act_step task step w).queues ≡ queues_after (queue_of task) (transfer_of task step w.ranges) w.queues
unfolding act_step act_row with_range_changed records_after_birth records_after_end released
queues-step task step w = grind (arith, nat_tests)

queues-act : (task : Task) (did : Did) (w : Records) → (act task did w).queues ≡ queues_after (queue_of task) (transfer_of task did.step w.ranges) w.queues
queues-act task did w = (mapping-act task did w).queues ∙ queues-step task did.step w

waiting-act : (q : ℕ) (task : Task) (did : Did) (w : Records) → q < length w.queues → length (queue_at q (act task did w).queues) ≡ length (queue_at q w.queues) + puts_by q task did.step
waiting-act q task did w there = rw (queues-act task did w, moves_some task did.step w.ranges) (waiting-after q (queue_of task) (transfer_of task did.step w.ranges) w.queues there)

queue_there-act : (q : ℕ) (task : Task) (did : Did) (w : Records) → q < length w.queues → q < length (act task did w).queues
queue_there-act q task did w there = rw (queues-act task did w, length-after (queue_of task) (transfer_of task did.step w.ranges) w.queues) there

-- ---- tasks

pub waiting-tasks : (q : ℕ) (xs : List Acted) (w : Records) → q < length w.queues
    → length (queue_at q (records_after xs w).queues) ≡ length (queue_at q w.queues) + puts_in q (tasks_in xs) (dids_in xs)
unfolding act_all
waiting-tasks q [] w there = omega arith
waiting-tasks q (x ∷ xs) w there = grind (arith, nat_tests, waiting-tasks q xs (act x.task x.did w) (queue_there-act q x.task x.did w there), waiting-act, queue_there-act)

-- how many transfers wait in a queue after the tasks of a plan
pub waiting-planned : (l : Limits) (xs : List Acted) (w : Records) (q : ℕ) → IsPlanned l xs w → q < QUEUE_COUNT
    → length (queue_at q (records_after xs w).queues) ≡ length (queue_at q w.queues) + puts_in q (tasks_in xs) (dids_in xs)
waiting-planned l xs w q p known = waiting-tasks q xs w (let all : length w.queues ≡ QUEUE_COUNT = p.sound.queues.all in rw all known)

-- ---- room in a queue

-- a queue that is named is there
pub known_queue : (q : ℕ) (named : Option ℕ) → named ≡ Some q → queue_named named ≡ Ok tt → q < QUEUE_COUNT
known_queue q named is e = grind (arith, nat_tests)

-- without a queue there is room
pub room_none : (cap : ℕ) (named : Option ℕ) (t : Option Transfer) (queues : List (List Transfer)) → named ≡ None → room_for cap named t queues ≡ Ok tt
room_none cap named t queues is = grind (arith, nat_tests)

-- a step without a transfer needs no room, and another has it below the limit
pub room_told : (cap q : ℕ) (task : Task) (step : Step) (ranges : List Range) (queues : List (List Transfer)) → queue_of task ≡ Some q
    → room_for cap (queue_of task) (transfer_of task step ranges) queues ≡ refuse_if (moves task step && nat_le cap (length (queue_at q queues))) (QueueFull q)
room_told cap q task step ranges queues is = grind (arith, nat_tests)

pub ruleset queue_laws = (waiting-planned)

pub ruleset room_laws = (known_queue, room_none, room_told)
