-- The directive that an event names, with the items of an array. And what is told of it where it is judged, and not
-- carried out.
use Rattle.std.specs.Prelude.{ℕ, ◌≡◌, ◌<◌, ◌⊎◌, ◌==◌, if◌then◌else◌, List, Result, Ok, Err}
use Rattle.acc_base.specs.declared.faults.Fault.{Fault}
use Rattle.acc_base.specs.declared.faults.Fault.TheVariants.{Memory}
use Rattle.acc_base.specs.declared.directives.Directive.{Directive}
use Rattle.acc_base.specs.declared.directives.Directive.TheVariants.{Exit, Wait, Step}
use Rattle.acc_base.specs.declared.calls.Call.TheVariants.{Do}
use Rattle.acc_base.specs.Judge.{Verdict, item_count}
use Rattle.acc_base.specs.Calls.{judge}
use Rattle.lamwiest_c.specs.declared.events.RawEvent.{RawEvent}
use Rattle.lamwiest_c.specs.declared.items.RawItem.{RawItem}
use Rattle.lamwiest_c.specs.declared.statuses.Refusal.{Refusal}
use Rattle.lamwiest_c.specs.declared.statuses.Refusal.TheVariants.{Absent, OfTable}
use Rattle.lamwiest_c.specs.Environments.{DataEnvironment}
use Rattle.lamwiest_c.specs.Answers.{Told}
use Rattle.lamwiest_c.specs.Clauses.{is_given, queue_of, enter_of, enter_data_of, exit_data_of, update_of}

-- a directive without items; the numbers of other kinds name none
abbrev pub directive_alone : RawEvent → Result Directive Refusal
directive_alone r =
    if r.kind == 2 then Ok (Exit r.region) else
    if r.kind == 6 then Ok (Wait r.device (queue_of r.queue)) else
    if r.kind == 7 then Ok (Step r.device r.queue) else Err Absent

abbrev pub directive_named : RawEvent → List RawItem → Result Directive Refusal
directive_named r items =
    if r.kind == 1 then enter_of r.device items else
    if r.kind == 3 then enter_data_of r.device items (queue_of r.queue) else
    if r.kind == 4 then exit_data_of r.device items (is_given r.option) (queue_of r.queue) else
    if r.kind == 5 then update_of r.device items (is_given r.option) (queue_of r.queue) else directive_alone r

-- it was read so; memory may be lacking for a list of more than one item
abbrev pub IsNamed : Result Directive Refusal → Result Directive Refusal → Type 0
IsNamed (Err refusal) result = result ≡ Err refusal
IsNamed (Ok directive) result = (result ≡ Ok directive) ⊎ ((result ≡ Err (OfTable Memory)) × (1 < item_count directive))

-- ---- what is told of it where it is judged

-- that it can be done, or what it is refused for
abbrev pub verdict_told : Result Verdict Fault → Result ℕ Refusal
verdict_told (Ok verdict) = Ok 0
verdict_told (Err fault) = Err (OfTable fault)

-- that is told of the directive, or that it was read wrong. Memory may be lacking before it is judged, for a list of
-- more than one item
abbrev pub IsDryRun : DataEnvironment → Result Directive Refusal → Told → Type 0
IsDryRun e (Err refusal) T = T (Err refusal)
IsDryRun e (Ok directive) T = (T (Err (OfTable Memory)) × (1 < item_count directive)) ⊎ T (verdict_told (judge e.world (Do directive)))
