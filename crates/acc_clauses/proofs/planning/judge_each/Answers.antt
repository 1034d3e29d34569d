use Rattle.std.proofs.Common.{◌<◌, sym, ap, ◌∙◌, length, arith, rules}
use Rattle.acc_base.specs.declared.tasks.Task.{Task}
use Rattle.acc_base.specs.Queues.{queue_named}
use Rattle.acc_base.specs.Tasks.{queue_of}
use Rattle.acc_base.specs.Judge.{tasks_with}
use Rattle.acc_clauses.proofs.Asking.{queue_at_turn}
use Rattle.acc_clauses.proofs.Turns.{turns_begun, task_judged, turn_refused, turns_done, unmixed_turn, asked_turn, few_turn, IsPlanned-next}
use Rattle.acc_clauses.proofs.planning.judge_each.Goals as goal

pub loop-n-init : goal.loop-n-init
loop-n-init g c = grind (arith, turns_begun)

pub task-requires : goal.task-requires
task-requires g c =
    let within : c.loop-n.n < length (tasks_with c.args.directive.now c.args.holdings.now) = omega (arith, c.loop-n-test.true, c.requires.count) in
    (c.requires.asked c.loop-n.n within).0

pub judge-requires-clause-unmixed : goal.judge-requires-clause-unmixed
judge-requires-clause-unmixed g c =
    let within : c.loop-n.n < length (tasks_with c.args.directive.now c.args.holdings.now) = omega (arith, c.loop-n-test.true, c.requires.count) in
    unmixed_turn c.loop-n.n _ c.task.result (tasks_with c.args.directive.now c.args.holdings.now) c.task.result within ((c.requires.asked c.loop-n.n within).1 c.task.result c.task.result c.task.ensures) c.loop-n.invariant.asked c.requires.unmixed

pub judge-requires-clause-queue : goal.judge-requires-clause-queue
judge-requires-clause-queue g c =
    let within : c.loop-n.n < length (tasks_with c.args.directive.now c.args.holdings.now) = omega (arith, c.loop-n-test.true, c.requires.count) in
    ap (λ (t : Task). queue_named (queue_of t)) ((c.requires.asked c.loop-n.n within).1 c.task.result c.task.result c.task.ensures) ∙ queue_at_turn (tasks_with c.args.directive.now c.args.holdings.now) c.loop-n.n c.task.result within c.requires.queues

pub returns-in_err-judge-clause-judged : goal.returns-in_err-judge-clause-judged
returns-in_err-judge-clause-judged g c =
    let within : c.loop-n.n < length (tasks_with c.args.directive.now c.args.holdings.now) = omega (arith, c.loop-n-test.true, c.requires.count) in
    let refused = turn_refused c.args.view.now.limits c.loop-n.n c.loop-n.n c.loop-n.draft c.task.result (tasks_with c.args.directive.now c.args.holdings.now) c.task.result c.args.view.now.state _ _ within ((c.requires.asked c.loop-n.n within).1 c.task.result c.task.result c.task.ensures) c.in_err-judge.ensures c.loop-n.invariant.judged in
    search rules

pub loop-n-preserved : goal.loop-n-preserved
loop-n-preserved g c =
    let r = c.loop-n.invariant in
    let tasks = tasks_with c.args.directive.now c.args.holdings.now in
    let within : c.loop-n.n < length tasks = omega (arith, c.loop-n-test.true, c.requires.count) in
    let next = c.in_ok-judge.ensures in
    let is = (c.requires.asked c.loop-n.n within).1 c.task.result c.task.result c.task.ensures in
    record {
      few = few_turn c.loop-n.n _ _ _ next.more r.few;
      asked = asked_turn c.loop-n.n c.loop-n.draft c.judge.new.draft _ tasks c.task.result within is next.more r.asked;
      planned = IsPlanned-next c.args.view.now.limits c.loop-n.n c.loop-n.draft c.judge.new.draft c.task.result c.args.view.now.state (sym r.few) r.planned next;
      judged = task_judged c.args.view.now.limits c.loop-n.n c.loop-n.n c.loop-n.draft c.judge.new.draft c.task.result tasks c.task.result c.args.view.now.state _ within is next r.judged;
    }

pub returns-clause-judged : goal.returns-clause-judged
returns-clause-judged g c = grind (arith, turns_done)
