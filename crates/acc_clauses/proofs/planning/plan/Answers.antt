use Rattle.std.proofs.Common.{ap, sym, ◌∙◌, rules}
use Rattle.acc_base.specs.Queues.{queue_named}
use Rattle.acc_clauses.proofs.Asking.{left_fit, queues_there, asked_left, planned, plan_unqueued, plan_refused, plan_told}
use Rattle.acc_clauses.proofs.planning.plan.Goals as goal

pub judge_all-requires-clause-few : goal.judge_all-requires-clause-few
judge_all-requires-clause-few c = (left_fit c.args.directive.now c.args.view.now.state.register _ c.requires.register c.requires.items c.in_ok-holdings.ensures).few

pub judge_all-requires-clause-unmixed : goal.judge_all-requires-clause-unmixed
judge_all-requires-clause-unmixed c = (left_fit c.args.directive.now c.args.view.now.state.register _ c.requires.register c.requires.items c.in_ok-holdings.ensures).unmixed

pub judge_all-requires-clause-queues : goal.judge_all-requires-clause-queues
judge_all-requires-clause-queues c =
    let known = ap queue_named (sym c.queue_in-queue.ensures) ∙ sym c.in_ok-check_queue.ensures in
    queues_there _ _ known (left_fit c.args.directive.now c.args.view.now.state.register _ c.requires.register c.requires.items c.in_ok-holdings.ensures).queues

pub returns-in_err-check_queue-clause-judged : goal.returns-in_err-check_queue-clause-judged
returns-in_err-check_queue-clause-judged c =
    let unknown = ap queue_named (sym c.queue_in-queue.ensures) ∙ sym c.in_err-check_queue.ensures in
    let refused = plan_unqueued c.args.view.now.limits c.args.directive.now c.args.view.now.state _ _ c.requires.items c.requires.own c.in_ok-holdings.ensures unknown in
    search rules

pub returns-in_err-judge_all-clause-judged : goal.returns-in_err-judge_all-clause-judged
returns-in_err-judge_all-clause-judged c =
    let known = ap queue_named (sym c.queue_in-queue.ensures) ∙ sym c.in_ok-check_queue.ensures in
    let refused = plan_refused c.args.view.now.limits c.args.directive.now c.args.view.now.state _ _ c.requires.items c.requires.own c.in_ok-holdings.ensures known c.in_err-judge_all.ensures.judged in
    search rules

pub returns-clause-judged : goal.returns-clause-judged
returns-clause-judged c =
    let known = ap queue_named (sym c.queue_in-queue.ensures) ∙ sym c.in_ok-check_queue.ensures in
    plan_told c.args.view.now.limits c.args.directive.now c.args.view.now.state _ _ c.transfers_free.result c.requires.items c.requires.own c.in_ok-holdings.ensures known c.in_ok-judge_all.ensures.judged c.transfers_free.ensures

pub returns-clause-planned : goal.returns-clause-planned
returns-clause-planned c =
    let d = c.args.directive.now in
    let s = c.args.view.now.state in
    let few = c.requires.items in
    let left = c.in_ok-holdings.ensures in
    let known = ap queue_named (sym c.queue_in-queue.ensures) ∙ sym c.in_ok-check_queue.ensures in
    let judged = c.in_ok-judge_all.ensures in
    planned c.args.view.now.limits d s _ c.judge_all.new.draft _ c.transfers_free.result c.queue_in-queue.ensures (asked_left d s.register _ few left) judged.asked (left_fit d s.register _ c.requires.register few left).few known judged.judged c.transfers_free.ensures
