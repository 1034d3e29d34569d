use Rattle.std.proofs.Common.{◌∙◌, rules}
use Rattle.acc_base.specs.Records.{Records}
use Rattle.acc_base.specs.Loans.{not_lent}
use Rattle.acc_clauses.proofs.Freed.{first_refused, first_passed, free_after, detached_lent}
use Rattle.acc_clauses.proofs.judging.step_free.Goals as goal

pub returns-in_err-not_lent : goal.returns-in_err-not_lent
returns-in_err-not_lent c =
    let p = c.args.view.now in
    let told = detached_lent c.args.draft.now c.args.task c.args.step c.args.before p.limits.queue_cap p.state.records c.block_aimed.result _ c.block_aimed.ensures c.in_err-not_lent.ensures in
    search rules

pub returns-in_err-not_lent-2 : goal.returns-in_err-not_lent-2
returns-in_err-not_lent-2 c =
    let p = c.args.view.now in
    let w : Records = p.state.records in
    let all = free_after c.args.draft.now c.args.task c.args.step c.args.before p.limits.queue_cap w c.block_aimed.result c.block_needed.result c.block_aimed.ensures c.block_needed.ensures in
    let rest = first_passed (not_lent c.block_aimed.result w.loans) _ _ _ all c.in_ok-not_lent.ensures in
    let told = first_refused (not_lent c.block_needed.result w.loans) _ _ _ rest c.in_err-not_lent-2.ensures in
    search rules

pub returns : goal.returns
returns c =
    let p = c.args.view.now in
    let w : Records = p.state.records in
    let all = free_after c.args.draft.now c.args.task c.args.step c.args.before p.limits.queue_cap w c.block_aimed.result c.block_needed.result c.block_aimed.ensures c.block_needed.ensures in
    let rest = first_passed (not_lent c.block_aimed.result w.loans) _ _ _ all c.in_ok-not_lent.ensures in
    c.room_for.ensures ∙ first_passed (not_lent c.block_needed.result w.loans) _ _ _ rest c.in_ok-not_lent-2.ensures
