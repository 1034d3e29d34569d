use Rattle.std.proofs.Common.{sym, rules, arith}
use Rattle.acc_clauses.specs.Overlays.{records_after}
use Rattle.acc_clauses.proofs.Pointed.{step_refused, aimed_step, row_refused, enters_not, left_judged}
use Rattle.acc_clauses.proofs.items.judge.Goals as goal

pub returns-in_err-step : goal.returns-in_err-step
returns-in_err-step c = grind (arith, row_refused, step_refused)

pub returns-in_err-step_free : goal.returns-in_err-step_free
returns-in_err-step_free c =
    let p = c.args.view.now in
    let row = aimed_step p.limits c.args.n c.args.task c.in_ok-step.step _ (records_after c.args.draft.now p.state.records) _ (sym c.in_ok-step.ensures) c.aim_before-aim.ensures c.in_err-step_free.ensures in
    let refused = step_refused p.limits c.args.n c.args.draft.now c.args.task p.state _ row in
    search rules

pub enter-requires-clause-step : goal.enter-requires-clause-step
enter-requires-clause-step c =
    let p = c.args.view.now in
    aimed_step p.limits c.args.n c.args.task c.in_ok-step.step _ (records_after c.args.draft.now p.state.records) _ (sym c.in_ok-step.ensures) c.aim_before-aim.ensures c.in_ok-step_free.ensures

pub returns : goal.returns
returns c =
    let p = c.args.view.now in
    let step = aimed_step p.limits c.args.n c.args.task c.in_ok-step.step _ (records_after c.args.draft.now p.state.records) _ (sym c.in_ok-step.ensures) c.aim_before-aim.ensures c.in_ok-step_free.ensures in
    left_judged p.limits c.args.n c.args.draft.now _ c.args.task c.in_ok-step.step _ p.state (enters_not c.args.task c.in_default.not-Enter) step c.aim_before-aim.ensures c.push.ensures
