use Rattle.std.proofs.Common.{◌∙◌, sym, rules, None}
use Rattle.acc_clauses.proofs.Pointed.{aim_refused, both_judged, half_planned, aimed_checked, entry_aim}
use Rattle.acc_clauses.proofs.items.enter.Goals as goal

pub attach-requires-clause-planned : goal.attach-requires-clause-planned
attach-requires-clause-planned c = half_planned c.args.view.now.limits c.args.n c.args.draft.now _ c.args.task c.args.step c.args.view.now.state.records c.requires.entry c.requires.place c.requires.planned c.requires.step c.push.ensures

pub attach-requires-clause-checked : goal.attach-requires-clause-checked
attach-requires-clause-checked c = aimed_checked c.args.view.now.limits c.args.n c.args.task c.args.step _ c.in-Some.pointer c.requires.entry c.requires.step (sym c.pointer_aimed.ensures ∙ c.in-Some.is)

pub returns-in_err-aim : goal.returns-in_err-aim
returns-in_err-aim c =
    let aim = entry_aim c.args.view.now.limits c.args.n c.args.draft.now _ c.args.task c.args.step _ c.args.view.now.state c.requires.entry c.push.ensures (sym c.pointer_aimed.ensures ∙ c.in-Some.is) in
    let refused = aim_refused c.args.view.now.limits c.args.n c.args.draft.now c.args.task c.args.step c.args.view.now.state _ c.requires.step (aim ∙ sym c.in_err-aim.ensures) in
    search rules

pub returns-in_ok-aim : goal.returns-in_ok-aim
returns-in_ok-aim c =
    let aim = entry_aim c.args.view.now.limits c.args.n c.args.draft.now _ c.args.task c.args.step _ c.args.view.now.state c.requires.entry c.push.ensures (sym c.pointer_aimed.ensures ∙ c.in-Some.is) in
    both_judged c.args.view.now.limits c.args.n c.args.draft.now _ c.args.task c.args.step c.in_ok-aim.aim c.args.view.now.state c.requires.step (aim ∙ sym c.in_ok-aim.ensures) (c.aim.ensures _ _ c.push.ensures)

pub returns-in_default : goal.returns-in_default
returns-in_default c =
    let aim = entry_aim c.args.view.now.limits c.args.n c.args.draft.now _ c.args.task c.args.step None c.args.view.now.state c.requires.entry c.push.ensures (sym c.pointer_aimed.ensures ∙ c.in_default.is) in
    both_judged c.args.view.now.limits c.args.n c.args.draft.now _ c.args.task c.args.step _ c.args.view.now.state c.requires.step aim c.push.ensures
