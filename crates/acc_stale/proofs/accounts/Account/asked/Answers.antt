use Rattle.std.proofs.Common.{rules, ◌≡◌, ◌∙◌, sym, ap, List, reverse, Some}
use Rattle.std.specs.BTreeMap.{get}
use Rattle.std.specs.List.{slice_get}
use Rattle.acc_base.specs.declared.tasks.Task.{Task}
use Rattle.acc_stale.specs.Accounts.{by_number}
use Rattle.acc_stale.proofs.Counts.{asked_there}
use Rattle.acc_stale.proofs.accounts.Account.asked.Goals as goal

pub returns-in_ok-tasks-in-Left : goal.returns-in_ok-tasks-in-Left
returns-in_ok-tasks-in-Left c =
    let there : get by_number c.args.self.now.regions (c.in-Left.device, c.in-Left.number) ≡ Some c.in_ok-tasks-in-Left.tasks.now = search rules in
    c.from_last.ensures
    ∙ ap (λ (tasks : List Task). slice_get (reverse tasks) c.args.nth) c.deref.ensures.value
    ∙ sym (ap (λ (tasks : List Task). slice_get tasks c.args.nth) (asked_there c.args.event.now c.in-Left.device c.in-Left.number _ c.args.self.now c.in_ok-tasks-in-Left.tasks.now c.in-Left.is there))
