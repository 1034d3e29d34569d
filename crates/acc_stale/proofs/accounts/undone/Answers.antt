use Rattle.std.proofs.Common.{◌≡◌, ◌∙◌, ◌++◌, ◌∷◌, [], List, sym, ap, length, Some, arith}
use Rattle.std.specs.List.{slice_get}
use Rattle.acc_base.specs.declared.events.Did.{Did}
use Rattle.acc_base.specs.Items.{tasks_undone}
use Rattle.acc_stale.proofs.Turning.{take_some, take_none, undone_whole}
use Rattle.acc_stale.proofs.accounts.undone.Goals as goal
use Rattle.acc_stale.proofs.accounts.undone.Goals.{in-Some+in_ok-push, in_default}

pub loop-place-preserved : goal.loop-place-preserved
loop-place-preserved c =
    elim c.match-exit_task.branch [
      | in-Some+in_ok-push w ↦
          let there : slice_get (tasks_undone c.args.entry.now) c.loop-place.place ≡ Some w.in-Some.task = sym c.exit_task.ensures ∙ w.in-Some.is in
          ap (λ v. v.items) w.tasks-is ∙ w.in_ok-push.ensures.items ∙ ap (λ ts. ts ++ w.in-Some.task ∷ []) c.loop-place.invariant ∙ take_some (tasks_undone c.args.entry.now) c.loop-place.place w.in-Some.task there
      | in_default w ↦ ap (λ v. v.items) w.tasks-is ∙ c.loop-place.invariant ∙ take_none (tasks_undone c.args.entry.now) c.loop-place.place (sym c.exit_task.ensures ∙ w.in_default.is)
    ]

pub returns : goal.returns
returns c =
    let end : c.loop-place.place ≡ length c.did-place-end.result.now = grind (arith, c.loop-place.auto.place-end, c.loop-place-test.false) in
    c.loop-place.invariant ∙ undone_whole c.args.entry.now c.loop-place.place (end ∙ ap (λ (ds : List Did). length ds) c.did-place-end.ensures)
