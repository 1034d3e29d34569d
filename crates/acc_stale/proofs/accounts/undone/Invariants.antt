use Rattle.std.proofs.Common.{◌≡◌, take}
use Rattle.acc_base.specs.Items.{tasks_undone}
use Rattle.acc_stale.proofs.accounts.undone.Given as goal

abbrev pub invariant-loop-place : goal.invariant-loop-place
invariant-loop-place l = l.tasks.items ≡ take l.place (tasks_undone l.entry)
