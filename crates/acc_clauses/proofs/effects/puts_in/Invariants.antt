use Rattle.std.proofs.Common.{◌≡◌, ◌+◌, ◌≤◌, drop}
use Rattle.acc_clauses.specs.Overlays.{tasks_in, dids_in, puts_in}
use Rattle.acc_clauses.proofs.effects.puts_in.Given as goal

-- those so far, with those of the tasks that are left, are those of all
abbrev pub invariant-loop-x : goal.invariant-loop-x
invariant-loop-x l = record {
  few : l.count ≤ l.x-index;
  so_far : l.count + puts_in l.q (tasks_in (drop l.x-index l.acts)) (dids_in (drop l.x-index l.acts)) ≡ puts_in l.q (tasks_in l.acts) (dids_in l.acts);
}
