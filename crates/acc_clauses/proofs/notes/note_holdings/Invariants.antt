use Rattle.std.proofs.Common.{◌≡◌, ◌++◌, drop, vec_capacity}
use Rattle.acc_clauses.specs.Overlays.{tasks_in, dids_in}
use Rattle.acc_clauses.specs.Planned.{holdings_by}
use Rattle.acc_clauses.proofs.notes.note_holdings.Given as goal

-- the holdings so far, before those of the tasks that are left, are those of all tasks
abbrev pub invariant-loop-x : goal.invariant-loop-x
invariant-loop-x l = record {
  room : vec_capacity l.holdings ≡ vec_capacity l.fn.holdings;
  so_far : l.holdings.items ++ holdings_by (tasks_in (drop l.x-index l.acts)) (dids_in (drop l.x-index l.acts)) ≡ holdings_by (tasks_in l.acts) (dids_in l.acts);
}
