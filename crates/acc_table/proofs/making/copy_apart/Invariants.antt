use Rattle.std.proofs.Common.{◌≡◌, ◌≤◌, ◌++◌, drop, length, vec_capacity}
use Rattle.acc_clauses.specs.Overlays.{dids_in}
use Rattle.acc_table.proofs.making.copy_apart.Given as goal

-- what the tasks so far did, before what those do that are left, is what all do
abbrev pub invariant-loop-x : goal.invariant-loop-x
invariant-loop-x l = record {
  room : length l.acts ≤ vec_capacity l.apart;
  len : length l.apart.items ≡ l.x-index;
  so_far : l.apart.items ++ dids_in (drop l.x-index l.acts) ≡ dids_in l.acts;
}
