use Rattle.std.proofs.Common.{◌≡◌, ◌+◌, ◌<◌, ◌≤◌, ◌⊎◌}
use Rattle.acc_placement.specs.Listing.{first_large}
use Rattle.acc_placement.specs.Nodes.{holes_in, height_of}
use Rattle.acc_placement.proofs.walks.find_large.Given as goal

-- the first is in the tree that is left, and the steps so far are those above it
abbrev pub invariant-down : goal.invariant-down
invariant-down l = record {
  found : first_large l.size (holes_in l.rest) ≡ first_large l.size (holes_in l.tree);
  some : (holes_in l.rest ≡ holes_in l.tree) ⊎ (l.fn.steps < l.steps);
  not_fewer : l.fn.steps ≤ l.steps;
  most : l.steps + height_of l.rest ≤ l.fn.steps + height_of l.tree;
}

abbrev pub decreases-down : goal.decreases-down
decreases-down l = height_of l.rest
