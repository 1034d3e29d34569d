use Rattle.std.proofs.Common.{◌≡◌, ◌+◌, ◌-◌, ◌^◌, ◌<◌, ◌≤◌}
use Rattle.acc_placement.specs.Nodes.{length_of, IsChain}
use Rattle.acc_placement.proofs.tree.make_nodes.Given as goal

abbrev pub invariant-loop-nodes : goal.invariant-loop-nodes
invariant-loop-nodes l = IsChain l.spare × (l.nodes ≡ l.len + length_of l.spare) × (length_of l.initial.spare ≤ length_of l.spare) × (l.nodes < 2 ^ 64)

abbrev pub decreases-loop-nodes : goal.decreases-loop-nodes
decreases-loop-nodes l = l.count - length_of l.spare
