use Rattle.acc_placement.specs.Nodes.{length_of, IsChain}
use Rattle.acc_placement.proofs.tree.drop_chain.Given as goal

abbrev pub invariant-loop-rest : goal.invariant-loop-rest
invariant-loop-rest l = IsChain l.rest

abbrev pub decreases-loop-rest : goal.decreases-loop-rest
decreases-loop-rest l = length_of l.rest
