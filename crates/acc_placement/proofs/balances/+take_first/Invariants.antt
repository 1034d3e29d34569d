use Rattle.acc_placement.specs.Nodes.{height_of}
use Rattle.acc_placement.proofs.balances.+take_first.Given as goal

abbrev pub decreases-take_first : goal.decreases-take_first
decreases-take_first l = height_of l.tree.now
