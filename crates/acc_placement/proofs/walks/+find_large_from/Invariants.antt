use Rattle.acc_placement.specs.Nodes.{height_of}
use Rattle.acc_placement.proofs.walks.+find_large_from.Given as goal

abbrev pub decreases-find_large_from : goal.decreases-find_large_from
decreases-find_large_from l = height_of l.tree.now
