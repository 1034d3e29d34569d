use Rattle.acc_placement.specs.Nodes.{height_of}
use Rattle.acc_placement.proofs.changes.+cut_front.Given as goal

abbrev pub decreases-cut_front : goal.decreases-cut_front
decreases-cut_front l = height_of l.tree.now
