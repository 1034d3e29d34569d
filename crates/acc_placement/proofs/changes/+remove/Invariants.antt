use Rattle.acc_placement.specs.Nodes.{height_of}
use Rattle.acc_placement.proofs.changes.+remove.Given as goal

abbrev pub decreases-remove : goal.decreases-remove
decreases-remove l = height_of l.tree.now
