use Rattle.acc_placement.specs.Nodes.{height_of}
use Rattle.acc_placement.proofs.changes.+insert.Given as goal

abbrev pub decreases-insert : goal.decreases-insert
decreases-insert l = height_of l.tree.now
