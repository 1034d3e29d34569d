use Rattle.acc_placement.specs.Nodes.{height_of}
use Rattle.acc_placement.proofs.changes.+grow.Given as goal

abbrev pub decreases-grow : goal.decreases-grow
decreases-grow l = height_of l.tree.now
