use Rattle.std.proofs.Common.{◌+◌, arith}
use Rattle.acc_placement.proofs.Rest.{all_holes_from}
use Rattle.acc_placement.proofs.hole_iter.HoleIter.new.Goals as goal

pub returns : goal.returns
returns c = all_holes_from 0 c.args.holes.now.base c.args.holes.now.holes (c.args.holes.now.base + c.args.holes.now.size) (omega arith) c.laws.ensures.rising
