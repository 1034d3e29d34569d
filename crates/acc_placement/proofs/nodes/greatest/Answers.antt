use Rattle.std.proofs.Common.{arith, ap, ◌∙◌}
use Rattle.acc_base.specs.Holes.{greatest}
use Rattle.acc_placement.proofs.Tall.{greatest_of}
use Rattle.acc_placement.proofs.Opened.{IsOpened, opened}
use Rattle.acc_placement.proofs.nodes.greatest.Goals as goal

pub returns-in-Some : goal.returns-in-Some
returns-in-Some c =
    let o : IsOpened c.args.tree.now c.node.inside = opened c.args.tree.now c.in-Some.node c.node.inside c.in-Some.is (c.node.view_is ∙ c.deref-node.ensures) in
    omega (arith, greatest_of c.node.inside c.node.invariant, ap greatest o.whole)
