use Rattle.std.proofs.Common.{◌∙◌}
use Rattle.acc_placement.proofs.Tall.{tall_of}
use Rattle.acc_placement.proofs.Opened.{IsOpened, opened}
use Rattle.acc_placement.proofs.nodes.height.Goals as goal

pub returns-in-Some-clause-tall : goal.returns-in-Some-clause-tall
returns-in-Some-clause-tall c =
    let o : IsOpened c.args.tree.now c.node.inside = opened c.args.tree.now c.in-Some.node c.node.inside c.in-Some.is (c.node.view_is ∙ c.deref-node.ensures) in
    λ tree. rw (o.whole, c.max.ensures) (tall_of c.node.inside c.node.invariant (o.even tree))
