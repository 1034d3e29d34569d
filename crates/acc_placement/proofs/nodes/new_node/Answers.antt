use Rattle.std.proofs.Common.{refl}
use Rattle.acc_placement.specs.Nodes.{IsLeaf}
use Rattle.acc_placement.proofs.nodes.new_node.Goals as goal

pub returns-in-Ok : goal.returns-in-Ok
returns-in-Ok c =
    let k = c.in-Ok.ensures.ok in
    let leaf : IsLeaf c.in-Ok.node.value = rw k (record { hole = (0, 0); holes = refl; place = refl; left = refl; right = refl; alone = refl }) in
    record { leaf = leaf }
