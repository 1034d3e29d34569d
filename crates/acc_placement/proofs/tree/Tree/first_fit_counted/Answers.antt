use Rattle.std.proofs.Common.{◌≡◌, ◌≤◌, arith, ap, length}
use Rattle.acc_placement.specs.Listing.{Listing}
use Rattle.acc_placement.specs.Nodes.{holes_in, height_of}
use Rattle.acc_placement.proofs.Tall.{height_le, low}
use Rattle.acc_placement.proofs.tree.Tree.first_fit_counted.Goals as goal

pub find_large-requires-clause-limit : goal.find_large-requires-clause-limit
find_large-requires-clause-limit c =
    let l : height_of c.self.inside.root ≤ 128 = low (height_of c.self.inside.root) (length (holes_in c.self.inside.root)) c.height_law.ensures (omega (arith, c.self.invariant.nodes, c.self.invariant.limit)) in
    omega (arith, c.requires.limit)

pub returns-clause-steps : goal.returns-clause-steps
returns-clause-steps c =
    let is : holes_in c.self.inside.root ≡ c.args.self.now.holes = ap (λ (l : Listing). l.holes) c.self.view_is in
    λ d few. let l = height_le (height_of c.self.inside.root) (length (holes_in c.self.inside.root)) d c.height_law.ensures (omega (arith, ap length is)) in omega (arith, c.find_large.ensures.steps)
