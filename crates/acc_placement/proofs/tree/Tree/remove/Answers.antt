use Rattle.std.proofs.Common.{◌≡◌, ◌≤◌, ◌^◌, ℕ, arith, sym, ap, subst, List, length}
use Rattle.acc_base.specs.Holes.{IsRising}
use Rattle.acc_placement.specs.Nodes.{holes_in, height_of, length_of}
use Rattle.acc_placement.proofs.Tall.{low}
use Rattle.acc_placement.proofs.Steps.{rising_without}
use Rattle.acc_placement.proofs.tree.Tree.remove.Goals as goal

pub remove-node-requires-clause-limit : goal.remove-node-requires-clause-limit
remove-node-requires-clause-limit c =
    let l : height_of c.self.inside.root ≤ 128 = low (height_of c.self.inside.root) (length (holes_in c.self.inside.root)) c.height_law.ensures (omega (arith, c.self.invariant.nodes, c.self.invariant.limit)) in
    omega arith

pub invariant_of-self : goal.invariant_of-self
invariant_of-self c =
    let same : length_of c.take.result ≡ length_of c.self.inside.spare = ap length_of c.take.ensures.value in
    record {
      rising = subst (λ (hs : List (ℕ × ℕ)). IsRising 0 hs (2 ^ 41)) (sym c.remove-node.ensures.holes) (rising_without c.args.place 0 (holes_in c.self.inside.root) (2 ^ 41) c.self.invariant.rising);
      is_tree = c.remove-node.ensures.is_tree;
      chain = c.push.ensures.chain;
      len = omega (arith, c.self.invariant.len, c.remove-node.ensures.length);
      nodes = omega (arith, c.self.invariant.nodes, c.remove-node.ensures.length, same, c.push.ensures.length);
      limit = c.self.invariant.limit;
    }
