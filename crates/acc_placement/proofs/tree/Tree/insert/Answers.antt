use Rattle.std.proofs.Common.{◌≡◌, ◌+◌, ◌≤◌, ◌^◌, ℕ, arith, sym, ap, subst, ◌∙◌, List, length}
use Rattle.acc_base.specs.Holes.{IsRising}
use Rattle.acc_placement.specs.Listing.{Listing, with_hole}
use Rattle.acc_placement.specs.Nodes.{holes_in, height_of, length_of}
use Rattle.acc_placement.proofs.Tall.{low}
use Rattle.acc_placement.proofs.Steps.{length-with_hole}
use Rattle.acc_placement.proofs.tree.Tree.insert.Goals as goal

pub insert-requires-clause-limit : goal.insert-requires-clause-limit
insert-requires-clause-limit c =
    let l : height_of c.self.inside.root ≤ 128 = low (height_of c.self.inside.root) (length (holes_in c.self.inside.root)) c.height_law.ensures (omega (arith, c.self.invariant.nodes, c.self.invariant.limit)) in
    omega arith

pub invariant_of-self : goal.invariant_of-self
invariant_of-self c =
    let new = c.insert.ensures.holes ∙ ap (λ (l : Listing). with_hole c.args.hole l.holes) c.self.view_is in
    let long = ap length c.insert.ensures.holes ∙ length-with_hole c.args.hole (holes_in c.self.inside.root) in
    let spare : length_of c.self.inside.spare ≡ c.in-Some.chain.value.behind + 1 = ap length_of (sym c.take.ensures.value ∙ c.in-Some.is) in
    record {
      rising = subst (λ (hs : List (ℕ × ℕ)). IsRising 0 hs (2 ^ 41)) (sym new) c.requires.rising;
      is_tree = c.insert.ensures.is_tree;
      chain = c.pop-node.ensures.chain;
      len = omega (arith, c.self.invariant.len, long);
      nodes = omega (arith, c.self.invariant.nodes, long, spare, c.pop-node.ensures.length);
      limit = c.self.invariant.limit;
    }
