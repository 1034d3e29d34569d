use Rattle.std.proofs.Common.{◌^◌, ℕ, arith, sym, ap, subst, ◌∙◌, List, length}
use Rattle.acc_base.specs.Holes.{IsRising}
use Rattle.acc_placement.specs.Listing.{Listing, with_hole_moved}
use Rattle.acc_placement.specs.Nodes.{holes_in}
use Rattle.acc_placement.proofs.Opened.{length-with_hole_moved}
use Rattle.acc_placement.proofs.tree.Tree.grow.Goals as goal

pub invariant_of-self : goal.invariant_of-self
invariant_of-self c =
    let new = c.grow.ensures.holes ∙ ap (λ (l : Listing). with_hole_moved c.args.place c.args.to c.args.size l.holes) c.self.view_is in
    let long = ap length c.grow.ensures.holes ∙ length-with_hole_moved c.args.place c.args.to c.args.size (holes_in c.self.inside.root) in
    record {
      rising = subst (λ (hs : List (ℕ × ℕ)). IsRising 0 hs (2 ^ 41)) (sym new) c.requires.rising;
      is_tree = c.grow.ensures.is_tree;
      chain = c.self.invariant.chain;
      len = omega (arith, c.self.invariant.len, long);
      nodes = omega (arith, c.self.invariant.nodes, long);
      limit = c.self.invariant.limit;
    }
