use Rattle.std.proofs.Common.{◌≡◌, arith, sym, ap, ◌∙◌, inl, inr, length}
use Rattle.acc_placement.specs.Shape.{Shape}
use Rattle.acc_placement.specs.Listing.{first_large}
use Rattle.acc_placement.specs.Nodes.{holes_in, tree_of, high}
use Rattle.acc_placement.proofs.Fronts.{large_left, large_here, large_right}
use Rattle.acc_placement.proofs.walks.find_large.Goals as goal

pub down-preserved-then-node-size : goal.down-preserved-then-node-size
down-preserved-then-node-size c =
    let n = c.node.inside in
    let met = rw c.in-Some.is at c.visit.ensures.node in
    let here : holes_in c.down.rest.now ≡ tree_of n = met.0 ∙ sym (ap (λ (s : Shape). s.holes) c.node.view_is) in
    let step = rw c.in-Some.is at c.visit.ensures.step in
    record {
      found = sym (ap (first_large c.args.size) here ∙ large_left c.args.size (holes_in n.left) (n.place, n.size) (holes_in n.right) c.requires.some (omega (arith, c.node.invariant.left.greatest_is))) ∙ c.down.invariant.found;
      some = inr (omega (arith, step, c.down.invariant.not_fewer));
      not_fewer = omega (arith, step, c.down.invariant.not_fewer);
      most = omega (arith, step, met.1, ap high c.node.view_is, c.node.invariant.left.height_is, c.down.invariant.most);
    }

pub returns-then-node-size-2-clause-found : goal.returns-then-node-size-2-clause-found
returns-then-node-size-2-clause-found c =
    let n = c.node.inside in
    let met = rw c.in-Some.is at c.visit.ensures.node in
    let here : holes_in c.down.rest.now ≡ tree_of n = met.0 ∙ sym (ap (λ (s : Shape). s.holes) c.node.view_is) in
    sym (ap (first_large c.args.size) here ∙ large_here c.args.size (holes_in n.left) (n.place, n.size) (holes_in n.right) (omega (arith, c.node.invariant.left.greatest_is)) c.if-node-size-2.true) ∙ c.down.invariant.found

pub down-preserved : goal.down-preserved
down-preserved c =
    let n = c.node.inside in
    let met = rw c.in-Some.is at c.visit.ensures.node in
    let here : holes_in c.down.rest.now ≡ tree_of n = met.0 ∙ sym (ap (λ (s : Shape). s.holes) c.node.view_is) in
    let step = rw c.in-Some.is at c.visit.ensures.step in
    record {
      found = sym (ap (first_large c.args.size) here ∙ large_right c.args.size (holes_in n.left) (n.place, n.size) (holes_in n.right) (omega (arith, c.node.invariant.left.greatest_is)) c.if-node-size-2.false) ∙ c.down.invariant.found;
      some = inr (omega (arith, step, c.down.invariant.not_fewer));
      not_fewer = omega (arith, step, c.down.invariant.not_fewer);
      most = omega (arith, step, met.1, ap high c.node.view_is, c.node.invariant.right.height_is, c.down.invariant.most);
    }

pub returns-clause-found : goal.returns-clause-found
returns-clause-found c = sym (ap (first_large c.args.size) (rw c.in_default.is at c.visit.ensures.none)) ∙ c.down.invariant.found

pub returns-clause-least : goal.returns-clause-least
returns-clause-least c = λ some. elim c.down.invariant.some [
  | inl same ↦ absurd (omega (arith, some, ap length same, ap length (rw c.in_default.is at c.visit.ensures.none)))
  | inr less ↦ omega (arith, less, rw c.in_default.is at c.visit.ensures.no_step)
]
