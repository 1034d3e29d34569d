use Rattle.std.proofs.Common.{◌≤◌, ◌∷◌, ◌++◌, ℕ, List, IsSome, arith, sym, ap, ◌∙◌}
use Rattle.std.specs.Prelude.{IfSome}
use Rattle.acc_placement.specs.Listing.{at_place, with_hole_moved}
use Rattle.acc_placement.specs.Nodes.{holes_in}
use Rattle.acc_placement.proofs.Steps.{at_left, at_right, range_left, range_here, range_right}
use Rattle.acc_placement.proofs.Opened.{IsOpened, opened, side_grown}
use Rattle.acc_placement.proofs.changes.+grow.Goals as goal

pub grow-requires : goal.grow-requires
grow-requires t c =
    let n = c.node.inside in
    let o : IsOpened c.args.tree.now n = opened c.args.tree.now c.in-Some.node n c.in-Some.is (c.node.view_is ∙ c.deref_mut-node.ensures.value) in
    let d = o.sides c.requires.rising in
    let at = ap (at_place c.args.place) o.whole ∙ at_left d c.args.place c.if-place-node.true in
    (omega (arith, c.node.invariant.left.height_is, o.high_is), (c.node.invariant.left.is_tree, (d.left, (rw at at c.requires.there, rw at at c.requires.not_less))))

pub grow-requires-then-node-place : goal.grow-requires-then-node-place
grow-requires-then-node-place t c =
    let n = c.node.inside in
    let o : IsOpened c.args.tree.now n = opened c.args.tree.now c.in-Some.node n c.in-Some.is (c.node.view_is ∙ c.deref_mut-node.ensures.value) in
    let d = o.sides c.requires.rising in
    let at = ap (at_place c.args.place) o.whole ∙ at_right d c.args.place c.if-node-place.true in
    (omega (arith, c.node.invariant.right.height_is, o.high_is), (c.node.invariant.right.is_tree, (d.right, (rw at at c.requires.there, rw at at c.requires.not_less))))

pub invariant_of-node : goal.invariant_of-node
invariant_of-node t c =
    let n = c.node.inside in
    let o : IsOpened c.args.tree.now n = opened c.args.tree.now c.in-Some.node n c.in-Some.is (c.node.view_is ∙ c.deref_mut-node.ensures.value) in
    let at = ap (at_place c.args.place) o.whole ∙ at_left (o.sides c.requires.rising) c.args.place c.if-place-node.true in
    let there : IsSome (at_place c.args.place (holes_in n.left)) = rw at at c.requires.there in
    let not_less : IfSome (at_place c.args.place (holes_in n.left)) (λ h. h.1 ≤ c.args.size) = rw at at c.requires.not_less in
    let w = c.grow.ensures in
    let v = c.node.invariant in
    record {
      left = rw c.max-node-inside.ensures (side_grown n.left c.grow.new.tree n.greatest_left n.height_left c.args.place c.args.to c.args.size v.left (o.sides c.requires.rising).left there not_less w.holes w.is_tree w.height);
      right = v.right;
      chain = v.chain;
      not_left = v.not_left;
      not_right = v.not_right;
      low = v.low;
    }

pub invariant_of-node-then-node-place : goal.invariant_of-node-then-node-place
invariant_of-node-then-node-place t c =
    let n = c.node.inside in
    let o : IsOpened c.args.tree.now n = opened c.args.tree.now c.in-Some.node n c.in-Some.is (c.node.view_is ∙ c.deref_mut-node.ensures.value) in
    let at = ap (at_place c.args.place) o.whole ∙ at_right (o.sides c.requires.rising) c.args.place c.if-node-place.true in
    let there : IsSome (at_place c.args.place (holes_in n.right)) = rw at at c.requires.there in
    let not_less : IfSome (at_place c.args.place (holes_in n.right)) (λ h. h.1 ≤ c.args.size) = rw at at c.requires.not_less in
    let w = c.grow-then-node-place.ensures in
    let v = c.node.invariant in
    record {
      left = v.left;
      right = rw c.max-node-inside-then-node-place.ensures (side_grown n.right c.grow-then-node-place.new.tree n.greatest_right n.height_right c.args.place c.args.to c.args.size v.right (o.sides c.requires.rising).right there not_less w.holes w.is_tree w.height);
      chain = v.chain;
      not_left = v.not_left;
      not_right = v.not_right;
      low = v.low;
    }

pub returns-then-place-node-clause-holes : goal.returns-then-place-node-clause-holes
returns-then-place-node-clause-holes t c =
    let n = c.node.inside in
    let x : ℕ × ℕ = (n.place, n.size) in
    let o : IsOpened c.args.tree.now n = opened c.args.tree.now c.in-Some.node n c.in-Some.is (c.node.view_is ∙ c.deref_mut-node.ensures.value) in
    ap (λ (k : List (ℕ × ℕ)). k ++ x ∷ holes_in n.right) c.grow.ensures.holes ∙ sym (ap (with_hole_moved c.args.place c.args.to c.args.size) o.whole ∙ range_left (o.sides c.requires.rising) c.args.place c.args.to c.args.size c.if-place-node.true)

pub returns-then-node-place-clause-holes : goal.returns-then-node-place-clause-holes
returns-then-node-place-clause-holes t c =
    let n = c.node.inside in
    let x : ℕ × ℕ = (n.place, n.size) in
    let o : IsOpened c.args.tree.now n = opened c.args.tree.now c.in-Some.node n c.in-Some.is (c.node.view_is ∙ c.deref_mut-node.ensures.value) in
    ap (λ (k : List (ℕ × ℕ)). holes_in n.left ++ x ∷ k) c.grow-then-node-place.ensures.holes ∙ sym (ap (with_hole_moved c.args.place c.args.to c.args.size) o.whole ∙ range_right (o.sides c.requires.rising) c.args.place c.args.to c.args.size c.if-node-place.true)

pub returns-else-node-place-clause-holes : goal.returns-else-node-place-clause-holes
returns-else-node-place-clause-holes t c =
    let n = c.node.inside in
    let o : IsOpened c.args.tree.now n = opened c.args.tree.now c.in-Some.node n c.in-Some.is (c.node.view_is ∙ c.deref_mut-node.ensures.value) in
    sym (ap (with_hole_moved c.args.place c.args.to c.args.size) o.whole ∙ range_here (o.sides c.requires.rising) c.args.place c.args.to c.args.size (omega (arith, c.if-place-node.false, c.if-node-place.false)))
