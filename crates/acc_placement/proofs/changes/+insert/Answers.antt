use Rattle.std.proofs.Common.{◌≡◌, ◌∷◌, ◌++◌, ℕ, List, arith, sym, ap, ◌∙◌}
use Rattle.acc_placement.specs.Listing.{with_hole}
use Rattle.acc_placement.specs.Nodes.{holes_in, tree_of}
use Rattle.acc_placement.proofs.Steps.{with_left, with_right}
use Rattle.acc_placement.proofs.Opened.{IsOpened, opened}
use Rattle.acc_placement.proofs.changes.+insert.Goals as goal
use Rattle.acc_placement.proofs.changes.+insert.Goals.{then-hole-n, else-hole-n}

pub insert-requires : goal.insert-requires
insert-requires t c =
    let n = c.n.inside in
    let o : IsOpened c.args.tree.now n = opened c.args.tree.now c.in-Some.top n (sym c.take.ensures.value ∙ c.in-Some.is) (c.n.view_is ∙ c.deref_mut-n.ensures.value) in
    (omega (arith, c.n.invariant.left.height_is, o.high_is), (c.requires.leaf, (c.n.invariant.left.is_tree, (omega (arith, c.n.invariant.left.height_is, o.high_is, c.requires.limit), (o.sides c.requires.rising).left))))

pub insert-requires-else-hole-n : goal.insert-requires-else-hole-n
insert-requires-else-hole-n t c =
    let n = c.n.inside in
    let o : IsOpened c.args.tree.now n = opened c.args.tree.now c.in-Some.top n (sym c.take.ensures.value ∙ c.in-Some.is) (c.n.view_is ∙ c.deref_mut-n.ensures.value) in
    (omega (arith, c.n.invariant.right.height_is, o.high_is), (c.requires.leaf, (c.n.invariant.right.is_tree, (omega (arith, c.n.invariant.right.height_is, o.high_is, c.requires.limit), (o.sides c.requires.rising).right))))

pub returns-clause-holes : goal.returns-clause-holes
returns-clause-holes t c =
    let n = c.n.inside in
    let x : ℕ × ℕ = (n.place, n.size) in
    let o : IsOpened c.args.tree.now n = opened c.args.tree.now c.in-Some.top n (sym c.take.ensures.value ∙ c.in-Some.is) (c.n.view_is ∙ c.deref_mut-n.ensures.value) in
    let d = o.sides c.requires.rising in
    let new : c.if-hole-n.top.value.holes ≡ with_hole c.args.hole (tree_of n) = elim c.if-hole-n.branch [
      | then-hole-n w ↦ rw w.top-is (ap (λ (k : List (ℕ × ℕ)). k ++ x ∷ holes_in n.right) w.insert.ensures.holes ∙ sym (with_left d c.args.hole.0 c.args.hole.1 w.if-hole-n.true))
      | else-hole-n w ↦ rw w.top-is (ap (λ (k : List (ℕ × ℕ)). holes_in n.left ++ x ∷ k) w.insert-else-hole-n.ensures.holes ∙ sym (with_right d c.args.hole.0 c.args.hole.1 w.if-hole-n.false))
    ] in
    c.balance.ensures.holes ∙ new ∙ sym (ap (with_hole c.args.hole) o.whole)
