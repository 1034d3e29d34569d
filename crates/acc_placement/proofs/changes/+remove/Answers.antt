use Rattle.std.proofs.Common.{◌≡◌, ◌∷◌, ◌++◌, ◌^◌, ℕ, List, arith, sym, ap, ◌∙◌}
use Rattle.acc_placement.specs.Shape.{Shape}
use Rattle.acc_placement.specs.Listing.{at_place, without_place}
use Rattle.acc_placement.specs.Nodes.{holes_in, tree_of}
use Rattle.acc_placement.proofs.Steps.{at_left, at_right, without_left, without_right, taken_out}
use Rattle.acc_placement.proofs.Opened.{IsOpened, opened}
use Rattle.acc_placement.proofs.changes.+remove.Goals as goal
use Rattle.acc_placement.proofs.changes.+remove.Goals.{then-place-here-2, else-place-here-2}

pub remove-freed-requires : goal.remove-freed-requires
remove-freed-requires t c =
    let n = c.n.inside in
    let o : IsOpened c.args.tree.now n = opened c.args.tree.now c.in-Some.top n (sym c.take.ensures.value ∙ c.in-Some.is) (c.n.view_is ∙ c.deref_mut-n.ensures.value) in
    let d = o.sides c.requires.rising in
    let at = ap (at_place c.args.place) o.whole ∙ at_left d c.args.place c.if-place-here-2.true in
    (omega (arith, c.n.invariant.left.height_is, o.high_is), (c.n.invariant.left.is_tree, (omega (arith, c.n.invariant.left.height_is, o.high_is, c.requires.limit), (d.left, rw at at c.requires.there))))

pub remove-freed-requires-else-place-here-2 : goal.remove-freed-requires-else-place-here-2
remove-freed-requires-else-place-here-2 t c =
    let n = c.n.inside in
    let o : IsOpened c.args.tree.now n = opened c.args.tree.now c.in-Some.top n (sym c.take.ensures.value ∙ c.in-Some.is) (c.n.view_is ∙ c.deref_mut-n.ensures.value) in
    let d = o.sides c.requires.rising in
    let at = ap (at_place c.args.place) o.whole ∙ at_right d c.args.place (omega arith) in
    (omega (arith, c.n.invariant.right.height_is, o.high_is), (c.n.invariant.right.is_tree, (omega (arith, c.n.invariant.right.height_is, o.high_is, c.requires.limit), (d.right, rw at at c.requires.there))))

pub returns-clause-holes : goal.returns-clause-holes
returns-clause-holes t c =
    let n = c.n.inside in
    let x : ℕ × ℕ = (n.place, n.size) in
    let o : IsOpened c.args.tree.now n = opened c.args.tree.now c.in-Some.top n (sym c.take.ensures.value ∙ c.in-Some.is) (c.n.view_is ∙ c.deref_mut-n.ensures.value) in
    let d = o.sides c.requires.rising in
    let new : c.if-place-here-2.top.value.holes ≡ without_place c.args.place (tree_of n) = elim c.if-place-here-2.branch [
      | then-place-here-2 w ↦ rw w.top-is (ap (λ (k : List (ℕ × ℕ)). k ++ x ∷ holes_in n.right) w.remove-freed.ensures.holes ∙ sym (without_left d c.args.place w.if-place-here-2.true))
      | else-place-here-2 w ↦ rw w.top-is (ap (λ (k : List (ℕ × ℕ)). holes_in n.left ++ x ∷ k) w.remove-freed-else-place-here-2.ensures.holes ∙ sym (without_right d c.args.place (omega arith)))
    ] in
    c.balance.ensures.holes ∙ new ∙ sym (ap (without_place c.args.place) o.whole)

pub returns-then-place-here-clause-holes : goal.returns-then-place-here-clause-holes
returns-then-place-here-clause-holes t c =
    let o : IsOpened c.args.tree.now c.n.inside = opened c.args.tree.now c.in-Some.top c.n.inside (sym c.take.ensures.value ∙ c.in-Some.is) (c.n.view_is ∙ c.deref_mut-n.ensures.value) in
    let e = c.split-left.ensures in
    let here : e.leaf.hole.0 ≡ c.args.place = omega (arith, e.leaf.place, e.place, ap (λ (s : Shape). s.place) c.n.view_is, c.if-place-here.true) in
    c.merge.ensures.holes ∙ sym (taken_out c.args.place (holes_in c.args.tree.now) (holes_in c.split-left.result.0) c.split-left.result.1.value.holes (holes_in c.split-left.result.2) e.leaf.hole 0 (2 ^ 41) c.requires.rising (o.whole ∙ ap (λ (s : Shape). s.holes) c.n.view_is ∙ e.holes) e.leaf.holes here)
