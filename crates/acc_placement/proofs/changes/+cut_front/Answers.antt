use Rattle.std.proofs.Common.{◌≤◌, ◌∷◌, ◌++◌, ℕ, List, arith, sym, ap, subst, ◌∙◌}
use Rattle.acc_base.specs.Holes.{greatest}
use Rattle.acc_placement.specs.Listing.{first_large, without_front}
use Rattle.acc_placement.specs.Nodes.{holes_in, tree_of}
use Rattle.acc_placement.proofs.Tall.{greatest-append}
use Rattle.acc_placement.proofs.Fronts.{large_left, large_here, large_right, front_left, front_cut, front_right}
use Rattle.acc_placement.proofs.Opened.{IsOpened, opened}
use Rattle.acc_placement.proofs.changes.+cut_front.Goals as goal

pub cut_front-hole-requires : goal.cut_front-hole-requires
cut_front-hole-requires t c =
    let n = c.node.inside in
    let o : IsOpened c.args.tree.now n = opened c.args.tree.now c.in-Some.node n c.in-Some.is (c.node.view_is ∙ c.deref_mut-node.ensures.value) in
    (omega (arith, c.node.invariant.left.height_is, o.high_is), (c.node.invariant.left.is_tree, ((o.sides c.requires.rising).left, (c.requires.some, omega (arith, c.node.invariant.left.greatest_is)))))

pub cut_front-hole-requires-then-node-size-2 : goal.cut_front-hole-requires-then-node-size-2
cut_front-hole-requires-then-node-size-2 t c =
    let n = c.node.inside in
    let o : IsOpened c.args.tree.now n = opened c.args.tree.now c.in-Some.node n c.in-Some.is (c.node.view_is ∙ c.deref_mut-node.ensures.value) in
    let fits : c.args.size ≤ greatest (tree_of n) = subst (λ (hs : List (ℕ × ℕ)). c.args.size ≤ greatest hs) o.whole c.requires.fits in
    (omega (arith, c.node.invariant.right.height_is, o.high_is), (c.node.invariant.right.is_tree, ((o.sides c.requires.rising).right, (c.requires.some, omega (arith, fits, c.node.invariant.left.greatest_is, greatest-append (holes_in n.left) (n.place, n.size) (holes_in n.right))))))

pub overflow_add-node : goal.overflow_add-node
overflow_add-node t c =
    let n = c.node.inside in
    let o : IsOpened c.args.tree.now n = opened c.args.tree.now c.in-Some.node n c.in-Some.is (c.node.view_is ∙ c.deref_mut-node.ensures.value) in
    omega (arith, (o.sides c.requires.rising).last)

pub returns-then-node-size-clause-hole : goal.returns-then-node-size-clause-hole
returns-then-node-size-clause-hole t c =
    let n = c.node.inside in
    let o : IsOpened c.args.tree.now n = opened c.args.tree.now c.in-Some.node n c.in-Some.is (c.node.view_is ∙ c.deref_mut-node.ensures.value) in
    ap (first_large c.args.size) o.whole ∙ large_left c.args.size (holes_in n.left) (n.place, n.size) (holes_in n.right) c.requires.some (omega (arith, c.node.invariant.left.greatest_is)) ∙ c.cut_front-hole.ensures.hole

pub returns-then-node-size-clause-cut : goal.returns-then-node-size-clause-cut
returns-then-node-size-clause-cut t c =
    let n = c.node.inside in
    let x : ℕ × ℕ = (n.place, n.size) in
    let o : IsOpened c.args.tree.now n = opened c.args.tree.now c.in-Some.node n c.in-Some.is (c.node.view_is ∙ c.deref_mut-node.ensures.value) in
    λ more. ap (λ (k : List (ℕ × ℕ)). k ++ x ∷ holes_in n.right) (c.cut_front-hole.ensures.cut more) ∙ sym (ap (without_front c.args.size) o.whole ∙ front_left c.args.size (holes_in n.left) (x ∷ holes_in n.right) c.requires.some (omega (arith, c.node.invariant.left.greatest_is)))

pub returns-then-node-size-2-clause-hole : goal.returns-then-node-size-2-clause-hole
returns-then-node-size-2-clause-hole t c =
    let n = c.node.inside in
    let o : IsOpened c.args.tree.now n = opened c.args.tree.now c.in-Some.node n c.in-Some.is (c.node.view_is ∙ c.deref_mut-node.ensures.value) in
    ap (first_large c.args.size) o.whole ∙ large_right c.args.size (holes_in n.left) (n.place, n.size) (holes_in n.right) (omega (arith, c.node.invariant.left.greatest_is)) c.if-node-size-2.true ∙ c.cut_front-hole-then-node-size-2.ensures.hole

pub returns-then-node-size-2-clause-cut : goal.returns-then-node-size-2-clause-cut
returns-then-node-size-2-clause-cut t c =
    let n = c.node.inside in
    let x : ℕ × ℕ = (n.place, n.size) in
    let o : IsOpened c.args.tree.now n = opened c.args.tree.now c.in-Some.node n c.in-Some.is (c.node.view_is ∙ c.deref_mut-node.ensures.value) in
    λ more. ap (λ (k : List (ℕ × ℕ)). holes_in n.left ++ x ∷ k) (c.cut_front-hole-then-node-size-2.ensures.cut more) ∙ sym (ap (without_front c.args.size) o.whole ∙ front_right c.args.size (holes_in n.left) x (holes_in n.right) (omega (arith, c.node.invariant.left.greatest_is)) c.if-node-size-2.true)

pub returns-then-node-size-3-clause-hole : goal.returns-then-node-size-3-clause-hole
returns-then-node-size-3-clause-hole t c =
    let n = c.node.inside in
    let o : IsOpened c.args.tree.now n = opened c.args.tree.now c.in-Some.node n c.in-Some.is (c.node.view_is ∙ c.deref_mut-node.ensures.value) in
    ap (first_large c.args.size) o.whole ∙ large_here c.args.size (holes_in n.left) (n.place, n.size) (holes_in n.right) (omega (arith, c.node.invariant.left.greatest_is)) c.if-node-size-2.false

pub returns-else-node-size-3-clause-hole : goal.returns-else-node-size-3-clause-hole
returns-else-node-size-3-clause-hole t c =
    let n = c.node.inside in
    let o : IsOpened c.args.tree.now n = opened c.args.tree.now c.in-Some.node n c.in-Some.is (c.node.view_is ∙ c.deref_mut-node.ensures.value) in
    ap (first_large c.args.size) o.whole ∙ large_here c.args.size (holes_in n.left) (n.place, n.size) (holes_in n.right) (omega (arith, c.node.invariant.left.greatest_is)) c.if-node-size-2.false

pub returns-then-node-size-3-clause-cut : goal.returns-then-node-size-3-clause-cut
returns-then-node-size-3-clause-cut t c =
    let n = c.node.inside in
    let o : IsOpened c.args.tree.now n = opened c.args.tree.now c.in-Some.node n c.in-Some.is (c.node.view_is ∙ c.deref_mut-node.ensures.value) in
    λ more. sym (ap (without_front c.args.size) o.whole ∙ front_cut c.args.size (holes_in n.left) (n.place, n.size) (holes_in n.right) (omega (arith, c.node.invariant.left.greatest_is)) more)
