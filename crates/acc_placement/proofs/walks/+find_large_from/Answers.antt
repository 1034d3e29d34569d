use Rattle.std.proofs.Common.{◌≡◌, ◌∷◌, ◌++◌, ◌^◌, ℕ, arith, sym, ap, ◌∙◌, None}
use Rattle.acc_placement.specs.Listing.{first_large_from}
use Rattle.acc_placement.specs.Nodes.{holes_in}
use Rattle.acc_placement.proofs.Fronts.{large_from_none, large_from_right, large_from_found, large_from_missed, large_from_here, large_from_behind}
use Rattle.acc_placement.proofs.Opened.{IsOpened, opened}
use Rattle.acc_placement.proofs.walks.+find_large_from.Goals as goal
use Rattle.acc_placement.proofs.walks.+find_large_from.Goals.{then-place-node+else-node-size, then-size-node+else-is_some, else-size-node, else-place-node}

pub find_large_from-found-requires : goal.find_large_from-found-requires
find_large_from-found-requires t c =
    let o : IsOpened c.args.tree.now c.node.inside = opened c.args.tree.now c.in-Some.node c.node.inside c.in-Some.is (c.node.view_is ∙ c.deref-node.ensures) in
    (omega (arith, c.node.invariant.left.height_is, o.high_is), (c.requires.some, (o.sides c.requires.rising).left))

pub find_large_from-requires : goal.find_large_from-requires
find_large_from-requires t c =
    let o : IsOpened c.args.tree.now c.node.inside = opened c.args.tree.now c.in-Some.node c.node.inside c.in-Some.is (c.node.view_is ∙ c.deref-node.ensures) in
    (omega (arith, c.node.invariant.right.height_is, o.high_is), (c.requires.some, (o.sides c.requires.rising).right))

pub returns-then-is_some : goal.returns-then-is_some
returns-then-is_some t c =
    let n = c.node.inside in
    let o : IsOpened c.args.tree.now n = opened c.args.tree.now c.in-Some.node n c.in-Some.is (c.node.view_is ∙ c.deref-node.ensures) in
    large_from_found c.args.size (holes_in n.left) (n.place, n.size) (holes_in n.right) c.args.place c.find_large_from-found.result (sym c.is_some.ensures ∙ c.if-is_some.true) c.find_large_from-found.ensures ∙ sym (ap (first_large_from c.args.place c.args.size) o.whole)

pub returns-then-node-size : goal.returns-then-node-size
returns-then-node-size t c =
    let n = c.node.inside in
    let l = holes_in n.left in
    let x : ℕ × ℕ = (n.place, n.size) in
    let r = holes_in n.right in
    let o : IsOpened c.args.tree.now n = opened c.args.tree.now c.in-Some.node n c.in-Some.is (c.node.view_is ∙ c.deref-node.ensures) in
    let none : first_large_from c.args.place c.args.size l ≡ None = elim c.if-size-node.branch [
      | then-size-node+else-is_some v ↦ large_from_missed c.args.size l x r c.args.place v.find_large_from-found.result (sym v.is_some.ensures ∙ v.if-is_some.false) v.find_large_from-found.ensures
      | else-size-node v ↦ large_from_none c.args.place c.args.size l (omega (arith, v.if-size-node.false, c.node.invariant.left.greatest_is))
    ] in
    sym (ap (first_large_from c.args.place c.args.size) o.whole ∙ large_from_here c.args.size l x r c.args.place none c.if-place-node.true c.if-node-size.true)

pub returns-then-size-node-2 : goal.returns-then-size-node-2
returns-then-size-node-2 t c =
    let n = c.node.inside in
    let l = holes_in n.left in
    let x : ℕ × ℕ = (n.place, n.size) in
    let r = holes_in n.right in
    let o : IsOpened c.args.tree.now n = opened c.args.tree.now c.in-Some.node n c.in-Some.is (c.node.view_is ∙ c.deref-node.ensures) in
    let rest : first_large_from c.args.place c.args.size (l ++ x ∷ r) ≡ first_large_from c.args.place c.args.size r = elim c.if-place-node.branch [
      | then-place-node+else-node-size w ↦ large_from_behind c.args.size l x r c.args.place (elim w.if-size-node.branch [
        | then-size-node+else-is_some v ↦ large_from_missed c.args.size l x r c.args.place v.find_large_from-found.result (sym v.is_some.ensures ∙ v.if-is_some.false) v.find_large_from-found.ensures
        | else-size-node v ↦ large_from_none c.args.place c.args.size l (omega (arith, v.if-size-node.false, c.node.invariant.left.greatest_is))
      ]) w.if-place-node.true w.if-node-size.false
      | else-place-node w ↦ large_from_right c.args.size l x r c.args.place 0 (2 ^ 41) w.if-place-node.false (o.sides c.requires.rising)
    ] in
    c.find_large_from.ensures ∙ sym (ap (first_large_from c.args.place c.args.size) o.whole ∙ rest)

pub returns-else-size-node-2 : goal.returns-else-size-node-2
returns-else-size-node-2 t c =
    let n = c.node.inside in
    let l = holes_in n.left in
    let x : ℕ × ℕ = (n.place, n.size) in
    let r = holes_in n.right in
    let o : IsOpened c.args.tree.now n = opened c.args.tree.now c.in-Some.node n c.in-Some.is (c.node.view_is ∙ c.deref-node.ensures) in
    let rest : first_large_from c.args.place c.args.size (l ++ x ∷ r) ≡ first_large_from c.args.place c.args.size r = elim c.if-place-node.branch [
      | then-place-node+else-node-size w ↦ large_from_behind c.args.size l x r c.args.place (elim w.if-size-node.branch [
        | then-size-node+else-is_some v ↦ large_from_missed c.args.size l x r c.args.place v.find_large_from-found.result (sym v.is_some.ensures ∙ v.if-is_some.false) v.find_large_from-found.ensures
        | else-size-node v ↦ large_from_none c.args.place c.args.size l (omega (arith, v.if-size-node.false, c.node.invariant.left.greatest_is))
      ]) w.if-place-node.true w.if-node-size.false
      | else-place-node w ↦ large_from_right c.args.size l x r c.args.place 0 (2 ^ 41) w.if-place-node.false (o.sides c.requires.rising)
    ] in
    sym (ap (first_large_from c.args.place c.args.size) o.whole ∙ rest ∙ large_from_none c.args.place c.args.size r (omega (arith, c.if-size-node-2.false, c.node.invariant.right.greatest_is)))
