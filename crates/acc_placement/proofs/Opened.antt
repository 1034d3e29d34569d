-- The node at the top of a tree: what its fields are of the tree, and what it is once they have changed.
use Rattle.std.proofs.Common.{ℕ, ◌≡◌, ◌+◌, ◌^◌, ◌≤◌, refl, sym, ap, subst, ◌∙◌, Bool, true, false, cond, List, [], ◌∷◌, length, Option, Some, IsSome, Box, max, arith}
use Rattle.std.specs.Prelude.{◌==◌, IfSome}
use Rattle.std.specs.declared.alloc.Global.{Global}
use Rattle.std.proofs.lemmas.Bool.Decides.{nat_tests}
use Rattle.acc_base.specs.Holes.{IsRising, greatest}
use Rattle.acc_placement.specs.Shape.{Shape}
use Rattle.acc_placement.specs.Listing.{at_place, with_hole_moved}
use Rattle.acc_placement.specs.Nodes.{holes_in, height_of, length_of, high, tree_of, shape_of, IsTree, IsEven, IsSide}
use Rattle.acc_placement.specs.declared.nodes.Node.TheInside.{Inside}
use Rattle.acc_placement.proofs.Steps.{Sides, sides, same_over}

-- the fields of the node at the top of a tree
pub record IsOpened (tree : Option (Box Shape Global)) (n : Inside) : Type 0 where
  pub whole : holes_in tree ≡ tree_of n
  pub high_is : height_of tree ≡ high (shape_of n)
  pub alone : IsTree tree → length_of n.next ≡ 0
  pub even : IsTree tree → IsEven (shape_of n)
  pub sides : IsRising 0 (holes_in tree) (2 ^ 41) → Sides 0 (holes_in n.left) (n.place, n.size) (holes_in n.right) (2 ^ 41)

pub opened : (tree : Option (Box Shape Global)) (b : Box Shape Global) (n : Inside) → tree ≡ Some b → shape_of n ≡ b.value → IsOpened tree n
opened tree b n is view =
    let whole : holes_in tree ≡ tree_of n = ap holes_in is ∙ sym (ap (λ (s : Shape). s.holes) view) in
    record {
      whole = whole;
      high_is = ap height_of is ∙ sym (ap high view);
      alone = λ t. ap (λ (s : Shape). s.behind) view ∙ (rw is at t).0;
      even = λ t. subst (λ (s : Shape). IsEven s) (sym view) (rw is at t).1;
      sides = λ rising. sides 0 (holes_in n.left) (n.place, n.size) (holes_in n.right) (2 ^ 41) (subst (λ (hs : List (ℕ × ℕ)). IsRising 0 hs (2 ^ 41)) whole rising);
    }

-- ---- a side in which a hole grows

pub length-with_hole_moved : (place to size : ℕ) (hs : List (ℕ × ℕ)) → length (with_hole_moved place to size hs) ≡ length hs
length-with_hole_moved place to size [] = refl
length-with_hole_moved place to size (h ∷ hs) = omega (arith, length-with_hole_moved place to size hs)

greatest-with_hole_moved : (place to size low : ℕ) (hs : List (ℕ × ℕ)) (high : ℕ) → IsRising low hs high → IsSome (at_place place hs) → IfSome (at_place place hs) (λ h. h.1 ≤ size) → greatest (with_hole_moved place to size hs) ≡ max (greatest hs) size
greatest-with_hole_moved place to size low [] high s there le = cc
greatest-with_hole_moved place to size low (h ∷ hs) high s there le = go (λ u v. greatest-with_hole_moved place to size (h.0 + h.1 + 1) hs high s.3 u v) (h.0 == place) refl there le
  where
    go : (IsSome (at_place place hs) → IfSome (at_place place hs) (λ g. g.1 ≤ size) → greatest (with_hole_moved place to size hs) ≡ max (greatest hs) size) → (b : Bool) → (h.0 == place) ≡ b → IsSome (cond b (Some h) (at_place place hs)) → IfSome (cond b (Some h) (at_place place hs)) (λ g. g.1 ≤ size) → max (cond b (to, size) h).1 (greatest (with_hole_moved place to size hs)) ≡ max (max h.1 (greatest hs)) size
    go rest true t some fits = let same : with_hole_moved place to size hs ≡ hs = same_over place to size h hs (grind (arith, nat_tests)) (sides low [] h hs high s).over in rw same (omega arith)
    go rest false t some fits = omega (arith, rest some fits)

pub side_grown : (old new : Option (Box Shape Global)) (g h place to size : ℕ) → IsSide old g h → IsRising 0 (holes_in old) (2 ^ 41) → IsSome (at_place place (holes_in old)) → IfSome (at_place place (holes_in old)) (λ k. k.1 ≤ size) → holes_in new ≡ with_hole_moved place to size (holes_in old) → IsTree new → height_of new ≡ height_of old → IsSide new (max g size) h
side_grown old new g h place to size side rising there le is is_tree high =
    record {
      is_tree = is_tree;
      greatest_is = omega (arith, side.greatest_is, ap greatest is, greatest-with_hole_moved place to size 0 (holes_in old) (2 ^ 41) rising there le);
      height_is = side.height_is ∙ sym high;
      tall = rw (high, is, length-with_hole_moved place to size (holes_in old)) side.tall;
    }
