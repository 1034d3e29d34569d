-- Each node that hangs from a node is smaller.
use Rattle.std.specs.Prelude.{ℕ, ◌+◌, ◌≤◌, [], ◌∷◌, ◌++◌, length, Option, Some, None, Box}
use Rattle.std.specs.declared.alloc.Global.{Global}
use Rattle.std.proofs.Common.{arith, length-append}
use Rattle.acc_placement.specs.Shape.{Shape}
use Rattle.acc_placement.specs.declared.nodes.Node.TheInside.{Inside}
use Rattle.acc_placement.specs.declared.nodes.Node.TheDeep.{deep-Node}
use Rattle.acc_placement.specs.Nodes.{holes_in, length_of, IsTree, IsChain, shape_of, IsNodeSound}

parts_le : (l r n : Option (Box Shape Global)) (g h p s i j : ℕ) → IsTree l → IsTree r → IsChain n → deep-Node (record { left = l; right = r; next = n; greatest_left = g; greatest_right = h; place = p; size = s; height_left = i; height_right = j }) ≤ length (holes_in l ++ (p, s) ∷ holes_in r) + length_of n
parts_le None None None g h p s i j a b c = omega arith
parts_le None None (Some n) g h p s i j a b c = omega arith
parts_le None (Some r) None g h p s i j a b c = omega arith
parts_le None (Some r) (Some n) g h p s i j a b c = omega arith
parts_le (Some l) None None g h p s i j a b c = omega (arith, length-append l.value.holes ((p, s) ∷ []))
parts_le (Some l) None (Some n) g h p s i j a b c = omega (arith, length-append l.value.holes ((p, s) ∷ []))
parts_le (Some l) (Some r) None g h p s i j a b c = omega (arith, length-append l.value.holes ((p, s) ∷ r.value.holes))
parts_le (Some l) (Some r) (Some n) g h p s i j a b c = omega (arith, length-append l.value.holes ((p, s) ∷ r.value.holes))

pub child_le : (a : Inside) → IsNodeSound a → deep-Node a ≤ length (shape_of a).holes + (shape_of a).behind
child_le a h = parts_le a.left a.right a.next a.greatest_left a.greatest_right a.place a.size a.height_left a.height_right h.left.is_tree h.right.is_tree h.chain
