-- The fields of a node.
use Rattle.std.specs.Prelude.{ℕ, ◌≡◌, ◌+◌, ◌*◌, ◌^◌, ◌<◌, ◌≤◌, max, List, [], ◌∷◌, ◌++◌, length, Option, Some, None, Box}
use Rattle.std.specs.declared.alloc.Global.{Global}
use Rattle.acc_base.specs.Holes.{greatest}
use Rattle.acc_placement.specs.Shape.{Shape}
use Rattle.acc_placement.specs.declared.nodes.Node.TheInside.{Inside}

-- the height of the tree that begins at a node
abbrev pub high : Shape → ℕ
high s = max s.left s.right + 1

-- the sides differ in height by one at most
abbrev pub IsEven : Shape → Type 0
IsEven s = (s.left ≤ s.right + 1) × (s.right ≤ s.left + 1)

abbrev pub holes_in : Option (Box Shape Global) → List (ℕ × ℕ)
holes_in None = []
holes_in (Some b) = b.value.holes

abbrev pub height_of : Option (Box Shape Global) → ℕ
height_of None = 0
height_of (Some b) = high b.value

-- how many nodes a chain has
abbrev pub length_of : Option (Box Shape Global) → ℕ
length_of None = 0
length_of (Some b) = b.value.behind + 1

-- a tree hangs in no chain, and its sides are even
abbrev pub IsTree : Option (Box Shape Global) → Type 0
IsTree None = Unit {0}
IsTree (Some b) = (b.value.behind ≡ 0) × IsEven b.value

-- a node of a chain has no subtrees
abbrev pub IsChain : Option (Box Shape Global) → Type 0
IsChain None = Unit {0}
IsChain (Some b) = (length b.value.holes ≡ 1) × (high b.value ≡ 1)

-- a tree so high has at least so many nodes
abbrev pub IsTall : ℕ → ℕ → Type 0
IsTall h n = (k : ℕ) → 2 * k ≤ h + 1 → 2 ^ k ≤ n + 1

abbrev pub tree_of : Inside → List (ℕ × ℕ)
tree_of n = holes_in n.left ++ (n.place, n.size) ∷ holes_in n.right

abbrev pub shape_of : Inside → Shape
shape_of n = record { holes = tree_of n; place = n.place; left = n.height_left; right = n.height_right; behind = length_of n.next }

-- what a node keeps of the tree on one side
pub record IsSide (tree : Option (Box Shape Global)) (g h : ℕ) : Type 0 where
  pub is_tree : IsTree tree
  pub greatest_is : g ≡ greatest (holes_in tree)
  pub height_is : h ≡ height_of tree
  pub tall : IsTall (height_of tree) (length (holes_in tree))

pub record IsNodeSound (n : Inside) : Type 0 where
  pub left : IsSide n.left n.greatest_left n.height_left
  pub right : IsSide n.right n.greatest_right n.height_right
  pub chain : IsChain n.next
  pub not_left : n.height_left ≤ n.height_right + 2
  pub not_right : n.height_right ≤ n.height_left + 2
  pub low : max n.height_left n.height_right < 2 ^ 31

-- a node alone, without subtrees
pub record IsLeaf (s : Shape) : Type 0 where
  pub hole : ℕ × ℕ
  pub holes : s.holes ≡ hole ∷ []
  pub place : s.place ≡ hole.0
  pub left : s.left ≡ 0
  pub right : s.right ≡ 0
  pub alone : s.behind ≡ 0

-- the height of a tree that lost a node, or none
abbrev pub IsLowered : ℕ → ℕ → Type 0
IsLowered old new = (new ≤ old) × (old ≤ new + 1)
