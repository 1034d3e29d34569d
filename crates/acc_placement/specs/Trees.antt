-- What the fields of a tree stand for, and what holds of them.
use Rattle.std.specs.Prelude.{◌≡◌, ◌+◌, ◌^◌, ◌<◌, length}
use Rattle.acc_base.specs.Holes.{IsRising}
use Rattle.acc_placement.specs.Listing.{Listing}
use Rattle.acc_placement.specs.Nodes.{holes_in, length_of, IsTree, IsChain}
use Rattle.acc_placement.specs.declared.tree.Tree.TheInside.{Inside}

-- the holes in the tree, and the nodes of the chain
abbrev pub listing_of : Inside → Listing
listing_of t = record { holes = holes_in t.root; room = length_of t.spare }

-- the holes rise, and the counts are those of the nodes
pub record IsTreeSound (t : Inside) : Type 0 where
  pub rising : IsRising 0 (holes_in t.root) (2 ^ 41)
  pub is_tree : IsTree t.root
  pub chain : IsChain t.spare
  pub len : t.len ≡ length (holes_in t.root)
  pub nodes : t.nodes ≡ length (holes_in t.root) + length_of t.spare
  pub limit : t.nodes < 2 ^ 64
