-- What a node is seen as.
use Rattle.std.specs.Prelude.{ℕ, List}

pub record Shape : Type 0 where
  -- the holes of the tree that begins here, by rising place
  pub holes : List (ℕ × ℕ)
  -- the place of its own hole
  pub place : ℕ
  -- the height of the tree on each side
  pub left : ℕ
  pub right : ℕ
  -- how many nodes hang behind this one in a chain
  pub behind : ℕ
