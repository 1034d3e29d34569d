-- How many nodes a balanced tree has at least, how high it is at most, and what a node says of its whole tree.
use Rattle.std.proofs.Common.{◌≡◌, ℕ, zero, suc, ◌+◌, ◌*◌, ◌^◌, ◌<◌, ◌≤◌, List, [], ◌∷◌, ◌++◌, length, length-append, inl, inr, arith, max}
use Rattle.std.proofs.Math.Nat.{pow-suc}
use Rattle.std.proofs.lemmas.Bool.{cases_lt}
use Rattle.std.proofs.lemmas.Nat.{pow_pos}
use Rattle.acc_base.specs.Holes.{greatest}
use Rattle.acc_placement.specs.Nodes.{holes_in, height_of, high, tree_of, shape_of, IsTall, IsEven, IsNodeSound}
use Rattle.acc_placement.specs.declared.nodes.Node.TheInside.{Inside}

tall_join : (hl hr nl nr : ℕ) → IsTall hl nl → IsTall hr nr → hl ≤ hr + 1 → hr ≤ hl + 1 → IsTall (max hl hr + 1) (nl + (nr + 1))
tall_join hl hr nl nr a b p q zero le = omega (arith, pow_pos 0)
tall_join hl hr nl nr a b p q (suc k) le =
    let x = a k (omega arith) in
    let y = b k (omega arith) in
    omega (arith, pow-suc 2 k)

-- the height is at most twice the number of binary digits of the number of nodes
pub height_le : (h n d : ℕ) → IsTall h n → n < 2 ^ d → h ≤ 2 * d
height_le h n d tall less = elim (cases_lt (2 * d) h) [
  | inl more ↦ let x = tall (suc d) (omega arith) in absurd (omega (arith, pow-suc 2 d, pow_pos d))
  | inr le ↦ le
]

-- a tree of fewer than 2^64 nodes is not high
pub low : (h n : ℕ) → IsTall h n → n < 2 ^ 64 → h ≤ 128
low h n tall less = height_le h n 64 tall less

pub greatest-append : (l : List (ℕ × ℕ)) (x : ℕ × ℕ) (r : List (ℕ × ℕ)) → greatest (l ++ x ∷ r) ≡ max (max (greatest l) (greatest r)) x.1
greatest-append [] x r = omega arith
greatest-append (h ∷ l) x r = omega (arith, greatest-append l x r)

-- what a node says of its whole tree
pub tall_of : (n : Inside) → IsNodeSound n → IsEven (shape_of n) → IsTall (high (shape_of n)) (length (tree_of n))
tall_of n s even =
    let long : length (tree_of n) ≡ length (holes_in n.left) + (length (holes_in n.right) + 1) = omega (arith, length-append (holes_in n.left) ((n.place, n.size) ∷ holes_in n.right)) in
    rw (long, s.left.height_is, s.right.height_is) (tall_join (height_of n.left) (height_of n.right) (length (holes_in n.left)) (length (holes_in n.right)) s.left.tall s.right.tall (omega (arith, even.0, s.left.height_is, s.right.height_is)) (omega (arith, even.1, s.left.height_is, s.right.height_is)))

pub greatest_of : (n : Inside) → IsNodeSound n → greatest (tree_of n) ≡ max (max n.greatest_left n.greatest_right) n.size
greatest_of n s = omega (arith, s.left.greatest_is, s.right.greatest_is, greatest-append (holes_in n.left) (n.place, n.size) (holes_in n.right))
