-- How the next part is taken. No public clause cites this module.
use Rattle.std.specs.Prelude.{ℕ, List, ◌≡◌, ◌+◌, ◌<◌, ◌≤◌, length, sum, All, Option, None, MatchOption, IfSome}
use Rattle.std.specs.Borrow.{MutBor}
use Rattle.acc_base.specs.declared.addresses.TheConstants.{MEMORY_MAX}
use Rattle.acc_lend.specs.declared.taking.Parts.{Parts}
use Rattle.acc_lend.specs.Parts.{bytes_left, cuts_left, next_place}

-- after a part of this length at this place the rest can be cut into parts of these lengths
abbrev pub HasLater : ℕ → ℕ → List ℕ → Option (MutBor (List ℕ) × MutBor (List ℕ)) → Type 0
HasLater at len later pair = IfSome pair (λ p. (at + len + length p.1.now ≤ MEMORY_MAX) × (sum later ≡ length p.1.now) × All (λ n. 0 < n) later)

-- the first of the pair as a part at this place, and the second as the parts after it
abbrev pub IsHanded : ℕ → ℕ → List ℕ → Option (MutBor (List ℕ) × MutBor (List ℕ)) → Option (ℕ × MutBor (List ℕ) × Parts) → Type 0
IsHanded at len later pair next = MatchOption pair (next ≡ None) (λ p. MatchOption next ⊥ (λ q. (q.0 ≡ at) × (q.1.now ≡ p.0.now) × (bytes_left q.2 ≡ p.1.now) × (cuts_left q.2 ≡ later) × (next_place q.2 ≡ at + len)))
