-- Bytes cut in two. No public clause cites this module.
use Rattle.std.specs.Prelude.{ℕ, List, ◌≡◌, ◌<◌, take, drop, Option, MatchOption}
use Rattle.std.specs.Borrow.{MutBor}

-- the first bytes and those after them, where that many are more than none
abbrev pub IsCut : ℕ → List ℕ → Option (MutBor (List ℕ) × MutBor (List ℕ)) → Type 0
IsCut len bytes pair = MatchOption pair (len ≡ 0) (λ p. (p.0.now ≡ take len bytes) × (p.1.now ≡ drop len bytes) × (0 < len))
