-- The first piece of an input, and the others.
use Rattle.std.proofs.Common.{◌≡◌, ℕ, suc, ◌+◌, ◌<◌, Bool, true, false, cond, List, [], ◌∷◌, length, take, drop, min, refl, ap, arith}
use Rattle.std.specs.Prelude.{not, ◌==◌, map}
use Rattle.std.specs.List.{prefix_len, onto_first}
use Rattle.std.proofs.lemmas.List.{drop-drop}
use Rattle.acc_read.specs.Lines.{pieces, without_return, lines_of}

-- how many bytes stand before the first line feed
abbrev feed_at : List ℕ → ℕ
feed_at input = prefix_len (λ b. not (b == 10)) input

-- one step of the walk, whichever byte comes first
step : (here : Bool) (b : ℕ) (bytes : List ℕ)
    → ((0 < length bytes) → pieces bytes ≡ take (feed_at bytes) bytes ∷ pieces (drop (feed_at bytes + 1) bytes))
    → cond here ([] ∷ pieces bytes) (onto_first b (pieces bytes))
    ≡ take (cond (not here) (1 + feed_at bytes) 0) (b ∷ bytes)
    ∷ pieces (drop (cond (not here) (1 + feed_at bytes) 0 + 1) (b ∷ bytes))
step true b bytes h = refl
step false b [] h = refl
step false b (c ∷ bytes) h =
    let e : 1 + feed_at (c ∷ bytes) ≡ suc (feed_at (c ∷ bytes)) = omega arith in
    let e1 : suc (feed_at (c ∷ bytes)) + 1 ≡ suc (feed_at (c ∷ bytes) + 1) = omega arith in
    rw (e, e1) (ap (onto_first b) (h (omega arith)))

-- an input as its first piece and the pieces of what follows
pub first_piece : (input : List ℕ) → 0 < length input
    → pieces input ≡ take (feed_at input) input ∷ pieces (drop (feed_at input + 1) input)
first_piece [] h = absurd (omega arith)
first_piece (b ∷ bytes) h = step (b == 10) b bytes (first_piece bytes)

-- to drop one byte at most is to drop one
drop_one : (xs : List ℕ) → drop (min (length xs) 1) xs ≡ drop 1 xs
drop_one [] = refl
drop_one (x ∷ xs) = let e : min (length (x ∷ xs)) 1 ≡ 1 = omega arith in rw e refl

-- the lines of an input are its first line and the lines of what follows
pub first_line : (input : List ℕ) → 0 < length input
    → lines_of input
    ≡ without_return (take (feed_at input) input)
    ∷ lines_of (drop (min (length (drop (feed_at input) input)) 1) (drop (feed_at input) input))
unfolding lines_of
first_line input h =
    rw (drop_one (drop (feed_at input) input), drop-drop) (ap (map without_return) (first_piece input h))
