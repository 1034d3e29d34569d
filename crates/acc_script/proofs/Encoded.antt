-- The digits of bytes, piece by piece.
use Rattle.std.proofs.Common.{◌≡◌, ℕ, ◌+◌, List, [], ◌∷◌, ◌++◌, take, drop, refl, sym, ap, ◌∙◌}
use Rattle.std.proofs.lemmas.List.{take-append-drop, drop-drop}
use Rattle.hex.specs.Hex.{encode_with, encode_lower, lower_digits}

-- the digits of two lists of bytes, one behind the other
encode_with-append : (table xs ys : List ℕ)
    → encode_with table (xs ++ ys) ≡ encode_with table xs ++ encode_with table ys
unfolding encode_with
encode_with-append table [] ys = refl
encode_with-append table (x ∷ xs) ys = rw (encode_with-append table xs ys) refl

-- the digits from a byte on are those of a piece, and those behind it
pub digits_turn : (bytes rest piece : List ℕ) (at n : ℕ) → rest ≡ drop at bytes → piece ≡ take n rest
    → encode_lower (drop at bytes) ≡ encode_lower piece ++ encode_lower (drop (at + n) bytes)
digits_turn bytes rest piece at n r e =
    let part : piece ≡ take n (drop at bytes) = e ∙ ap (take n) r in
    let split : drop at bytes ≡ piece ++ drop (at + n) bytes = sym (take-append-drop n (drop at bytes)) ∙ ap (λ (x : List ℕ). x ++ drop n (drop at bytes)) (sym part) ∙ ap (λ (x : List ℕ). piece ++ x) (drop-drop n at bytes) in
    ap encode_lower split ∙ encode_with-append lower_digits piece (drop (at + n) bytes)
