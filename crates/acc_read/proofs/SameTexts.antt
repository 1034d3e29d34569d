-- Texts that are compared byte by byte.
use Rattle.std.proofs.Common.{◌≡◌, ◌≢◌, ℕ, suc, ◌+◌, ◌<◌, ◌≤◌, slice_index, Bool, true, false, ◌&&◌, List, [], ◌∷◌, length, drop, refl, sym, ap, ◌∙◌, arith, nat_eq}
use Rattle.std.specs.Str.{bytes_eq}
use Rattle.std.proofs.lemmas.List.{drop_more, drop_all}
use Rattle.std.proofs.lemmas.Bool.{eq-eqb, ne_eqb}

-- what is left of two texts is compared as both are
abbrev pub SameSoFar : (word text : List ℕ) (i : ℕ) → Type 0
SameSoFar word text i = bytes_eq word text ≡ bytes_eq (drop i word) (drop i text)

byte_step : (word text : List ℕ) (i : ℕ) → i < length word → i < length text
    → bytes_eq (drop i word) (drop i text) ≡ (nat_eq (slice_index word i) (slice_index text i) && bytes_eq (drop (i + 1) word) (drop (i + 1) text))
byte_step word text i lt less = rw (drop_more word i 0 lt, drop_more text i 0 less) refl

-- texts of other lengths are not the same
pub other_len : (word text : List ℕ) → length word ≢ length text → false ≡ bytes_eq word text
other_len [] [] other = absurd (other refl)
other_len [] (c ∷ text) other = refl
other_len (b ∷ word) [] other = refl
other_len (b ∷ word) (c ∷ text) other =
    by (nat_eq b c) (other_len word text (λ same. other (ap suc same)))
  where
    by : (here : Bool) → false ≡ bytes_eq word text → false ≡ (here && bytes_eq word text)
    by true e = e
    by false e = refl

-- nor are those where a byte is another
pub other_byte : (word text : List ℕ) (i : ℕ) → i < length word → length word ≡ length text → SameSoFar word text i
    → slice_index word i ≢ slice_index text i → false ≡ bytes_eq word text
other_byte word text i lt long left other =
    sym (left ∙ byte_step word text i lt (omega (arith, long)) ∙ ap (λ b. b && bytes_eq (drop (i + 1) word) (drop (i + 1) text)) (ne_eqb (slice_index word i) (slice_index text i) other))

-- a byte that is the same leaves it to the others
pub same_byte : (word text : List ℕ) (i : ℕ) → i < length word → length word ≡ length text → SameSoFar word text i
    → slice_index word i ≡ slice_index text i → SameSoFar word text (i + 1)
same_byte word text i lt long left same =
    left ∙ byte_step word text i lt (omega (arith, long)) ∙ ap (λ b. b && bytes_eq (drop (i + 1) word) (drop (i + 1) text)) (eq-eqb (slice_index word i) (slice_index text i) same)

-- texts whose bytes are all the same are
pub same_text : (word text : List ℕ) (i : ℕ) → length word ≤ i → length word ≡ length text → SameSoFar word text i
    → true ≡ bytes_eq word text
same_text word text i le long left =
    let less : length text ≤ i = omega (arith, long, le) in
    sym (left ∙ rw (drop_all i word le, drop_all i text less) refl)

-- what is known of a text that is compared
pub ruleset text_laws = (other_len, other_byte, same_byte, same_text)
