-- The length of a number, and one more hexadecimal digit in front of those before.
use Rattle.std.proofs.Common.{◌≡◌, ℕ, zero, suc, ◌+◌, ◌-◌, ◌*◌, ◌/◌, ◌%◌, ◌^◌, ◌<◌, ◌≤◌, Bool, true, false, cond, List, [], ◌∷◌, ◌++◌, length, drop, refl, sym, ap, ◌∙◌, arith}
use Rattle.std.specs.Prelude.{◌==◌, slice_set}
use Rattle.std.specs.Fmt.{decimal, digits, digits_onto, digit_glyph}
use Rattle.std.proofs.lemmas.Fmt.{length-decimal-le}
use Rattle.std.proofs.lemmas.List.{drop-set}

-- a number has at most twenty digits
pub short_number : (n : ℕ) → n < 2 ^ 64 → length (decimal n) ≤ 20
short_number n lt = length-decimal-le 20 n (omega arith) (omega arith) lt

-- numbers below this have as many hexadecimal digits and one more at most
abbrev places : ℕ → ℕ
places zero = 16
places (suc m) = 16 * places m

-- digits in front of a text make it longer by no more than a number has
short_onto : (m k n : ℕ) (text : List ℕ) → n < places m → length (digits_onto k 16 false n text) ≤ (m + 1) + length text
short_onto m zero n text lt = omega arith
short_onto zero (suc k) n text lt =
    let z : n / 16 ≡ 0 = omega (arith, lt) in rw z (omega arith)
short_onto (suc m) (suc k) n text lt =
    let below : n < 16 * places m = lt in
    by (n / 16 == 0) (digit_glyph false (n % 16) ∷ text) (digits_onto k 16 false (n / 16) (digit_glyph false (n % 16) ∷ text)) (omega arith) (omega (arith, short_onto m k (n / 16) (digit_glyph false (n % 16) ∷ text) (omega (arith, below))))
  where
    by : (t : Bool) (xs ys : List ℕ) → length xs ≤ (suc m + 1) + length text → length ys ≤ (suc m + 1) + length text → length (cond t xs ys) ≤ (suc m + 1) + length text
    by true xs ys h g = h
    by false xs ys h g = g

-- an address has at most sixteen digits
pub short_address : (n : ℕ) → n < 2 ^ 64 → length (digits 16 false n) ≤ 16
unfolding digits
short_address n lt = let top : places 15 ≡ 2 ^ 64 = refl in omega (arith, short_onto 15 64 n [] (omega (arith, lt, top)))

-- the digits of what is left, in front of those behind
unfoldable pub digits_left : ℕ → ℕ → List ℕ → List ℕ
digits_left done left behind = digits_onto (64 - done) 16 false left behind

-- digits in front of a text, with one more behind it
onto_append : (k n : ℕ) (text behind : List ℕ) → digits_onto k 16 false n (text ++ behind) ≡ digits_onto k 16 false n text ++ behind
onto_append zero n text behind = refl
onto_append (suc k) n text behind =
    by (n / 16 == 0) (digit_glyph false (n % 16) ∷ text) (digits_onto k 16 false (n / 16) (digit_glyph false (n % 16) ∷ text)) (digits_onto k 16 false (n / 16) (digit_glyph false (n % 16) ∷ (text ++ behind))) (onto_append k (n / 16) (digit_glyph false (n % 16) ∷ text) behind)
  where
    by : (t : Bool) (xs ys zs : List ℕ) → zs ≡ ys ++ behind → cond t (xs ++ behind) zs ≡ cond t xs ys ++ behind
    by true xs ys zs h = refl
    by false xs ys zs h = h

-- all digits are left before the first is put
pub none_yet : (n : ℕ) (behind : List ℕ) → digits_left 0 n behind ≡ digits 16 false n ++ behind
unfolding digits_left digits
none_yet n behind = onto_append 64 n [] behind

-- one digit more, in front of those behind, where more are left
pub next_digit : (done left next : ℕ) (behind : List ℕ) → done < 64 → next ≡ left / 16 → (next == 0) ≡ false
    → digits_left done left behind ≡ digits_left (done + 1) next (digit_glyph false (left % 16) ∷ behind)
unfolding digits_left
next_digit done left next behind lt e h = let k : 64 - done ≡ suc (64 - (done + 1)) = omega arith in rw (k, ← e, h) refl

-- one digit more, in front of those behind, where none is left
pub last_digit : (done left next : ℕ) (behind : List ℕ) → done < 64 → next ≡ left / 16 → (next == 0) ≡ true
    → digits_left done left behind ≡ digit_glyph false (left % 16) ∷ behind
unfolding digits_left
last_digit done left next behind lt e h = let k : 64 - done ≡ suc (64 - (done + 1)) = omega arith in rw (k, ← e, h) refl

-- no digit is left once all places are full
pub no_more : (done left : ℕ) (behind : List ℕ) → 64 ≤ done → digits_left done left behind ≡ behind
unfolding digits_left
no_more done left behind le = let k : 64 - done ≡ 0 = omega arith in rw k refl

module _ (end done left digit next : ℕ) (bytes text : List ℕ) (room : 64 ≤ end) (within : end ≤ length bytes) (lt : done < 64) (d : digit ≡ digit_glyph false (left % 16)) (e : next ≡ left / 16) (h : digits_left done left (drop (end - done) bytes) ≡ text) where
  -- bytes after a digit was put at a place
  put_front : drop (end - 1 - done) (slice_set bytes (end - 1 - done) digit) ≡ digit_glyph false (left % 16) ∷ drop (end - done) bytes
  put_front =
      let k : (end - 1 - done) + 1 ≡ end - done = omega arith in
      drop-set bytes (end - 1 - done) digit (omega arith) ∙ ap (λ (n : ℕ). digit ∷ drop n bytes) k ∙ ap (λ (g : ℕ). g ∷ drop (end - done) bytes) d

  -- with the first digit put they hold all digits
  pub digit_put : next ≡ 0 → drop (end - 1 - done) (slice_set bytes (end - 1 - done) digit) ≡ text
  digit_put z =
      put_front ∙ sym (last_digit done left next (drop (end - done) bytes) lt e (ap (λ (m : ℕ). m == 0) z)) ∙ h

  -- with one more digit put the others are left to put
  pub digit_more : (next == 0) ≡ false
      → digits_left (done + 1) next (drop (end - (done + 1)) (slice_set bytes (end - 1 - done) digit)) ≡ text
  digit_more z =
      let k : end - (done + 1) ≡ end - 1 - done = omega arith in
      let put : drop (end - (done + 1)) (slice_set bytes (end - 1 - done) digit) ≡ digit_glyph false (left % 16) ∷ drop (end - done) bytes = rw k put_front in
      ap (digits_left (done + 1) next) put ∙ sym (next_digit done left next (drop (end - done) bytes) lt e z) ∙ h
