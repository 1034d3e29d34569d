use Rattle.std.proofs.Common.{◌≡◌, ℕ, zero, suc, ◌+◌, ◌*◌, ◌/◌, ◌%◌, ◌<◌, true, List, [], length, get_or, slice_index, take, drop, drop-drop, Ok, ap, refl, sym, ◌∙◌, arith}
use Rattle.std.specs.Char.{is_ascii_hexdigit}
use Rattle.std.specs.List.{list_all}
use Rattle.std.specs.Simd.{first_chunks}
use Rattle.std.proofs.lemmas.List.{get_or-take, get_or-drop}
use Rattle.std.proofs.lemmas.List.Elements.{All-get_or}
use Rattle.std.proofs.lemmas.List.Sums.{AllPass-from_list_all}
use Rattle.hex.specs.Hex.{hex_digit_value, pair_value, value_at, digit_or_error}
use Rattle.hex.proofs.Pairs.{decode_step, decode_done}
use Rattle.hex.proofs.HexLemmas.{decode_of-even}
use Rattle.acc_read.proofs.byte_words.put_bytes.Goals as goal

-- a pair stands behind those before it
pair_at : (k i : ℕ) (xs none : List ℕ) → i < k → get_or (first_chunks 2 k xs) i none ≡ take 2 (drop (2 * i) xs)
pair_at zero i xs none lt = absurd (omega arith)
pair_at (suc k) zero xs none lt = refl
pair_at (suc k) (suc i) xs none lt =
    let on : 2 + 2 * i ≡ 2 * suc i = omega arith in
    pair_at k i (drop 2 xs) none (omega arith) ∙ ap (take 2) (drop-drop (2 * i) 2 xs) ∙ ap (λ n. take 2 (drop n xs)) on

-- and so does each of its two elements
digit_at : (word : List ℕ) (pairs : List (List ℕ)) (i j : ℕ) → pairs ≡ first_chunks 2 (length word / 2) word → i < length word / 2 → j < 2
    → slice_index (get_or pairs i []) j ≡ slice_index word (2 * i + j)
digit_at word pairs i j front lt two =
    ap (λ all. slice_index (get_or all i []) j) front ∙ ap (λ pair. slice_index pair j) (pair_at (length word / 2) i word [] lt)
    ∙ get_or-take 2 (drop (2 * i) word) j 0 two ∙ get_or-drop (2 * i) word j 0

-- it is a digit where all of the word are
is_digit : (word : List ℕ) (pairs : List (List ℕ)) (i j : ℕ) → pairs ≡ first_chunks 2 (length word / 2) word → i < length word / 2 → j < 2
    → list_all is_ascii_hexdigit word ≡ true → is_ascii_hexdigit (slice_index (get_or pairs i []) j) ≡ true
is_digit word pairs i j front lt two digits =
    ap is_ascii_hexdigit (digit_at word pairs i j front lt two)
    ∙ All-get_or (λ b. is_ascii_hexdigit b ≡ true) word (2 * i + j) 0 (omega arith) (AllPass-from_list_all is_ascii_hexdigit word digits)

pub pair_value-requires-clause-high : goal.pair_value-requires-clause-high
pair_value-requires-clause-high c =
    is_digit c.args.word.now c.as_chunks.result.0.now c.bytes.i 0 c.as_chunks.ensures.front (omega arith) (omega arith) c.requires.digits

pub pair_value-requires-clause-low : goal.pair_value-requires-clause-low
pair_value-requires-clause-low c =
    is_digit c.args.word.now c.as_chunks.result.0.now c.bytes.i 1 c.as_chunks.ensures.front (omega arith) (omega arith) c.requires.digits

pub bytes-preserved : goal.bytes-preserved
bytes-preserved c =
    let word = c.args.word.now in
    let i = c.bytes.i in
    let byte = c.pair_value.result in
    let first : 2 * i + 0 ≡ 2 * i = omega arith in
    let high_at = digit_at word c.as_chunks.result.0.now i 0 c.as_chunks.ensures.front (omega arith) (omega arith) ∙ ap (slice_index word) first in
    let low_at = digit_at word c.as_chunks.result.0.now i 1 c.as_chunks.ensures.front (omega arith) (omega arith) in
    let high : value_at (slice_index word (2 * i)) (2 * i) ≡ Ok (byte / 16) = ap (digit_or_error (slice_index word (2 * i)) (2 * i)) (ap hex_digit_value (sym high_at) ∙ c.pair_value.ensures.high) in
    let low : value_at (slice_index word (2 * i + 1)) (2 * i + 1) ≡ Ok (byte % 16) = ap (digit_or_error (slice_index word (2 * i + 1)) (2 * i + 1)) (ap hex_digit_value (sym low_at) ∙ c.pair_value.ensures.low) in
    let whole : byte / 16 * 16 + byte % 16 ≡ byte = omega arith in
    let pair : pair_value (slice_index word (2 * i)) (slice_index word (2 * i + 1)) (2 * i) ≡ Ok byte = rw (high, low, whole) refl in
    decode_step word c.bytes.bytes i _ (omega arith) (omega arith) pair c.bytes.invariant

pub returns : goal.returns
returns c = decode_of-even c.args.word.now (omega arith) ∙ decode_done c.args.word.now c.bytes.bytes c.bytes.i (omega arith) (omega arith) c.bytes.invariant
