-- Words that say bytes.
use Rattle.std.proofs.Common.{◌≡◌, ℕ, ◌<◌, ◌≤◌, ◌%◌, ◌-◌, ◌*◌, ◌≢◌, Bool, true, false, cond, List, [], ◌∷◌, length, take, drop, Some, None, Result, Ok, Err, refl, ap, sym, ◌∙◌, arith}
use Rattle.std.specs.Prelude.{not, ◌==◌, ◌||◌, ◌&&◌, nat_le, nat_lt, is_some, IsOk}
use Rattle.std.specs.List.{list_all, prefix_len}
use Rattle.std.specs.Char.{is_ascii_hexdigit}
use Rattle.std.specs.Result.{result_unwrap_or}
use Rattle.std.proofs.lemmas.Bool.{le-ltb, lt-ltb, eq-eqb, eqb-true, ne_eqb, not-false, and_parts}
use Rattle.std.proofs.lemmas.Bool.Decides.{nat_tests}
use Rattle.std.proofs.lemmas.List.Folds.{length-prefix_len}
use Rattle.std.proofs.lemmas.List.Sums.{AllPass-from_list_all}
use Rattle.hex.specs.Hex.{decode_of, is_hex_digit}
use Rattle.hex.proofs.HexLemmas.{decode_of-digits, decode_of-ok}
use Rattle.hex.specs.declared.error.FromHexError.{FromHexError}
use Rattle.acc_base.specs.declared.faults.ScriptFault.{ScriptFault}
use Rattle.acc_base.specs.declared.faults.ScriptFault.TheVariants.{Syntax, Number}
use Rattle.acc_read.specs.Bytes.{digit_limit, bytes_said, next_said, decoded, bytes_in}
use Rattle.acc_read.specs.Reading.{◌>>=◌}
use Rattle.acc_read.specs.Tokens.{is_word_byte, word_len, word_at, skip_blanks}
use Rattle.acc_read.proofs.WordFronts.{all_of_word, part_of_word, front_passes}

-- a digit of either case has a value
has_value : (upper lower decimal : Bool) (a b c : ℕ) → (decimal || upper) || lower ≡ true
    → is_some (cond upper (Some a) (cond lower (Some b) (cond decimal (Some c) None))) ≡ true
has_value true lower decimal a b c e = refl
has_value false true decimal a b c e = refl
has_value false false true a b c e = refl
has_value false false false a b c e = absurd cc

-- each byte of a word of digits has a value
all_values : (word : List ℕ) → list_all is_ascii_hexdigit word ≡ true → list_all is_hex_digit word ≡ true
all_values [] e = refl
all_values (c ∷ word) e =
    let parts = and_parts (is_ascii_hexdigit c) (list_all is_ascii_hexdigit word) e in
    let here : is_hex_digit c ≡ true = has_value (nat_le 65 c && nat_le c 70) (nat_le 97 c && nat_le c 102) (nat_le 48 c && nat_le c 57) (c - 55) (c - 87) (c - 48) parts.0 in
    rw (here, all_values word parts.1) refl

-- a word with an even number of digits, and not too many, says bytes
right_bytes : (word : List ℕ) → list_all is_ascii_hexdigit word ≡ true → length word ≤ 128 → length word % 2 ≢ 1
    → IsOk (bytes_said word)
unfolding bytes_said
right_bytes word e few even =
    let bytes = decode_of-digits word (omega arith) (AllPass-from_list_all is_hex_digit word (all_values word e)) in
    rw (e, le-ltb 128 (length word) few, bytes.1) refl

-- the bytes that a right word is decoded to are those that it says
pub word_decoded : (word bytes : List ℕ) → IsOk (bytes_said word) → decode_of word ≡ Ok bytes
    → bytes_said word ≡ Ok bytes
unfolding bytes_said
word_decoded word bytes right e = by (list_all is_ascii_hexdigit word) (nat_lt digit_limit (length word)) right
  where
    by : (b c : Bool) → IsOk (cond (not b) (Err Syntax) (cond c (Err Number) (decoded (decode_of word))))
        → cond (not b) (Err Syntax) (cond c (Err Number) (decoded (decode_of word))) ≡ Ok bytes
    by false c h = absurd cc
    by true true h = absurd cc
    by true false h = rw e refl

-- a word that says bytes has digits alone
pub said_digits : (word : List ℕ) → IsOk (bytes_said word) → list_all is_ascii_hexdigit word ≡ true
unfolding bytes_said
said_digits word right = by (list_all is_ascii_hexdigit word) _ right
  where
    by : (b : Bool) (rest : Result (List ℕ) ScriptFault) → IsOk (cond (not b) (Err Syntax) rest) → b ≡ true
    by false rest h = absurd cc
    by true rest h = refl

-- its bytes are those that its digits are decoded to
said_decoded : (word : List ℕ) → IsOk (bytes_said word) → decode_of word ≡ Ok (bytes_in word)
unfolding bytes_said
said_decoded word right = by (list_all is_ascii_hexdigit word) (nat_lt digit_limit (length word)) (decode_of word) right
  where
    by : (b c : Bool) (bytes : Result (List ℕ) FromHexError) → let said : Result (List ℕ) ScriptFault = cond (not b) (Err Syntax) (cond c (Err Number) (decoded bytes)) in
        IsOk said → bytes ≡ Ok (result_unwrap_or said [])
    by false c bytes h = absurd cc
    by true true bytes h = absurd cc
    by true false (Ok bytes) h = refl
    by true false (Err odd) h = absurd cc

-- they are half as many as the digits
pub said_len : (word : List ℕ) → IsOk (bytes_said word) → length word ≡ 2 * length (bytes_in word)
said_len word right = (decode_of-ok word (bytes_in word) (said_decoded word right)).2

-- and not many
pub said_few : (word : List ℕ) → IsOk (bytes_said word) → length word ≤ 128
unfolding bytes_said
said_few word right = by (list_all is_ascii_hexdigit word) (nat_lt digit_limit (length word)) refl right
  where
    by : (b c : Bool) → nat_lt digit_limit (length word) ≡ c → IsOk (cond (not b) (Err Syntax) (cond c (Err Number) (decoded (decode_of word)))) → length word ≤ 128
    by false c e h = absurd cc
    by true true e h = absurd cc
    by true false e h = grind (arith, nat_tests)

-- what is decoded is what the word says
pub said_by_digits : (word bytes : List ℕ) → IsOk (bytes_said word) → decode_of word ≡ Ok bytes → bytes ≡ bytes_in word
said_by_digits word bytes right e = ap (λ said. result_unwrap_or said []) (sym (word_decoded word bytes right e))

-- a word that says bytes says these
pub says_bytes : (word : List ℕ) → IsOk (bytes_said word) → bytes_said word ≡ Ok (bytes_in word)
says_bytes word right = word_decoded word (bytes_in word) right (said_decoded word right)

-- what is known of a word that says bytes
pub ruleset said_laws = (said_digits, said_len, said_few, said_by_digits, says_bytes)

-- how many digits stand at the front of the next word
abbrev digits_len : List ℕ → ℕ
digits_len text = prefix_len is_ascii_hexdigit (skip_blanks text)

-- a digit is a byte of a word
digit_in_word : (b : ℕ) → is_ascii_hexdigit b ≡ true → is_word_byte b ≡ true
digit_in_word b digit = grind (arith, nat_tests)

-- a word that has other bytes than digits, or none, says no bytes
not_digits : (text : List ℕ) → (word_len (skip_blanks text) ≢ 0 → list_all is_ascii_hexdigit (take (word_len (skip_blanks text)) (skip_blanks text)) ≡ false)
    → next_said text ≡ Err Syntax
unfolding word_at bytes_said
not_digits text other = by (word_len (skip_blanks text) == 0) refl
  where
    by : (none : Bool) → (word_len (skip_blanks text) == 0) ≡ none
        → let read : Result (List ℕ × List ℕ) ScriptFault = cond none (Err Syntax) (Ok (take (word_len (skip_blanks text)) (skip_blanks text), drop (word_len (skip_blanks text)) (skip_blanks text))) in
        let bytes : Result (List ℕ) ScriptFault = read >>= (λ word. bytes_said word.0) in
        bytes ≡ Err Syntax
    by true e = refl
    by false e = rw (other (λ zero. absurd cc)) refl

-- no digit stands first
pub lacks_digits : (text : List ℕ) → digits_len text ≡ 0 → next_said text ≡ Err Syntax
lacks_digits text none =
    let zero : 0 ≡ digits_len text = omega (arith, none) in
    not_digits text (λ some. part_of_word is_ascii_hexdigit digit_in_word (skip_blanks text) (λ behind. some (ap (λ n. word_len (drop n (skip_blanks text))) zero ∙ behind)))

-- a word goes on behind digits
pub digits_go_on : (text : List ℕ) → not (word_len (drop (digits_len text) (skip_blanks text)) == 0) ≡ true → next_said text ≡ Err Syntax
digits_go_on text more = not_digits text (λ some. part_of_word is_ascii_hexdigit digit_in_word (skip_blanks text) (λ none. absurd cc))

module _ (text : List ℕ) (some : digits_len text ≢ 0) (behind : not (word_len (drop (digits_len text) (skip_blanks text)) == 0) ≡ false) where
  whole : word_len (skip_blanks text) ≡ digits_len text
  whole = all_of_word is_ascii_hexdigit digit_in_word (skip_blanks text) (eqb-true _ 0 (not-false _ behind))

  -- digits alone are the next word
  pub is_next : word_at text ≡ Ok (take (digits_len text) (skip_blanks text), drop (digits_len text) (skip_blanks text))
  unfolding word_at
  is_next = rw (whole, ne_eqb (digits_len text) 0 some) refl

  -- too many digits say no bytes
  pub many_digits : 128 < digits_len text → next_said text ≡ Err Number
  unfolding bytes_said
  many_digits more =
      let long = length-prefix_len is_ascii_hexdigit (skip_blanks text) in
      rw (is_next, front_passes is_ascii_hexdigit (skip_blanks text), long, lt-ltb 128 (digits_len text) more) refl

  -- nor does an odd number of them
  pub odd_digits : digits_len text ≤ 128 → digits_len text % 2 ≡ 1 → next_said text ≡ Err Number
  unfolding bytes_said
  odd_digits few odd =
      let long = length-prefix_len is_ascii_hexdigit (skip_blanks text) in
      rw (is_next, front_passes is_ascii_hexdigit (skip_blanks text), long, le-ltb 128 (digits_len text) few, eq-eqb (digits_len text % 2) 1 odd) refl

  -- an even number of them does
  pub right_word : digits_len text ≤ 128 → digits_len text % 2 ≢ 1 → IsOk (bytes_said (take (digits_len text) (skip_blanks text)))
  right_word few even =
      let long = length-prefix_len is_ascii_hexdigit (skip_blanks text) in
      right_bytes (take (digits_len text) (skip_blanks text)) (front_passes is_ascii_hexdigit (skip_blanks text)) (omega (arith, long)) (λ odd. even (ap (λ n. n % 2) (sym long) ∙ odd))

-- what the next word is said to be by its digits
pub ruleset word_laws = (lacks_digits, digits_go_on, is_next, many_digits, odd_digits, right_word)
