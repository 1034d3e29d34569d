-- Numbers up to a limit.
use Rattle.std.proofs.Common.{◌≡◌, ◌≢◌, ℕ, ◌+◌, ◌<◌, ◌≤◌, Bool, true, false, cond, not, List, take, drop, min, Result, refl, ap, ◌∙◌, arith, Ok, Err}
use Rattle.std.specs.Prelude.{◌==◌}
use Rattle.std.specs.List.{list_all, prefix_len}
use Rattle.std.specs.Char.{is_ascii_digit}
use Rattle.std.proofs.lemmas.Bool.{le-leb, lt-leb, eqb-true, not-false, ne_eqb}
use Rattle.acc_base.specs.declared.faults.ScriptFault.{ScriptFault}
use Rattle.acc_base.specs.declared.faults.ScriptFault.TheVariants.{Syntax, Number}
use Rattle.acc_read.specs.Reading.{◌>>=◌}
use Rattle.acc_read.specs.Tokens.{is_word_byte, word_len, word_at, skip_blanks, number_said, number_at, value_of}
use Rattle.acc_read.proofs.WordFronts.{all_of_word, part_of_word, front_passes}

-- how many digits stand at the front
abbrev digits_len : List ℕ → ℕ
digits_len text = prefix_len is_ascii_digit text

-- a digit is a byte of a word
digit_in_word : (b : ℕ) → is_ascii_digit b ≡ true → is_word_byte b ≡ true
digit_in_word b digit = rw digit cc

-- a word that has other bytes than digits, or none, is at fault
not_digits : (limit : ℕ) (text : List ℕ) → (word_len (skip_blanks text) ≢ 0 → list_all is_ascii_digit (take (word_len (skip_blanks text)) (skip_blanks text)) ≡ false)
    → number_at limit text ≡ Err Syntax
unfolding number_at word_at number_said
not_digits limit text other = by (word_len (skip_blanks text) == 0) refl
  where
    by : (none : Bool) → (word_len (skip_blanks text) == 0) ≡ none
        → let read : Result (List ℕ × List ℕ) ScriptFault = cond none (Err Syntax) (Ok (take (word_len (skip_blanks text)) (skip_blanks text), drop (word_len (skip_blanks text)) (skip_blanks text))) in
        let number : Result (ℕ × List ℕ) ScriptFault = read >>= (λ word. number_said limit word.0 >>= (λ n. Ok (n, word.1))) in
        number ≡ Err Syntax
    by true e = refl
    by false e = rw (other (λ zero. absurd cc)) refl

-- no digit stands first
pub lacks_digits : (limit : ℕ) (text : List ℕ) → digits_len (skip_blanks text) ≡ 0 → number_at limit text ≡ Err Syntax
lacks_digits limit text none =
    let zero : 0 ≡ digits_len (skip_blanks text) = omega (arith, none) in
    not_digits limit text (λ some. part_of_word is_ascii_digit digit_in_word (skip_blanks text) (λ behind. some (ap (λ n. word_len (drop n (skip_blanks text))) zero ∙ behind)))

-- a word goes on behind digits
pub digits_go_on : (limit : ℕ) (text : List ℕ) → not (word_len (drop (digits_len (skip_blanks text)) (skip_blanks text)) == 0) ≡ true
    → number_at limit text ≡ Err Syntax
digits_go_on limit text more = not_digits limit text (λ some. part_of_word is_ascii_digit digit_in_word (skip_blanks text) (λ none. absurd cc))

module _ (limit value : ℕ) (text : List ℕ) (some : digits_len (skip_blanks text) ≢ 0)
    (behind : not (word_len (drop (digits_len (skip_blanks text)) (skip_blanks text)) == 0) ≡ false)
    (said : value ≡ min (value_of (take (digits_len (skip_blanks text)) (skip_blanks text))) (limit + 1)) where
  whole : word_len (skip_blanks text) ≡ digits_len (skip_blanks text)
  whole = all_of_word is_ascii_digit digit_in_word (skip_blanks text) (eqb-true _ 0 (not-false _ behind))

  -- digits above the limit are at fault
  pub is_above : limit < value → number_at limit text ≡ Err Number
  unfolding number_at word_at number_said
  is_above above = rw (whole, ne_eqb (digits_len (skip_blanks text)) 0 some, front_passes is_ascii_digit (skip_blanks text), lt-leb (value_of (take (digits_len (skip_blanks text)) (skip_blanks text))) limit (omega arith)) refl

  -- digits up to the limit are their number
  pub is_number : value ≤ limit → number_at limit text ≡ Ok (value, drop (digits_len (skip_blanks text)) (skip_blanks text))
  unfolding number_at word_at number_said
  is_number below =
      let same : value ≡ value_of (take (digits_len (skip_blanks text)) (skip_blanks text)) = omega arith in
      rw (whole, ne_eqb (digits_len (skip_blanks text)) 0 some, front_passes is_ascii_digit (skip_blanks text), le-leb (value_of (take (digits_len (skip_blanks text)) (skip_blanks text))) limit (omega arith), same) refl

-- what digits say
pub ruleset number_laws = (lacks_digits, digits_go_on, is_above, is_number)
