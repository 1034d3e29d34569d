-- Names at the front of a text.
use Rattle.std.proofs.Common.{◌≡◌, ◌≢◌, ℕ, zero, suc, ◌<◌, ◌≤◌, Bool, true, false, cond, not, List, length, take, drop, Result, Ok, Err, refl, arith}
use Rattle.std.specs.Prelude.{◌==◌, ◌&&◌, nat_le}
use Rattle.std.specs.List.{list_all, prefix_len}
use Rattle.std.proofs.lemmas.Bool.{le-leb, lt-leb, eqb-true, not-false, ne_eqb}
use Rattle.std.proofs.lemmas.Bool.Decides.{nat_tests}
use Rattle.std.proofs.lemmas.List.Folds.{length-prefix_len}
use Rattle.acc_base.specs.declared.faults.ScriptFault.{ScriptFault}
use Rattle.acc_base.specs.declared.faults.ScriptFault.TheVariants.{Syntax}
use Rattle.acc_read.specs.Reading.{◌>>=◌}
use Rattle.acc_read.specs.Tokens.{is_word_byte, word_len, word_at, skip_blanks, is_name_byte, begins_lower, is_name, name_at}
use Rattle.acc_read.proofs.WordFronts.{all_of_word, part_of_word, front_passes}

-- how many bytes of a name stand at the front of the next word
abbrev name_len : List ℕ → ℕ
name_len text = prefix_len is_name_byte (skip_blanks text)

-- a byte of a name is a byte of a word
name_in_word : (b : ℕ) → is_name_byte b ≡ true → is_word_byte b ≡ true
name_in_word b name = grind (arith, nat_tests)

-- a word that is no name is at fault
no_name : (text : List ℕ) → (word_len (skip_blanks text) ≢ 0 → is_name (take (word_len (skip_blanks text)) (skip_blanks text)) ≡ false)
    → name_at text ≡ Err Syntax
unfolding name_at word_at
no_name text other = by (word_len (skip_blanks text) == 0) refl
  where
    by : (none : Bool) → (word_len (skip_blanks text) == 0) ≡ none
        → let read : Result (List ℕ × List ℕ) ScriptFault = cond none (Err Syntax) (Ok (take (word_len (skip_blanks text)) (skip_blanks text), drop (word_len (skip_blanks text)) (skip_blanks text))) in
        let name : Result (List ℕ × List ℕ) ScriptFault = read >>= (λ word. cond (is_name word.0) (Ok word) (Err Syntax)) in
        name ≡ Err Syntax
    by true e = refl
    by false e = rw (other (λ zero. absurd cc)) refl

-- a name has bytes of names alone
other_bytes : (word : List ℕ) → list_all is_name_byte word ≡ false → is_name word ≡ false
other_bytes word other = rw other (by (begins_lower word))
  where
    by : (lower : Bool) → (lower && false && nat_le (length word) 32) ≡ false
    by true = refl
    by false = refl

-- and not too many
too_many : (word : List ℕ) → 32 < length word → is_name word ≡ false
too_many word long = rw (lt-leb (length word) 32 long) (by (begins_lower word) (list_all is_name_byte word))
  where
    by : (lower all : Bool) → (lower && all && false) ≡ false
    by true true = refl
    by true false = refl
    by false all = refl

-- some byte stands in front where the first of them is a letter
some_byte : (n : ℕ) (text : List ℕ) → begins_lower (take n text) ≡ true → n ≢ 0
some_byte zero text lower none = absurd cc
some_byte (suc n) text lower none = absurd (omega arith)

-- a word goes on behind the bytes of a name
pub name_goes_on : (text : List ℕ) → not (word_len (drop (name_len text) (skip_blanks text)) == 0) ≡ true
    → name_at text ≡ Err Syntax
name_goes_on text more = no_name text (λ some. other_bytes (take (word_len (skip_blanks text)) (skip_blanks text)) (part_of_word is_name_byte name_in_word (skip_blanks text) (λ none. absurd cc)))

module _ (text : List ℕ) (behind : not (word_len (drop (name_len text) (skip_blanks text)) == 0) ≡ false) where
  whole : word_len (skip_blanks text) ≡ name_len text
  whole = all_of_word is_name_byte name_in_word (skip_blanks text) (eqb-true _ 0 (not-false _ behind))

  -- it has too many bytes
  pub name_too_long : 32 < name_len text → name_at text ≡ Err Syntax
  name_too_long long =
      let len = length-prefix_len is_name_byte (skip_blanks text) in
      no_name text (λ some. rw whole (too_many (take (name_len text) (skip_blanks text)) (omega (arith, len, long))))

  -- it does not begin with a letter
  pub not_lower : begins_lower (take (name_len text) (skip_blanks text)) ≡ false → name_at text ≡ Err Syntax
  not_lower other = no_name text (λ some. rw (whole, other) refl)

  -- it stands next
  pub name_stands : name_len text ≤ 32 → begins_lower (take (name_len text) (skip_blanks text)) ≡ true
      → name_at text ≡ Ok (take (name_len text) (skip_blanks text), drop (name_len text) (skip_blanks text))
  unfolding name_at word_at
  name_stands few lower =
      let len = length-prefix_len is_name_byte (skip_blanks text) in
      let some = some_byte (name_len text) (skip_blanks text) lower in
      rw (whole, ne_eqb (name_len text) 0 some, lower, front_passes is_name_byte (skip_blanks text), le-leb (length (take (name_len text) (skip_blanks text))) 32 (omega (arith, len, few))) refl

-- what is known of the next name
pub ruleset name_laws = (name_goes_on, name_too_long, not_lower, name_stands)
