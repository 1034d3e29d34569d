-- Words, marks, numbers and names at the front of a text, each with the text after it. Blanks before them are skipped.
use Rattle.std.specs.Prelude.{ℕ, ◌^◌, ◌-◌, ◌*◌, ◌+◌, fold, Bool, false, not, ◌&&◌, ◌||◌, List, [], ◌∷◌, length, take, drop, Result, Ok, Err, ◌==◌, nat_le, if◌then◌else◌}
use Rattle.std.specs.Char.{is_ascii_alphanumeric, is_ascii_lowercase, is_ascii_digit}
use Rattle.std.specs.List.{prefix_len, list_all}
use Rattle.std.specs.Str.{bytes_eq}
use Rattle.acc_base.specs.declared.faults.ScriptFault.{ScriptFault}
use Rattle.acc_base.specs.declared.faults.ScriptFault.TheVariants.{Syntax, Number}
use Rattle.acc_read.specs.Reading.{◌>>=◌}

-- a space
abbrev pub space : ℕ
space = 32

-- a tab
abbrev pub tab : ℕ
tab = 9

-- an underscore
abbrev pub underscore : ℕ
underscore = 95

-- an opening parenthesis
abbrev pub left_parenthesis : ℕ
left_parenthesis = 40

-- a closing parenthesis
abbrev pub right_parenthesis : ℕ
right_parenthesis = 41

-- an opening bracket
abbrev pub left_bracket : ℕ
left_bracket = 91

-- a closing bracket
abbrev pub right_bracket : ℕ
right_bracket = 93

-- a colon
abbrev pub colon : ℕ
colon = 58

-- a comma
abbrev pub comma : ℕ
comma = 44

-- ---- blanks, words and marks

-- a byte that separates tokens: a space or a tab
abbrev pub is_blank : ℕ → Bool
is_blank b = (b == space) || (b == tab)

-- a byte that may stand in a word: a letter, a digit or an underscore
abbrev pub is_word_byte : ℕ → Bool
is_word_byte b = is_ascii_alphanumeric b || (b == underscore)

-- how many bytes at the front are of one word
abbrev pub word_len : List ℕ → ℕ
word_len text = prefix_len is_word_byte text

-- the text from its first token on
abbrev pub skip_blanks : List ℕ → List ℕ
skip_blanks text = drop (prefix_len is_blank text) text

-- the text holds no other token
abbrev pub is_at_end : List ℕ → Bool
is_at_end text = length (skip_blanks text) == 0

-- the next word, and the text after it
unfoldable pub word_at : List ℕ → Result (List ℕ × List ℕ) ScriptFault
word_at text = let token = skip_blanks text in if word_len token == 0 then Err Syntax
    else Ok (take (word_len token) token, drop (word_len token) token)

-- the text after this word, which stands next
unfoldable pub keyword_at : List ℕ → List ℕ → Result (List ℕ) ScriptFault
keyword_at keyword text = do
  word ← word_at text
  if bytes_eq word.0 keyword then Ok word.1 else Err Syntax

-- the next token is this word
abbrev pub is_word_next : List ℕ → List ℕ → Bool
is_word_next word text = let token = skip_blanks text in bytes_eq (take (word_len token) token) word

-- the first byte of a text is this mark
abbrev pub begins_with : ℕ → List ℕ → Bool
begins_with mark [] = false
begins_with mark (b ∷ bytes) = b == mark

-- the next token is this mark
abbrev pub is_mark_next : ℕ → List ℕ → Bool
is_mark_next mark text = begins_with mark (skip_blanks text)

-- the text after this mark, which stands next
unfoldable pub mark_at : ℕ → List ℕ → Result (List ℕ) ScriptFault
mark_at mark text = if is_mark_next mark text then Ok (drop 1 (skip_blanks text)) else Err Syntax

-- the text without a comma at its front
abbrev pub skip_comma : List ℕ → List ℕ
skip_comma text = if is_mark_next comma text then drop 1 (skip_blanks text) else text

-- the next token is a word, or nothing, and this mark follows it
abbrev pub is_word_before : ℕ → List ℕ → Bool
is_word_before mark text = let token = skip_blanks text in is_mark_next mark (drop (word_len token) token)

-- ---- numbers

-- the number that decimal digits say
abbrev pub value_of : List ℕ → ℕ
value_of digits = fold (λ value digit. value * 10 + (digit - 48)) 0 digits

-- the number that a word of digits says, up to a limit
unfoldable pub number_said : ℕ → List ℕ → Result ℕ ScriptFault
number_said limit word = if not (list_all is_ascii_digit word) then Err Syntax
    else if nat_le (value_of word) limit then Ok (value_of word)
    else Err Number

-- the next word as a number up to a limit, and the text after it
unfoldable pub number_at : ℕ → List ℕ → Result (ℕ × List ℕ) ScriptFault
number_at limit text = do
  word ← word_at text
  number ← number_said limit word.0
  Ok (number, word.1)

-- the greatest number of the language
abbrev pub number_limit : ℕ
number_limit = 2 ^ 32 - 1

-- ---- names

-- a byte that may stand in a name: a lower-case letter, a digit or an underscore
abbrev pub is_name_byte : ℕ → Bool
is_name_byte b = is_ascii_lowercase b || is_ascii_digit b || (b == underscore)

-- a word begins with a lower-case letter
abbrev pub begins_lower : List ℕ → Bool
begins_lower [] = false
begins_lower (b ∷ bytes) = is_ascii_lowercase b

-- a lower-case letter, then lower-case letters, digits and underscores; at most 32
abbrev pub is_name : List ℕ → Bool
is_name word = begins_lower word && list_all is_name_byte word && nat_le (length word) 32

-- the next word, which is a name, and the text after it
unfoldable pub name_at : List ℕ → Result (List ℕ × List ℕ) ScriptFault
name_at text = do
  word ← word_at text
  if is_name word.0 then Ok word else Err Syntax
