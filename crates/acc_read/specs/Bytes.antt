-- Bytes, written as hexadecimal digits.
use Rattle.std.specs.Prelude.{ℕ, not, List, [], length, Result, Ok, Err, nat_lt, if◌then◌else◌}
use Rattle.std.specs.Char.{is_ascii_hexdigit}
use Rattle.std.specs.Result.{result_unwrap_or}
use Rattle.std.specs.List.{list_all}
use Rattle.hex.specs.declared.error.FromHexError.{FromHexError}
use Rattle.hex.specs.Hex.{decode_of}
use Rattle.acc_base.specs.declared.faults.ScriptFault.{ScriptFault}
use Rattle.acc_base.specs.declared.faults.ScriptFault.TheVariants.{Syntax, Number}
use Rattle.acc_read.specs.Reading.{◌>>=◌}
use Rattle.acc_read.specs.Tokens.{word_at}

-- how many digits may stand in one word
abbrev pub digit_limit : ℕ
digit_limit = 128

-- digits that are no bytes are odd in number
abbrev pub decoded : Result (List ℕ) FromHexError → Result (List ℕ) ScriptFault
decoded (Ok bytes) = Ok bytes
decoded (Err odd) = Err Number

-- the bytes that a word says, two digits of either case each
unfoldable pub bytes_said : List ℕ → Result (List ℕ) ScriptFault
bytes_said word = if not (list_all is_ascii_hexdigit word) then Err Syntax
    else if nat_lt digit_limit (length word) then Err Number
    else decoded (decode_of word)

-- the bytes that the next word says
abbrev pub next_said : List ℕ → Result (List ℕ) ScriptFault
next_said text = word_at text >>= (λ word. bytes_said word.0)

-- the bytes that a word says, and none where it says no bytes
abbrev pub bytes_in : List ℕ → List ℕ
bytes_in word = result_unwrap_or (bytes_said word) []
