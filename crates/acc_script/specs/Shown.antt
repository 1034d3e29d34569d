-- What the statements print that ask for a memory's bytes or a mapping, and the step of an empty queue.
use Rattle.std.specs.Prelude.{ℕ, Bool, List, ◌++◌, length, Option, Some, None, ◌==◌, if◌then◌else◌, codes}
use Rattle.hex.specs.Hex.{encode_lower}
use Rattle.acc_script.specs.Texts.{address}

-- bytes as hexadecimal digits, and a dash for no byte
abbrev pub bytes_text : List ℕ → List ℕ
bytes_text bytes = if length bytes == 0 then codes "-\n" else encode_lower bytes ++ codes "\n"

-- the bytes that a memory has, if it has them
abbrev pub read_text : Option (List ℕ) → List ℕ
read_text None = codes "none\n"
read_text (Some bytes) = bytes_text bytes

-- whether a section is present
abbrev pub presence_text : Bool → List ℕ
presence_text present = if present then codes "yes\n" else codes "no\n"

-- a device address, if there is one
abbrev pub place_text : Option ℕ → List ℕ
place_text None = codes "none\n"
place_text (Some place) = address place ++ codes "\n"

-- the queue that was to make its next transfer has none
abbrev pub idle_text : List ℕ
idle_text = codes "idle\n"
