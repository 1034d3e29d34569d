-- Addresses and sections of host memory, said by the names of arrays.
use Rattle.std.specs.Prelude.{ℕ, List, Result, Ok, Err, ok_or, if◌then◌else◌}
use Rattle.acc_base.specs.declared.faults.ScriptFault.{ScriptFault}
use Rattle.acc_base.specs.declared.faults.ScriptFault.TheVariants.{Syntax, UnknownName}
use Rattle.acc_base.specs.declared.items.Section.{Section}
use Rattle.acc_read.specs.declared.arrays.Array.{Array}
use Rattle.acc_read.specs.Reading.{◌>>=◌}
use Rattle.acc_read.specs.Tokens.{name_at, number_at, number_limit, mark_at, is_mark_next, is_at_end, left_bracket, right_bracket, colon}
use Rattle.acc_read.specs.Layout.{ArrayLayout, array_of, whole, part_of, byte_of}

-- the array that the next word names, if it is declared, and the text after it
unfoldable pub known_at : ArrayLayout → List ℕ → Result (Array × List ℕ) ScriptFault
known_at layout text = do
  name ← name_at text
  array ← ok_or (array_of name.0 layout) UnknownName
  Ok (array, name.1)

-- ---- an address

-- an offset of an array, in brackets
unfoldable pub offset_at : Array → List ℕ → Result (ℕ × List ℕ) ScriptFault
offset_at array text = do
  bracket ← mark_at left_bracket text
  from ← number_at number_limit bracket
  close ← mark_at right_bracket from.1
  Ok (byte_of array from.0, close)

-- the address of a byte of an array
unfoldable pub address_at : ArrayLayout → List ℕ → Result (ℕ × List ℕ) ScriptFault
address_at layout text = do
  array ← known_at layout text
  offset_at array.0 array.1

-- an address, up to the end of the line
unfoldable pub last_address_at : ArrayLayout → List ℕ → Result ℕ ScriptFault
last_address_at layout text = do
  addr ← address_at layout text
  if is_at_end addr.1 then Ok addr.0 else Err Syntax

-- ---- a section

-- from a first offset on, so many bytes of an array, in brackets
unfoldable pub part_at : Array → List ℕ → Result (Section × List ℕ) ScriptFault
part_at array text = do
  bracket ← mark_at left_bracket text
  from ← number_at number_limit bracket
  between ← mark_at colon from.1
  len ← number_at number_limit between
  close ← mark_at right_bracket len.1
  Ok (part_of array from.0 len.0, close)

-- an array, or a part of one
unfoldable pub section_at : ArrayLayout → List ℕ → Result (Section × List ℕ) ScriptFault
section_at layout text = do
  array ← known_at layout text
  if is_mark_next left_bracket array.1 then part_at array.0 array.1 else Ok (whole array.0, array.1)

-- a section, up to the end of the line
unfoldable pub last_section_at : ArrayLayout → List ℕ → Result Section ScriptFault
last_section_at layout text = do
  section ← section_at layout text
  if is_at_end section.1 then Ok section.0 else Err Syntax
