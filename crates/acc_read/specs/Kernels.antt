-- Kernels, each with the section of host memory whose bytes on the device it changes (OpenACC 3.3, section 2.5, compute
-- constructs).
use Rattle.std.specs.Prelude.{ℕ, List, Result, Ok, Err, if◌then◌else◌, codes}
use Rattle.std.specs.Str.{bytes_eq}
use Rattle.acc_base.specs.declared.faults.ScriptFault.{ScriptFault}
use Rattle.acc_base.specs.declared.faults.ScriptFault.TheVariants.{Syntax}
use Rattle.acc_base.specs.declared.items.Section.{Section}
use Rattle.acc_read.specs.declared.kernels.ScriptKernel.{ScriptKernel}
use Rattle.acc_read.specs.declared.kernels.ScriptKernel.TheVariants.{Add, Xor, Number, Plus}
use Rattle.acc_read.specs.Reading.{◌>>=◌}
use Rattle.acc_read.specs.Tokens.{word_at, number_at}
use Rattle.acc_read.specs.Layout.{ArrayLayout}
use Rattle.acc_read.specs.Places.{section_at, last_section_at}

-- the greatest number of a kernel
abbrev pub byte_limit : ℕ
byte_limit = 255

-- `K REF`: a number up to that of a byte, and the section, up to the end of the line
unfoldable pub last_number_at : ArrayLayout → List ℕ → Result (ℕ × Section) ScriptFault
last_number_at layout text = do
  number ← number_at byte_limit text
  section ← last_section_at layout number.1
  Ok (number.0, section)

-- `REF REF`: the source and the section, up to the end of the line
unfoldable pub last_source_at : ArrayLayout → List ℕ → Result (Section × Section) ScriptFault
last_source_at layout text = do
  source ← section_at layout text
  section ← last_section_at layout source.1
  Ok (source.0, section)

-- a kernel with what was read for it, and the section
abbrev pub formed : {A : Type 0} → (A → ScriptKernel) → Result (A × Section) ScriptFault
    → Result (ScriptKernel × Section) ScriptFault
formed form (Ok read) = Ok (form read.0, read.1)
formed form (Err kind) = Err kind

-- a kernel and its section, by the word of the kernel
unfoldable pub named_kernel_at : List ℕ → ArrayLayout → List ℕ → Result (ScriptKernel × Section) ScriptFault
named_kernel_at word layout text =
    if bytes_eq word (codes "add") then formed Add (last_number_at layout text)
    else if bytes_eq word (codes "xor") then formed Xor (last_number_at layout text)
    else if bytes_eq word (codes "number") then formed Number (last_number_at layout text)
    else if bytes_eq word (codes "plus") then formed Plus (last_source_at layout text)
    else Err Syntax

-- `add K REF`, `xor K REF`, `number K REF` or `plus REF REF`, up to the end of the line
unfoldable pub last_kernel_at : ArrayLayout → List ℕ → Result (ScriptKernel × Section) ScriptFault
last_kernel_at layout text = do
  word ← word_at text
  named_kernel_at word.0 layout word.1
