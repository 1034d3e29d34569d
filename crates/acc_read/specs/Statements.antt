-- What a line says, or its first fault.
use Rattle.std.specs.Prelude.{ℕ, ◌||◌, Bool, true, false, not, ◌&&◌, List, length, Option, Some, None, Result, Ok, Err, ok_or, is_some, ◌==◌, nat_lt, nat_le, if◌then◌else◌, codes}
use Rattle.std.specs.List.{list_all, before_first}
use Rattle.std.specs.Str.{bytes_eq}
use Rattle.std.specs.Int.{to_le_bytes, w64}
use Rattle.acc_base.specs.declared.faults.ScriptFault.{ScriptFault}
use Rattle.acc_base.specs.declared.faults.ScriptFault.TheVariants.{TooLong, NotText, Syntax, Number, NameTaken, HostFull, NoOpenRegion}
use Rattle.acc_base.specs.declared.directives.Directive.{Directive}
use Rattle.acc_base.specs.declared.directives.Directive.TheVariants.{Enter, Exit, EnterData, ExitData, Update, Wait, Step}
use Rattle.acc_base.specs.declared.items.Section.{Section}
use Rattle.acc_read.specs.declared.arrays.Array.{Array}
use Rattle.acc_read.specs.declared.kernels.ScriptKernel.{ScriptKernel}
use Rattle.acc_read.specs.Reading.{◌>>=◌}
use Rattle.acc_read.specs.Tokens.{word_at, keyword_at, name_at, number_at, number_limit, is_at_end, tab}
use Rattle.acc_read.specs.Layout.{ArrayLayout, array_of, next_array}
use Rattle.acc_read.specs.Places.{address_at, last_address_at, last_section_at}
use Rattle.acc_read.specs.Queues.{last_enclosed_at}
use Rattle.acc_read.specs.Bytes.{bytes_said}
use Rattle.acc_read.specs.Grammar.{region_grammar, enter_grammar, exit_grammar, update_grammar}
use Rattle.acc_read.specs.Clauses.{clauses_at}
use Rattle.acc_read.specs.Kernels.{last_kernel_at}

-- what a line asks for
pub data Meaning : Type 0 where
  Blank : Meaning
  Declare : (name : List ℕ) (array : Array) → Meaning
  Direct : (directive : Directive) → Meaning
  Select : (device : ℕ) → Meaning
  Kernel : (region : ℕ) (kernel : ScriptKernel) (section : Section) → Meaning
  Write : (addr : ℕ) (bytes : List ℕ) → Meaning
  Show : (section : Section) → Meaning
  Peek : (section : Section) → Meaning
  Present : (section : Section) → Meaning
  Address : (addr : ℕ) → Meaning
  Report : Meaning

-- a directive with clauses, whose items are a list
abbrev pub has_items : Directive → Bool
has_items (Exit number) = false
has_items (Wait device queue) = false
has_items (Step device queue) = false
has_items d = true

-- a statement for which reading allocates: a directive with clauses
abbrev pub takes_memory : Meaning → Bool
takes_memory (Direct directive) = has_items directive
takes_memory _ = false

-- a new array of a name and a length, if host memory has room for it
abbrev pub declared : List ℕ → ℕ → ArrayLayout → Result Meaning ScriptFault
declared name len layout = do
  array ← ok_or (next_array len layout) HostFull
  Ok (Declare name array)

-- the length of a new array
unfoldable pub length_at : List ℕ → ArrayLayout → List ℕ → Result Meaning ScriptFault
length_at name layout text = do
  len ← number_at number_limit text
  if len.0 == 0 then Err Number
      else if not (is_at_end len.1) then Err Syntax
      else declared name len.0 layout

-- `array NAME N`
unfoldable pub array_at : ArrayLayout → List ℕ → Result Meaning ScriptFault
array_at layout text = do
  name ← name_at text
  if is_some (array_of name.0 layout) then Err NameTaken else length_at name.0 layout name.1

-- ---- directives, each of the current device but for `end data`

-- `data CLAUSES` (OpenACC 3.3, the data construct)
unfoldable pub data_at : ArrayLayout → ℕ → List ℕ → Result Meaning ScriptFault
data_at layout device text = do
  read ← clauses_at region_grammar layout text
  Ok (Direct (Enter device read.items))

-- the exit from the innermost open region, where one is open
abbrev pub exited : Option ℕ → Result Meaning ScriptFault
exited innermost = do
  number ← ok_or innermost NoOpenRegion
  Ok (Direct (Exit number))

-- `end data`, of the innermost open region; a fault of syntax comes before that none is open
unfoldable pub end_at : Option ℕ → List ℕ → Result Meaning ScriptFault
end_at innermost text = do
  rest ← keyword_at (codes "data") text
  if is_at_end rest then exited innermost else Err Syntax

-- `enter data CLAUSES`, with the option `async` (OpenACC 3.3, the enter data directive)
unfoldable pub enter_at : ArrayLayout → ℕ → List ℕ → Result Meaning ScriptFault
enter_at layout device text = do
  rest ← keyword_at (codes "data") text
  read ← clauses_at enter_grammar layout rest
  Ok (Direct (EnterData device read.items read.queue))

-- `exit data CLAUSES`, with the options `finalize` and `async` (OpenACC 3.3, the exit data directive)
unfoldable pub exit_at : ArrayLayout → ℕ → List ℕ → Result Meaning ScriptFault
exit_at layout device text = do
  rest ← keyword_at (codes "data") text
  read ← clauses_at exit_grammar layout rest
  Ok (Direct (ExitData device read.items read.has_option read.queue))

-- `update CLAUSES`, with the options `if_present` and `async` (OpenACC 3.3, the update directive)
unfoldable pub update_at : ArrayLayout → ℕ → List ℕ → Result Meaning ScriptFault
update_at layout device text = do
  read ← clauses_at update_grammar layout text
  Ok (Direct (Update device read.items read.has_option read.queue))

-- `wait(N)`, of one queue
unfoldable pub wait_one_at : ℕ → List ℕ → Result Meaning ScriptFault
wait_one_at device text = do
  queue ← last_enclosed_at text
  Ok (Direct (Wait device (Some queue)))

-- `wait`, of all queues, or `wait(N)` (OpenACC 3.3, the wait directive)
unfoldable pub wait_at : ℕ → List ℕ → Result Meaning ScriptFault
wait_at device text = if is_at_end text then Ok (Direct (Wait device None)) else wait_one_at device text

-- `step(N)`: the next transfer of a queue is made (OpenACC 3.3, section 2.16, asynchronous behavior)
unfoldable pub step_at : ℕ → List ℕ → Result Meaning ScriptFault
step_at device text = do
  queue ← last_enclosed_at text
  Ok (Direct (Step device queue))

-- `set device_num(N)`: later lines are of another device (OpenACC 3.3, the set directive)
unfoldable pub select_at : List ℕ → Result Meaning ScriptFault
select_at text = do
  rest ← keyword_at (codes "device_num") text
  device ← last_enclosed_at rest
  Ok (Select device)

-- ---- kernels

-- `kernel`, a kernel and its section, in the innermost open region (OpenACC 3.3, section 2.5, compute constructs). All
-- other faults come before that none is open
unfoldable pub kernel_at : ArrayLayout → Option ℕ → List ℕ → Result Meaning ScriptFault
kernel_at layout innermost text = do
  read ← last_kernel_at layout text
  region ← ok_or innermost NoOpenRegion
  Ok (Kernel region read.0 read.1)

-- ---- writes

-- `write NAME[N] HEX`
unfoldable pub write_at : ArrayLayout → List ℕ → Result Meaning ScriptFault
write_at layout text = do
  addr ← address_at layout text
  word ← word_at addr.1
  bytes ← bytes_said word.0
  if is_at_end word.1 then Ok (Write addr.0 bytes) else Err Syntax

-- `point PLACE to PLACE`: the eight bytes of the second address, lowest first, written at the first
unfoldable pub point_at : ArrayLayout → List ℕ → Result Meaning ScriptFault
point_at layout text = do
  pointer ← address_at layout text
  rest ← keyword_at (codes "to") pointer.1
  target ← last_address_at layout rest
  Ok (Write pointer.0 (to_le_bytes w64 target))

-- ---- questions

-- this, if the line ends here
abbrev pub at_end : Meaning → List ℕ → Result Meaning ScriptFault
at_end meaning rest = if is_at_end rest then Ok meaning else Err Syntax

-- what a question asks of what it names
abbrev pub asked : {A : Type 0} → (A → Meaning) → Result A ScriptFault → Result Meaning ScriptFault
asked ask (Ok x) = Ok (ask x)
asked ask (Err kind) = Err kind

-- a question, by its word: `show REF`, `peek REF`, `present REF`, `address NAME[N]` or `report`
unfoldable pub question_at : List ℕ → ArrayLayout → List ℕ → Result Meaning ScriptFault
question_at word layout text =
    if bytes_eq word (codes "show") then asked Show (last_section_at layout text)
    else if bytes_eq word (codes "peek") then asked Peek (last_section_at layout text)
    else if bytes_eq word (codes "present") then asked Present (last_section_at layout text)
    else if bytes_eq word (codes "address") then asked Address (last_address_at layout text)
    else if bytes_eq word (codes "report") then at_end Report text
    else Err Syntax

-- ---- a statement

-- the statement that begins with this word, which takes no memory
unfoldable pub short_at : List ℕ → ArrayLayout → ℕ → Option ℕ → List ℕ → Result Meaning ScriptFault
short_at word layout device innermost text = if bytes_eq word (codes "array") then array_at layout text
    else if bytes_eq word (codes "end") then end_at innermost text
    else if bytes_eq word (codes "wait") then wait_at device text
    else if bytes_eq word (codes "step") then step_at device text
    else if bytes_eq word (codes "set") then select_at text
    else if bytes_eq word (codes "kernel") then kernel_at layout innermost text
    else question_at word layout text

-- a statement, by its first word, of the current device
unfoldable pub statement_at : ArrayLayout → ℕ → Option ℕ → List ℕ → Result Meaning ScriptFault
statement_at layout device innermost text = do
  word ← word_at text
  if bytes_eq word.0 (codes "data") then data_at layout device word.1
      else if bytes_eq word.0 (codes "enter") then enter_at layout device word.1
      else if bytes_eq word.0 (codes "exit") then exit_at layout device word.1
      else if bytes_eq word.0 (codes "update") then update_at layout device word.1
      else if bytes_eq word.0 (codes "write") then write_at layout word.1
      else if bytes_eq word.0 (codes "point") then point_at layout word.1
      else short_at word.0 layout device innermost word.1

-- ---- a line

-- a tab, or from a space to a tilde
abbrev pub is_text_byte : ℕ → Bool
is_text_byte b = (b == tab) || (nat_le 32 b && nat_le b 126)

-- the mark that begins a comment
abbrev pub hash : ℕ
hash = 35

-- what stands before a comment
abbrev pub before_comment : List ℕ → List ℕ
before_comment line = before_first (λ b. b == hash) line

-- how many bytes a line may have
abbrev pub line_limit : ℕ
line_limit = 4096

-- what a line asks for, by the numbers of the current device and of the innermost open region, if one is open. A line
-- that is too long is refused first, then a byte that is no text
unfoldable pub line_at : ArrayLayout → ℕ → Option ℕ → List ℕ → Result Meaning ScriptFault
line_at layout device innermost line = if nat_lt line_limit (length line) then Err TooLong
    else if not (list_all is_text_byte (before_comment line)) then Err NotText
    else if is_at_end (before_comment line) then Ok Blank
    else statement_at layout device innermost (before_comment line)
