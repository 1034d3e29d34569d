-- Numbers in parentheses: of the queues that an option or a statement names (OpenACC 3.3, section 2.16, asynchronous
-- behavior), and of devices.
use Rattle.std.specs.Prelude.{ℕ, List, Result, Ok, Err, if◌then◌else◌}
use Rattle.acc_base.specs.declared.faults.ScriptFault.{ScriptFault}
use Rattle.acc_base.specs.declared.faults.ScriptFault.TheVariants.{Syntax}
use Rattle.acc_read.specs.Reading.{◌>>=◌}
use Rattle.acc_read.specs.Tokens.{mark_at, is_mark_next, is_at_end, number_at, number_limit, left_parenthesis, right_parenthesis}

-- a number in parentheses
unfoldable pub enclosed_number_at : List ℕ → Result (ℕ × List ℕ) ScriptFault
enclosed_number_at text = do
  inside ← mark_at left_parenthesis text
  number ← number_at number_limit inside
  close ← mark_at right_parenthesis number.1
  Ok (number.0, close)

-- the queue that is named where no parenthesis stands next
abbrev pub first_queue : ℕ
first_queue = 0

-- the queue of `async`: the number in parentheses, where they stand next
unfoldable pub async_queue_at : List ℕ → Result (ℕ × List ℕ) ScriptFault
async_queue_at text = if is_mark_next left_parenthesis text then enclosed_number_at text else Ok (first_queue, text)

-- a number in parentheses, up to the end of the line
unfoldable pub last_enclosed_at : List ℕ → Result ℕ ScriptFault
last_enclosed_at text = do
  number ← enclosed_number_at text
  if is_at_end number.1 then Ok number.0 else Err Syntax
