-- What a line says before a comment, and lines that have no other bytes.
use Rattle.std.specs.Prelude.{ℕ, Bool, not, ◌&&◌, List, Result, Ok, Err, ◌==◌, nat_le, if◌then◌else◌}
use Rattle.std.specs.List.{list_all}
use Rattle.acc_base.specs.declared.faults.ScriptFault.{ScriptFault}
use Rattle.acc_base.specs.declared.faults.ScriptFault.TheVariants.{NotText}
use Rattle.acc_read.specs.Statements.{is_text_byte, hash, before_comment}

-- a byte that is text and no tab, and begins no comment
abbrev pub is_plain_byte : ℕ → Bool
is_plain_byte b = (nat_le 32 b && nat_le b 126) && not (b == hash)

-- what stands before a comment, which has to be text
abbrev pub text_of : List ℕ → Result (List ℕ) ScriptFault
text_of line = if not (list_all is_text_byte (before_comment line)) then Err NotText else Ok (before_comment line)
