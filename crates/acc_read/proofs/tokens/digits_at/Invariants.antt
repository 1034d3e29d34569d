use Rattle.std.proofs.Common.{◌≡◌, ◌≤◌, ◌+◌, ◌-◌, min, length, take, drop}
use Rattle.std.specs.List.{prefix_len}
use Rattle.std.specs.Char.{is_ascii_digit}
use Rattle.acc_read.specs.Tokens.{value_of}
use Rattle.acc_read.proofs.tokens.digits_at.Given as goal

-- the number that the digits so far say, and how many follow
abbrev pub invariant-loop-len : goal.invariant-loop-len
invariant-loop-len l = record {
  within : l.len ≤ length l.text;
  value : l.value ≡ min (value_of (take l.len l.text)) (l.limit + 1);
  count : prefix_len is_ascii_digit l.text ≡ l.len + prefix_len is_ascii_digit (drop l.len l.text);
}

abbrev pub decreases-loop-len : goal.decreases-loop-len
decreases-loop-len l = length l.text - l.len
