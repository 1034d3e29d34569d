use Rattle.std.proofs.Common.{◌≡◌, ◌≤◌, ◌-◌, length, drop}
use Rattle.std.specs.List.{list_all}
use Rattle.acc_read.proofs.runs.all_pass.Given as goal

-- what is left decides
abbrev pub invariant-loop-at : goal.invariant-loop-at
invariant-loop-at g l = record { within : l.at ≤ length l.bytes; left : list_all g.T.ByteTest.test l.bytes ≡ list_all g.T.ByteTest.test (drop l.at l.bytes) }

abbrev pub decreases-loop-at : goal.decreases-loop-at
decreases-loop-at g l = length l.bytes - l.at
