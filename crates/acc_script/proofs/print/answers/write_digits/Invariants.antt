use Rattle.std.proofs.Common.{◌-◌, ◌≤◌, length, drop}
use Rattle.hex.specs.Hex.{encode_lower}
use Rattle.acc_script.proofs.LeftToWrite.{Leaves}
use Rattle.acc_script.proofs.print.answers.write_digits.Given as goal

abbrev pub invariant-loop-at : goal.invariant-loop-at
invariant-loop-at g l = record {
  left : Leaves (g.W.Sink.told l.fn.writer) (g.W.Sink.told l.writer) (encode_lower l.bytes) (encode_lower (drop l.at l.bytes));
  in_range : l.at ≤ length l.bytes;
}

abbrev pub decreases-loop-at : goal.decreases-loop-at
decreases-loop-at g l = length l.bytes - l.at
