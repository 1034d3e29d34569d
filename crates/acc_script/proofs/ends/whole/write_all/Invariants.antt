use Rattle.std.proofs.Common.{◌-◌, ◌≤◌, length, take}
use Rattle.acc_script.specs.Told.{Took}
use Rattle.acc_script.proofs.ends.whole.write_all.Given as goal

abbrev pub invariant-loop-at : goal.invariant-loop-at
invariant-loop-at g l = record {
  took : Took (g.W.Sink.told l.fn.writer) (g.W.Sink.told l.writer) (take l.at l.bytes);
  in_range : l.at ≤ length l.bytes;
}

abbrev pub decreases-loop-at : goal.decreases-loop-at
decreases-loop-at g l = length l.bytes - l.at
