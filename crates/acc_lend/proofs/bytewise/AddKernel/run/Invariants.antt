use Rattle.std.proofs.Common.{◌≡◌}
use Rattle.acc_lend.specs.Images.{added}
use Rattle.acc_lend.proofs.Turns.{changed}
use Rattle.acc_lend.proofs.bytewise.AddKernel.run.Given as goal

abbrev pub invariant-loop-byte : goal.invariant-loop-byte
invariant-loop-byte l = l.part ≡ changed (added l.self.0) l.at l.byte-index l.initial.part
