use Rattle.std.proofs.Common.{◌≡◌}
use Rattle.acc_lend.specs.Images.{flipped}
use Rattle.acc_lend.proofs.Turns.{changed}
use Rattle.acc_lend.proofs.bytewise.XorKernel.run.Given as goal

abbrev pub invariant-loop-byte : goal.invariant-loop-byte
invariant-loop-byte l = l.part ≡ changed (flipped l.self.0) l.at l.byte-index l.initial.part
