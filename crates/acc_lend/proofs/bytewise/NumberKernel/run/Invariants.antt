use Rattle.std.proofs.Common.{◌≡◌}
use Rattle.acc_lend.specs.Images.{number_image}
use Rattle.acc_lend.proofs.Turns.{changed}
use Rattle.acc_lend.proofs.bytewise.NumberKernel.run.Given as goal

abbrev pub invariant-loop-i : goal.invariant-loop-i
invariant-loop-i l = l.part ≡ changed (number_image l.self.0) l.at l.i l.initial.part
