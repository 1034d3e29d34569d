use Rattle.std.proofs.Common.{◌≡◌}
use Rattle.acc_lend.specs.Images.{summed}
use Rattle.acc_lend.proofs.Turns.{changed}
use Rattle.acc_lend.proofs.bytewise.add_each.Given as goal

abbrev pub invariant-loop-i : goal.invariant-loop-i
invariant-loop-i l = l.part ≡ changed (summed l.src) 0 l.i l.initial.part
