use Rattle.std.proofs.Common.{ap, ◌+◌, ◌%◌}
use Rattle.acc_lend.specs.Images.{number_image}
use Rattle.acc_lend.proofs.Turns.{turn}
use Rattle.acc_lend.proofs.bytewise.NumberKernel.run.Goals as goal

pub loop-i-preserved : goal.loop-i-preserved
loop-i-preserved c = turn (number_image c.args.self.now.0) _ _ _ _ _ c.loop-i.invariant c.loop-i-test.true (ap (λ k. (k + (c.args.at + c.loop-i.i)) % 256) c.from-number.ensures)
