use Rattle.std.proofs.Common.{refl}
use Rattle.acc_lend.specs.Images.{flipped}
use Rattle.acc_lend.proofs.Turns.{turn}
use Rattle.acc_lend.proofs.bytewise.XorKernel.run.Goals as goal

pub loop-byte-preserved : goal.loop-byte-preserved
loop-byte-preserved c = turn (flipped c.args.self.now.0) _ _ _ _ _ c.loop-byte.invariant c.loop-byte-test.true refl
