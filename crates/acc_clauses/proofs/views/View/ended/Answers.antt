use Rattle.std.proofs.Common.{arith}
use Rattle.acc_clauses.specs.Contents.{beside}
use Rattle.acc_clauses.proofs.Standing.{ended_is}
use Rattle.acc_clauses.proofs.views.View.ended.Goals as goal

pub returns : goal.returns
returns c = grind (arith, ended_is (beside c.self.inside.environment.now c.self.inside.host.now) c.args.from c.self.invariant.marked c.self.invariant.sound.records.blocks_apart.apart c.laws.ensures.marks)
