use Rattle.std.proofs.Common.{arith}
use Rattle.std.proofs.lemmas.Bool.{false≢true}
use Rattle.acc_clauses.proofs.AimsJudged.{pointer_there, pointer_fits}
use Rattle.acc_clauses.proofs.views.View.device_pointer.Goals as goal

pub returns-in_default : goal.returns-in_default
returns-in_default c e free = absurd (false≢true (c.in_default.ensures.there.1 (pointer_there c.args.self.now.limits c.args.self.now.state.records c.args.block c.args.pointer c.laws.ensures.sound.records e, free)))

pub returns-then-saturating_sub-lt8 : goal.returns-then-saturating_sub-lt8
returns-then-saturating_sub-lt8 c e free = grind (arith, pointer_fits c.args.self.now.limits c.args.self.now.state c.args.block c.args.pointer c.laws.ensures.sound.records c.laws.ensures.sound.memories e free)
