use Rattle.std.proofs.Common.{arith}
use Rattle.std.proofs.lemmas.Bool.Decides.{nat_tests}
use Rattle.acc_clauses.proofs.Outlining.{counters_over_without}
use Rattle.acc_clauses.proofs.outlines.Outline.is_without.Goals as goal

pub returns : goal.returns
returns c = λ is xs counters outlined. counters_over_without c.args.block c.args.self.now.marks counters xs (grind (arith, nat_tests)) outlined.marked
