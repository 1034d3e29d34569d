use Rattle.std.proofs.Common.{arith}
use Rattle.std.proofs.lemmas.Bool.Decides.{nat_tests}
use Rattle.acc_present.proofs.Finding.{told_within}
use Rattle.acc_present.proofs.presence.Present.find_within.Goals as goal

pub returns-clause-found : goal.returns-clause-found
returns-clause-found c = told_within c.args.section c.args.blocks.now c.args.self.now.table.ranges c.in_ok-range.range (grind (arith, nat_tests)) c.laws.ensures.mapped c.in_ok-range.ensures (grind (arith, nat_tests)) (grind (arith, nat_tests))
