use Rattle.std.proofs.Common.{inl, inr, arith}
use Rattle.std.proofs.lemmas.Bool.Decides.{nat_tests}
use Rattle.acc_clauses.proofs.Outlining.{found_over_clear}
use Rattle.acc_clauses.proofs.outlines.Outline.is_clear_of.Goals as goal

pub returns-then-end-from : goal.returns-then-end-from
returns-then-end-from c = λ is xs found outlined. found_over_clear c.args.self.now.low c.args.self.now.high c.args.section found xs (grind (arith, nat_tests)) (inl (grind (arith, nat_tests))) outlined.born

pub returns-else-end-from : goal.returns-else-end-from
returns-else-end-from c = λ is xs found outlined. found_over_clear c.args.self.now.low c.args.self.now.high c.args.section found xs (grind (arith, nat_tests)) (inr (grind (arith, nat_tests))) outlined.born
