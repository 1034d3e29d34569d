use Rattle.std.proofs.Common.{sym, ◌∙◌, arith}
use Rattle.std.proofs.lemmas.Bool.Decides.{nat_tests}
use Rattle.acc_present.proofs.Finding.{absent_before, partly_first}
use Rattle.acc_present.proofs.ranges.told_by.Goals as goal

pub returns-then-ends_before-clause-told : goal.returns-then-ends_before-clause-told
returns-then-ends_before-clause-told c = λ others m. absent_before c.args.section c.args.blocks.now c.args.first others c.requires.some m (grind (arith, nat_tests))

pub returns-clause-told : goal.returns-clause-told
returns-clause-told c = λ others m. partly_first c.args.section c.args.blocks.now c.args.first others c.requires.some m (sym c.is_listed.ensures ∙ c.if-is_listed.false) (sym c.within.ensures.test ∙ c.if-within.false) (grind (arith, nat_tests)) (grind (arith, nat_tests))
