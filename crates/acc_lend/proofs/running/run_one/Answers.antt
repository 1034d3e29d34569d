use Rattle.std.proofs.Common.{rules}
use Rattle.acc_lend.proofs.Writing.{kept_outside}
use Rattle.acc_lend.proofs.running.run_one.Goals as goal

pub returns-clause-outside : goal.returns-clause-outside
returns-clause-outside g c = kept_outside _ c.run.new.part c.section_mut.ensures.laws (search rules)
