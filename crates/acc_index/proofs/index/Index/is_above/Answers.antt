use Rattle.std.proofs.Common.{sym, arith}
use Rattle.std.proofs.lemmas.Bool.{OnTrue_from}
use Rattle.std.proofs.lemmas.Bool.Decides.{nat_tests}
use Rattle.std.specs.Prelude.{nat_lt}
use Rattle.acc_index.proofs.Indexing.{above_last, above_none}
use Rattle.acc_index.proofs.index.Index.is_above.Goals as goal

pub returns-in-Some-clause-above : goal.returns-in-Some-clause-above
returns-in-Some-clause-above g c = OnTrue_from (nat_lt c.in-Some.last c.args.number) _ (λ less. above_last c.args.self.now.entries c.in-Some.last c.args.number c.laws.ensures.rising (sym c.in-Some.ensures) (grind (arith, nat_tests)))

pub returns-in-None-clause-above : goal.returns-in-None-clause-above
returns-in-None-clause-above g c = above_none c.args.self.now.entries c.args.number (sym c.in-None.ensures)
