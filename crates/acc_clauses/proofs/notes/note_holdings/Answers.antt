use Rattle.std.proofs.Common.{arith, append_assoc}
use Rattle.std.proofs.lemmas.List.{drop_more}
use Rattle.acc_clauses.proofs.Remaining.{holdings_done}
use Rattle.acc_clauses.proofs.notes.note_holdings.Goals as goal

pub loop-x-preserved : goal.loop-x-preserved
loop-x-preserved c = grind (arith, drop_more, append_assoc)

pub returns : goal.returns
returns c = holdings_done c.args.acts.now c.loop-x.x-index c.loop-x.holdings.items _ (omega arith) c.loop-x.invariant.so_far
