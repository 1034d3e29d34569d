use Rattle.std.proofs.Common.{arith}
use Rattle.acc_clauses.proofs.Freed.{place_lent, place_free}
use Rattle.acc_clauses.proofs.lending.queue_free.Goals as goal

pub returns-in_err-not_lent : goal.returns-in_err-not_lent
returns-in_err-not_lent c = grind (arith, place_lent)

pub loop-place-preserved : goal.loop-place-preserved
loop-place-preserved c = grind (arith, place_free c.loop-place.place _ (c.args.view.now.state.records).loans _ c.waiting_block.result c.waiting_block.ensures c.loop-place.invariant _ c.in_ok-not_lent.ensures)
