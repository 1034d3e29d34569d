use Rattle.std.proofs.Common.{◌+◌, refl, arith}
use Rattle.acc_ordered.proofs.Joining.{pair_at}
use Rattle.acc_ordered.proofs.changes.are_few.Goals as goal

pub returns-then-row-len : goal.returns-then-row-len
returns-then-row-len g c = pair_at c.args.rows.now.items c.args.row (c.args.row + 1) c.len-then-row-len.result c.len-then-row-len-2.result c.index.result.now c.index-then-row-len.result.now refl (omega (arith, c.if-row-len.true)) c.index.ensures c.index-then-row-len.ensures c.len-then-row-len.ensures.value c.len-then-row-len-2.ensures.value
