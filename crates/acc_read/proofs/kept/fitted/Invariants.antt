use Rattle.std.proofs.Common.{◌≡◌, length, take, vec_capacity}
use Rattle.acc_read.proofs.kept.fitted.Given as goal

-- the copy has the items so far, and room for all of them alone
abbrev pub invariant-loop-item : goal.invariant-loop-item
invariant-loop-item g l = (l.copy.items ≡ take l.item-index l.items) × (vec_capacity l.copy ≡ length l.items)
