use Rattle.std.proofs.Common.{◌≡◌, ◌++◌, take}
use Rattle.acc_ordered.specs.Listing.{told_in}
use Rattle.acc_ordered.proofs.rows.Row.copy_into.Given as goal

-- what is told of the entries so far stands behind what was there
abbrev pub invariant-loop-place : goal.invariant-loop-place
invariant-loop-place g l = l.copied.items ≡ l.fn.copied.items ++ told_in (g.C.Telling.told l.telling) (take l.place l.self)
