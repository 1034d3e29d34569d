use Rattle.std.proofs.Common.{◌≡◌, take}
use Rattle.acc_ordered.specs.Laid.{side_by_side}
use Rattle.acc_ordered.specs.Listing.{told_in}
use Rattle.acc_ordered.proofs.copying.copy_rows.Given as goal

-- the entries of the rows so far are copied
abbrev pub invariant-loop-number : goal.invariant-loop-number
invariant-loop-number g l = l.copied.items ≡ told_in (g.C.Telling.told l.telling) (side_by_side (take l.number l.rows.items))
