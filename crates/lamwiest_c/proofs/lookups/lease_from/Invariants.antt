use Rattle.std.proofs.Common.{◌≡◌, drop}
use Rattle.lamwiest_c.proofs.Looking.{first_told}
use Rattle.lamwiest_c.proofs.lookups.lease_from.Given as goal

-- what is told of the first of the places that are left is told of the first of all
abbrev pub invariant-loop-entry : goal.invariant-loop-entry
invariant-loop-entry l = first_told l.from (drop l.entry-index l.items) ≡ first_told l.from l.items
