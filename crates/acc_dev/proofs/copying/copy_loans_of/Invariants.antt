use Rattle.std.proofs.Common.{◌≡◌, take}
use Rattle.acc_dev.specs.Kept.{loans_in}
use Rattle.acc_index.specs.Indexed.{live_entries}
use Rattle.acc_dev.proofs.copying.copy_loans_of.Given as goal

-- the loans of the entries so far are copied
abbrev pub invariant-loop-entry : goal.invariant-loop-entry
invariant-loop-entry l = l.loans.items ≡ loans_in l.slab.slots (live_entries (take l.entry-index l.entry-items))
