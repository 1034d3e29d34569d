use Rattle.std.proofs.Common.{◌≡◌, take}
use Rattle.acc_dev.specs.Kept.{blocks_in}
use Rattle.acc_index.specs.Indexed.{live_entries}
use Rattle.acc_dev.proofs.copying.copy_blocks_of.Given as goal

-- the blocks of the entries so far are copied
abbrev pub invariant-loop-entry : goal.invariant-loop-entry
invariant-loop-entry l = l.blocks.items ≡ blocks_in l.slab.slots (live_entries (take l.entry-index l.entry-items))
