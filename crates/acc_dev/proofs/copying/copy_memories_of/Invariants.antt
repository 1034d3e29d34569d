use Rattle.std.proofs.Common.{◌≡◌, take}
use Rattle.std.specs.Prelude.{map}
use Rattle.acc_dev.specs.Device.{memory_saved}
use Rattle.acc_dev.specs.Kept.{memories_in}
use Rattle.acc_index.specs.Indexed.{live_entries}
use Rattle.acc_dev.proofs.copying.copy_memories_of.Given as goal

-- the bytes of the entries so far are copied
abbrev pub invariant-loop-entry : goal.invariant-loop-entry
invariant-loop-entry l = map memory_saved l.memories.items ≡ memories_in l.slab.slots (live_entries (take l.entry-index l.entry-items))
