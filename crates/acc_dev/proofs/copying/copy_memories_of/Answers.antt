use Rattle.std.proofs.Common.{[], ◌∷◌, ◌++◌, take, IsSome, ap, sym, ◌∙◌, arith}
use Rattle.std.specs.Prelude.{map}
use Rattle.std.proofs.lemmas.List.{map-append}
use Rattle.acc_dev.specs.Device.{memory_saved}
use Rattle.acc_dev.specs.Kept.{memory_from, slot_of, memories_in}
use Rattle.acc_index.specs.Indexed.{live_entries, blank_entry}
use Rattle.acc_index.proofs.Indexing.{live_same}
use Rattle.acc_dev.proofs.Copied.{live_has, made_more}
use Rattle.acc_dev.proofs.copying.copy_memories_of.Goals as goal
use Rattle.acc_dev.proofs.copying.copy_memories_of.Goals.{in-Some+in_ok-memory_at+in_ok-push, in_default}

pub memory_at-requires : goal.memory_at-requires
memory_at-requires c = live_has (λ e. IsSome (slot_of c.args.slab.now.slots e)) c.items-entry-items.result.now c.loop-entry.entry-index c.in-Some.slot (omega arith) c.in-Some.is (rw c.items-entry-items.ensures (c.requires.filled))

pub loop-entry-preserved : goal.loop-entry-preserved
loop-entry-preserved c =
    let xs = c.items-entry-items.result.now in
    elim c.match-entry.branch [
      | in-Some+in_ok-memory_at+in_ok-push w ↦
          let more = made_more memory_from c.args.slab.now.slots xs c.loop-entry.entry-index w.in-Some.slot (omega arith) w.in-Some.is in
          ap (λ v. map memory_saved v.items) w.memories-is
          ∙ ap (map memory_saved) w.in_ok-push.ensures.items
          ∙ map-append memory_saved c.loop-entry.memories.items (w.in_ok-memory_at.field-0 ∷ [])
          ∙ ap (λ ms. ms ++ memory_saved w.in_ok-memory_at.field-0 ∷ []) c.loop-entry.invariant
          ∙ ap (λ m. memories_in c.args.slab.now.slots (live_entries (take c.loop-entry.entry-index xs)) ++ m ∷ []) w.in_ok-memory_at.ensures.ok
          ∙ sym more
      | in_default w ↦
          let same = ap (memories_in c.args.slab.now.slots) (live_same xs c.loop-entry.entry-index blank_entry (omega arith) w.in_default.is) in
          cc
    ]
