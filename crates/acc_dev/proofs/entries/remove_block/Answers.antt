use Rattle.std.proofs.Common.{◌≡◌, Some, get_or, ◌∙◌}
use Rattle.acc_dev.specs.Slots.{IsSlotOf}
use Rattle.acc_dev.specs.Kept.{block_from, memory_from, mark_from, slot_of}
use Rattle.acc_dev.proofs.Rising.{start}
use Rattle.acc_dev.proofs.Slots.{AreSame, KeepsOthers, made-removed}
use Rattle.acc_dev.proofs.Lent.{loans_in-same, loans_in-remove}
use Rattle.acc_dev.proofs.Keeping.{filled_slot, len_stored}
use Rattle.acc_dev.proofs.Ends.{taken_stored, same_left, left_kept}
use Rattle.std.specs.List.{remove}
use Rattle.acc_dev.proofs.entries.remove_block.Goals as goal

-- the slot is that of the block
slot : (c : goal.After-remove-arg-1) → IsSlotOf c.args.index.now.entries c.args.block c.take_out_near-slot.result
slot c = let lost = c.take_out_near-slot.ensures.lost in record { at = lost.at; entry = lost.entry; is = lost.is }

pub remove-place-requires : goal.remove-place-requires
remove-place-requires c = filled_slot c.args.holes.now c.args.slab.now.slots c.args.index.now.entries c.args.block c.take_out_near-slot.result c.requires.kept (slot c)

-- what the slot had
had : (c : goal.After-give_back-arg-1) → slot_of c.args.slab.now.slots (get_or c.args.index.now.entries c.take_out_near-slot.ensures.lost.at start) ≡ Some c.remove-place.result
had c = rw c.take_out_near-slot.ensures.lost.is c.remove-place.ensures.value

pub give_back-requires-clause-need : goal.give_back-requires-clause-need
give_back-requires-clause-need c = len_stored c.args.holes.now c.args.slab.now.slots c.args.index.now.entries c.take_out_near-slot.ensures.lost.at c.remove-place.result c.requires.kept c.take_out_near-slot.ensures.lost.entry.in_bounds (had c)

pub give_back-requires-clause-taken : goal.give_back-requires-clause-taken
give_back-requires-clause-taken c = taken_stored c.args.holes.now c.args.slab.now.slots c.args.index.now.entries c.take_out_near-slot.ensures.lost.at c.remove-place.result c.requires.kept c.take_out_near-slot.ensures.lost.entry.in_bounds (had c)

-- the slots of the other entries are as they were
others : (c : goal.After-give_back) → KeepsOthers c.args.slab.now.slots c.remove-place.new.self.slots (get_or c.args.index.now.entries c.take_out_near-slot.ensures.lost.at start).1
others c = rw c.take_out_near-slot.ensures.lost.is c.remove-place.ensures.updates.others

same_slots : (c : goal.After-give_back) → AreSame c.args.slab.now.slots c.remove-place.new.self.slots (remove c.args.index.now.entries c.take_out_near-slot.ensures.lost.at)
same_slots c = same_left c.args.slab.now.slots c.remove-place.new.self.slots c.args.index.now.entries c.take_out_near-slot.ensures.lost.at c.requires.kept.distinct c.take_out_near-slot.ensures.lost.entry.in_bounds (others c)

pub returns-clause-kept : goal.returns-clause-kept
returns-clause-kept c =
    let lost = c.take_out_near-slot.ensures.lost in
    rw lost.left (left_kept c.args.holes.now c.give_back.new.self c.args.slab.now.slots c.remove-place.new.self.slots c.args.index.now.entries lost.at c.remove-place.result
    c.requires.kept lost.entry.in_bounds (rw lost.is c.remove-place.ensures.value) (others c) (rw lost.is c.remove-place.ensures.updates.changed) c.give_back.ensures.canonical c.give_back.ensures.partition)

pub returns-clause-lost : goal.returns-clause-lost
returns-clause-lost c =
    let s = c.args.slab.now.slots in
    let t = c.remove-place.new.self.slots in
    let xs = c.args.index.now.entries in
    let lost = c.take_out_near-slot.ensures.lost in
    record {
      at = lost.at;
      entry = lost.entry;
      index = lost.left;
      blocks = rw lost.left (made-removed block_from s t xs lost.at (same_slots c));
      memories = rw lost.left (made-removed memory_from s t xs lost.at (same_slots c));
      marks = rw lost.left (made-removed mark_from s t xs lost.at (same_slots c));
      loans = rw lost.left (loans_in-same s t (remove xs lost.at) (same_slots c) ∙ loans_in-remove s xs lost.at lost.entry.in_bounds (c.requires.free lost.at lost.entry));
    }
