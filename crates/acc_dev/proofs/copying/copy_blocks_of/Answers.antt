use Rattle.std.proofs.Common.{IsSome, ap, arith}
use Rattle.acc_dev.specs.Kept.{block_from, slot_of, blocks_in}
use Rattle.acc_index.specs.Indexed.{blank_entry}
use Rattle.acc_index.proofs.Indexing.{live_same}
use Rattle.acc_dev.proofs.Copied.{live_has, made_more}
use Rattle.acc_dev.proofs.copying.copy_blocks_of.Goals as goal
use Rattle.acc_dev.proofs.copying.copy_blocks_of.Goals.{in-Some+in_ok-push, in_default}

pub block_at-requires : goal.block_at-requires
block_at-requires c = live_has (λ e. IsSome (slot_of c.args.slab.now.slots e)) c.items-entry-items.result.now c.loop-entry.entry-index c.in-Some.slot (omega arith) c.in-Some.is (rw c.items-entry-items.ensures (c.requires.filled))

pub loop-entry-preserved : goal.loop-entry-preserved
loop-entry-preserved c =
    let xs = c.items-entry-items.result.now in
    elim c.match-entry.branch [
      | in-Some+in_ok-push w ↦
          let more = made_more block_from c.args.slab.now.slots xs c.loop-entry.entry-index w.in-Some.slot (omega arith) w.in-Some.is in
          let pushed = w.in_ok-push.ensures.items in
          cc
      | in_default w ↦
          let same = ap (blocks_in c.args.slab.now.slots) (live_same xs c.loop-entry.entry-index blank_entry (omega arith) w.in_default.is) in
          cc
    ]
