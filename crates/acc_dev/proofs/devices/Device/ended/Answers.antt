use Rattle.std.proofs.Common.{◌≡◌, None, Some, refl, sym, subst}
use Rattle.std.specs.Prelude.{IsSome}
use Rattle.acc_base.specs.Blocks.{block_at}
use Rattle.acc_dev.specs.Marks.{lowest_ended}
use Rattle.acc_dev.specs.Device.{DeviceState}
use Rattle.acc_dev.specs.Kept.{blocks_in, marks_in}
use Rattle.acc_dev.specs.Room.{room_ready}
use Rattle.acc_dev.proofs.EndedPlaces.{next_ended}
use Rattle.acc_dev.proofs.Ending.{own_in, told_next}
use Rattle.acc_dev.proofs.devices.Device.ended.Goals as goal

pub stored-stored-requires : goal.stored-stored-requires
stored-stored-requires c =
    let s = c.self.inside in
    let found = next_ended s.ended_blocks (blocks_in s.slab.slots s.index.entries) (marks_in s.slab.slots s.index.entries) s.births c.args.from (Some c.in_ok-block.block) c.self.invariant.3 (own_in s.holes s.slab.slots s.index.entries s.births (room_ready s) c.self.invariant.0 c.self.invariant.1) c.in_ok-block.ensures.rising c.in_ok-block.ensures.found in
    subst (λ (d : DeviceState). IsSome (block_at c.in_ok-block.block d.blocks)) c.self.view_is (subst IsSome (sym found.1) refl)

pub returns-in_err-block : goal.returns-in_err-block
returns-in_err-block c =
    let s = c.self.inside in
    let none = next_ended s.ended_blocks (blocks_in s.slab.slots s.index.entries) (marks_in s.slab.slots s.index.entries) s.births c.args.from None c.self.invariant.3 (own_in s.holes s.slab.slots s.index.entries s.births (room_ready s) c.self.invariant.0 c.self.invariant.1) c.in_err-block.ensures.rising c.in_err-block.ensures.found in
    rw c.from_residual.ensures (subst (λ (d : DeviceState). None ≡ lowest_ended c.args.from d.marks d.blocks) c.self.view_is (sym none))

pub returns : goal.returns
returns c =
    let s = c.self.inside in
    let found = next_ended s.ended_blocks (blocks_in s.slab.slots s.index.entries) (marks_in s.slab.slots s.index.entries) s.births c.args.from (Some c.in_ok-block.block) c.self.invariant.3 (own_in s.holes s.slab.slots s.index.entries s.births (room_ready s) c.self.invariant.0 c.self.invariant.1) c.in_ok-block.ensures.rising c.in_ok-block.ensures.found in
    rw c.rounded.ensures.value (told_next s.holes s.slab.slots s.index.entries s.births c.in_ok-block.block c.args.from (room_ready s) c.stored-stored.result.now c.args.self.now c.self.view_is found c.stored-stored.ensures)
