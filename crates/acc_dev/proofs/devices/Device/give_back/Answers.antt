use Rattle.std.proofs.Common.{◌≡◌, Bool, false, sym, subst, arith}
use Rattle.acc_base.specs.Loans.{is_lent}
use Rattle.acc_dev.specs.Room.{room_ready}
use Rattle.acc_dev.specs.Device.{DeviceState, IsRetired}
use Rattle.acc_dev.proofs.Keeping.{device_of, block_listed}
use Rattle.acc_dev.proofs.Ends.{retired_of, counted_left}
use Rattle.acc_dev.proofs.Writes.{free_at}
use Rattle.acc_dev.specs.Kept.{blocks_in, marks_in}
use Rattle.acc_dev.proofs.EndedPlaces.{IsFound, kept_there, counted_there, ended_left}
use Rattle.acc_dev.proofs.Ending.{found_stored}
use Rattle.acc_dev.proofs.devices.Device.give_back.Goals as goal

pub remove_block-requires-clause-there : goal.remove_block-requires-clause-there
remove_block-requires-clause-there c = block_listed c.self.inside c.args.self.now c.args.block c.self.view_is c.requires.there

pub remove_block-requires-clause-free : goal.remove_block-requires-clause-free
remove_block-requires-clause-free c = λ at entry.
    let s = c.self.inside in
    free_at s.holes s.slab.slots s.index.entries at c.args.block c.self.invariant.0 entry (subst (λ (d : DeviceState). is_lent c.args.block d.loans ≡ false) (sym c.self.view_is) c.requires.free)

pub leave-requires-clause-there : goal.leave-requires-clause-there
leave-requires-clause-there c ended =
    let s = c.self.inside in
    let found = found_stored s.holes s.slab.slots s.index.entries s.births c.args.block (room_ready s) c.stored_near-stored.result.now c.args.self.now c.self.invariant.0 c.self.invariant.1 c.self.view_is c.stored_near-stored.ensures in
    kept_there s.ended_blocks (blocks_in s.slab.slots s.index.entries) (marks_in s.slab.slots s.index.entries) s.births c.args.block (record { number = c.args.block; place = c.stored_near-stored.result.now.place; len = c.stored_near-stored.result.now.len }) c.self.invariant.3
    (subst (λ (o : Bool). IsFound c.args.block (blocks_in s.slab.slots s.index.entries) (marks_in s.slab.slots s.index.entries) (record { number = c.args.block; place = c.stored_near-stored.result.now.place; len = c.stored_near-stored.result.now.len }) o) ended found)

pub leave-requires-clause-mapped : goal.leave-requires-clause-mapped
leave-requires-clause-mapped c mapped =
    let s = c.self.inside in
    let found = found_stored s.holes s.slab.slots s.index.entries s.births c.args.block (room_ready s) c.stored_near-stored.result.now c.args.self.now c.self.invariant.0 c.self.invariant.1 c.self.view_is c.stored_near-stored.ensures in
    counted_there s.ended_blocks (blocks_in s.slab.slots s.index.entries) (marks_in s.slab.slots s.index.entries) s.births c.args.block (record { number = c.args.block; place = c.stored_near-stored.result.now.place; len = c.stored_near-stored.result.now.len }) c.self.invariant.3
    (subst (λ (o : Bool). IsFound c.args.block (blocks_in s.slab.slots s.index.entries) (marks_in s.slab.slots s.index.entries) (record { number = c.args.block; place = c.stored_near-stored.result.now.place; len = c.stored_near-stored.result.now.len }) o) mapped found)

pub returns : goal.returns
returns c =
    let s = c.self.inside in
    let lost = c.remove_block.ensures.lost in
    subst (λ (d : DeviceState). IsRetired d (device_of c.remove_block.new.holes c.remove_block.new.slab.slots c.remove_block.new.index.entries s.births (room_ready c.self.inside)) c.args.block) c.self.view_is
    (retired_of s.holes c.remove_block.new.holes s.slab.slots c.remove_block.new.slab.slots s.index.entries c.remove_block.new.index.entries s.births lost.at c.args.block (room_ready c.self.inside) c.self.invariant.0 lost.entry c.remove_block.ensures.memory lost.blocks lost.memories lost.marks lost.loans)

pub invariant_of-self : goal.invariant_of-self
invariant_of-self c =
    let s = c.self.inside in
    let r = c.self.invariant.2 in
    let out = c.remove_block.ensures in
    let lost = out.lost in
    let x = c.stored_near-stored.result.now in
    let found = found_stored s.holes s.slab.slots s.index.entries s.births c.args.block (room_ready s) c.stored_near-stored.result.now c.args.self.now c.self.invariant.0 c.self.invariant.1 c.self.view_is c.stored_near-stored.ensures in
    let now = retired_of s.holes c.remove_block.new.holes s.slab.slots c.remove_block.new.slab.slots s.index.entries c.remove_block.new.index.entries s.births lost.at c.args.block (room_ready s) c.self.invariant.0 lost.entry out.memory lost.blocks lost.memories lost.marks lost.loans in (
      out.kept,
      counted_left s.index.entries c.remove_block.new.index.entries s.births lost.at c.self.invariant.1 lost.index,
      record { few = r.few; empty = r.empty; holes = omega (arith, r.holes, out.spare); slots = omega (arith, r.slots, out.slots, out.slab_capacity); entries = omega (arith, r.entries, out.room_index); ended = omega (arith, r.ended, c.leave.ensures.room) },
      rw (now.blocks, now.marks) (ended_left s.ended_blocks c.leave.new.self (blocks_in s.slab.slots s.index.entries) (marks_in s.slab.slots s.index.entries) s.births c.args.block (record { number = c.args.block; place = x.place; len = x.len }) x.ended c.self.invariant.3 found c.leave.ensures.entries c.leave.ensures.mapped),
    )
