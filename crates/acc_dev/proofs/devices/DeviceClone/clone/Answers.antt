use Rattle.std.proofs.Common.{rules, subst}
use Rattle.std.specs.Prelude.{map, vec_capacity}
use Rattle.acc_dev.specs.Device.{DeviceState, IsUnchanged}
use Rattle.acc_dev.specs.Kept.{blocks_in, marks_in}
use Rattle.acc_dev.specs.Room.{room_ready}
use Rattle.acc_index.proofs.Copied.{same_entries}
use Rattle.acc_dev.proofs.Cloned.{blocks-copied, marks-copied, copied_kept, copied_unchanged}
use Rattle.acc_dev.proofs.EndedPlaces.{ended_same}
use Rattle.acc_dev.proofs.Keeping.{device_of}
use Rattle.acc_dev.proofs.devices.DeviceClone.clone.Goals as goal

pub invariant_of-result : goal.invariant_of-result
invariant_of-result c =
    let s = c.self.inside in
    let t = c.in_ok-slab.slab.slots in
    let xs = s.index.entries in
    let kept = c.self.invariant in
    let all = c.in_ok-slab.ensures.cases.slots in
    let ended = c.in_ok-ended_blocks.ensures.cases in
    rw (same_entries _ xs c.in_ok-index.index.entries c.in_ok-index.ensures.cases (λ x y k. k)) (
      copied_kept s.holes c.in_ok-holes.holes s.slab.slots t xs c.in_ok-holes.ensures.cases all kept.0,
      kept.1,
      search rules,
      ended_same s.ended_blocks c.in_ok-ended_blocks.ended_blocks (blocks_in s.slab.slots xs) (blocks_in t xs) (marks_in s.slab.slots xs) (marks_in t xs) s.births kept.3 ended.0 ended.1 (blocks-copied s.slab.slots t xs all) (marks-copied s.slab.slots t xs all),
    )

pub returns : goal.returns
returns c =
    let s = c.self.inside in
    let xs = s.index.entries in
    let ys = c.in_ok-index.index.entries in
    let room = map (λ v. vec_capacity v) c.new.result.items in
    record {
      cases = subst (λ (d : DeviceState). IsUnchanged d (device_of c.in_ok-holes.holes c.in_ok-slab.slab.slots ys s.births room)) c.self.view_is
          (copied_unchanged s.holes c.in_ok-holes.holes s.slab.slots c.in_ok-slab.slab.slots xs ys s.births (room_ready s) room c.in_ok-holes.ensures.cases c.in_ok-slab.ensures.cases.slots (same_entries _ xs ys c.in_ok-index.ensures.cases (λ x y k. k)));
    }
