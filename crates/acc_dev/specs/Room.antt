-- How a device keeps room for births to come: an empty vector of bytes for each, and places in its lists. No public
-- clause cites this module.
use Rattle.std.specs.Prelude.{ℕ, ◌≡◌, ◌+◌, ◌^◌, ◌≤◌, List, [], map, length, vec_capacity}
use Rattle.std.specs.List.{AllByRecursion}
use Rattle.slab.specs.Slab.{slab_len}
use Rattle.acc_dev.specs.declared.devices.Device.TheInside.{Inside}

-- the lengths for which there is room
abbrev pub room_ready : Inside → List ℕ
room_ready d = map (λ v. vec_capacity v) d.ready.items

-- there are not too many, and each vector is empty. For each there is room in the holes, the slots, the index and the
-- list of the blocks that have ended
pub record HasRoom (d : Inside) : Type 0 where
  pub few : length d.ready.items ≤ 2 ^ 16
  pub empty : AllByRecursion (λ v. v.items ≡ []) d.ready.items
  pub holes : length d.ready.items ≤ d.holes.spare
  pub slots : slab_len d.slab + length d.ready.items ≤ d.slab.capacity
  pub entries : length d.ready.items ≤ d.index.room
  pub ended : length d.ready.items ≤ d.ended_blocks.room
