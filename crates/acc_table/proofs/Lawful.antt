-- The laws of every table, from what is accounted for.
use Rattle.std.proofs.Common.{ℕ, ◌<◌}
use Rattle.acc_base.specs.Limits.{IsWithinBounds, limits_on}
use Rattle.acc_base.specs.Section.{device_memory}
use Rattle.acc_base.specs.Holes.{IsDevice}
use Rattle.acc_base.specs.Devices.{view}
use Rattle.acc_base.specs.Calls.{World}
use Rattle.acc_base.specs.Accounts.{IsAccounted, IsAccountedOn}
use Rattle.acc_table.proofs.Apart.{region_placed}
use Rattle.acc_table.specs.Laws.{IsLawfulOn, IsLawful}

lawful_on : (w : World) (d : ℕ) → IsAccountedOn w.limits w.history d w.state → IsDevice (device_memory (limits_on d w.limits)) (view d w.state).records.blocks → IsLawfulOn w d
lawful_on w d h device = record {
  ranges = h.sound.layout.records.ranges_apart;
  blocks = h.sound.layout.records.blocks_apart;
  device = device;
  owned = h.sound.layout.records.one_block_each;
  counted = h.sound.layout.records.counted;
  traced = h.counters_traced;
  held = h.sound.layout.held;
  entries_held = h.entries_held;
  regions = h.sound.layout.register;
  attached = h.sound.layout.records.attached;
  attachments_traced = h.attachments_traced;
  queues = h.sound.layout.records.queues;
  loans = h.sound.layout.records.loans;
  memories = h.sound.memories_sized;
  alone = h.alone;
}

pub lawful : (w : World) → IsAccounted w → IsWithinBounds w.limits → ((d : ℕ) → d < w.limits.devices → IsDevice (device_memory (limits_on d w.limits)) (view d w.state).records.blocks) → IsLawful w
lawful w h bounds devices = record {
  bounds = bounds;
  count = h.as_many;
  devices = λ d there. lawful_on w d (h.devices d there) (devices d there);
  placed = region_placed w h;
  history = h.history_legal;
  replayed = h.memories_replayed;
  books = h.books_counted;
}
