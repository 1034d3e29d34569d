use Rattle.std.proofs.Common.{◌≡◌, length, take, vec_capacity}
use Rattle.std.specs.Prelude.{map}
use Rattle.acc_index.specs.Indexed.{live_entries}
use Rattle.acc_present.specs.Present.{region_of}
use Rattle.acc_present.specs.Kept.{regions_in}
use Rattle.acc_present.proofs.copying.copy_regions_of.Given as goal

-- the regions so far are copied, into as many places as regions are open
abbrev pub invariant-loop-place : goal.invariant-loop-place
invariant-loop-place l = record {
  copied : map region_of l.copied.items ≡ regions_in (live_entries (take l.place-index l.place-items));
  exact : vec_capacity l.copied ≡ length l.regions.entries;
}
