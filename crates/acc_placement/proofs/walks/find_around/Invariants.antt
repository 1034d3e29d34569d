use Rattle.std.proofs.Common.{◌≡◌, ◌^◌}
use Rattle.std.specs.Option.{option_or}
use Rattle.acc_base.specs.Holes.{IsRising}
use Rattle.acc_placement.specs.Listing.{first_from, last_before}
use Rattle.acc_placement.specs.Nodes.{holes_in, height_of}
use Rattle.acc_placement.proofs.walks.find_around.Given as goal

abbrev pub invariant-down : goal.invariant-down
invariant-down l = record {
  rising : IsRising 0 (holes_in l.rest) (2 ^ 41);
  before : option_or (last_before l.place (holes_in l.rest)) l.before ≡ last_before l.place (holes_in l.tree);
  from : option_or (first_from l.place (holes_in l.rest)) l.from ≡ first_from l.place (holes_in l.tree);
}

abbrev pub decreases-down : goal.decreases-down
decreases-down l = height_of l.rest
