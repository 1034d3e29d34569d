use Rattle.std.proofs.Common.{◌≡◌, map, length}
use Rattle.std.specs.Cmp.Lexicographic.{pointwise}
use Rattle.std.specs.Iterator.Adapters.{zip_first, zip_second}
use Rattle.std.specs.Slice.Iter.{iter_rest}
use Rattle.acc_present.specs.Present.{region_of}
use Rattle.acc_clauses.specs.Alike.{is_same_region}
use Rattle.acc_clauses.proofs.comparing.are_same_regions.Given as goal

-- what is left on both sides is as long, and as much the same as all
abbrev pub invariant-loop-region : goal.invariant-loop-region
invariant-loop-region l =
    let xs = iter_rest (zip_first l.region-iterator) in
    let ys = iter_rest (zip_second l.region-iterator) in
    (length xs ≡ length ys) × (pointwise is_same_region (map region_of l.regions) (map region_of l.others) ≡ pointwise is_same_region (map region_of xs) (map region_of ys))
