use Rattle.std.proofs.Common.{◌≡◌, not, take}
use Rattle.std.specs.List.{list_any}
use Rattle.acc_stale.specs.Marks.{is_mark}
use Rattle.acc_stale.proofs.marks.has_other.Given as goal

abbrev pub invariant-loop-m : goal.invariant-loop-m
invariant-loop-m l = l.found ≡ list_any (λ m. not (is_mark l.mark m)) (take l.m-index l.marks)
