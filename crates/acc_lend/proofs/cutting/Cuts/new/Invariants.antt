use Rattle.std.proofs.Common.{◌≡◌, ◌+◌, ◌<◌, ℕ, get_or, sum, take}
use Rattle.acc_base.specs.declared.addresses.TheConstants.{MEMORY_MAX}
use Rattle.acc_lend.proofs.cutting.Cuts.new.Given as goal

abbrev pub invariant-loop-len : goal.invariant-loop-len
invariant-loop-len l = record {
  room : l.room + sum (take l.len-index l.len-items) ≡ MEMORY_MAX;
  filled : (k : ℕ) → k < l.len-index → 0 < get_or l.len-items k 0;
}
