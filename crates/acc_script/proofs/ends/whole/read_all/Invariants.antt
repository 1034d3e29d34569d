use Rattle.std.proofs.Common.{◌≡◌, ◌-◌, ◌≤◌, length, vec_len}
use Rattle.acc_script.specs.Told.{Gave}
use Rattle.acc_script.proofs.ends.whole.read_all.Given as goal

-- what was read is what the source gave, within the limit
abbrev pub invariant-pieces : goal.invariant-pieces
invariant-pieces g l = record {
  gave : Gave (g.R.Source.told l.fn.reader) (g.R.Source.told l.reader) l.all.items;
  piece_len : length l.piece ≡ 4096;
  limit : vec_len l.all ≤ 16777216;
}

abbrev pub decreases-pieces : goal.decreases-pieces
decreases-pieces g l = 16777217 - vec_len l.all
