use Rattle.std.proofs.Common.{◌≡◌, take}
use Rattle.std.specs.List.{list_all}
use Rattle.acc_read.proofs.runs.all_in.Given as goal

abbrev pub invariant-loop-byte : goal.invariant-loop-byte
invariant-loop-byte g l = l.all ≡ list_all g.T.ByteTest.test (take l.byte-index l.run)
