use Rattle.std.proofs.Common.{◌-◌, ◌^◌}
use Rattle.acc_base.specs.Devices.{view}
use Rattle.acc_script.specs.Texts.{ranges_text}
use Rattle.acc_script.proofs.LeftToWrite.{Leaves}
use Rattle.acc_script.proofs.RisingRanges.{ranges_texts}
use Rattle.acc_script.proofs.print.ranges.write_ranges.Given as goal

-- the ranges that start below the place of the search are written
abbrev pub invariant-each : goal.invariant-each
invariant-each g l = let w = (view l.device l.table.state).records in Leaves (g.W.Sink.told l.fn.writer) (g.W.Sink.told l.writer) (ranges_text w) (ranges_texts l.from w)

abbrev pub decreases-each : goal.decreases-each
decreases-each g l = 2 ^ 64 - l.from
