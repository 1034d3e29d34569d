use Rattle.std.proofs.Common.{◌-◌, ◌^◌}
use Rattle.acc_base.specs.Devices.{view}
use Rattle.acc_script.specs.Texts.{ended_texts}
use Rattle.acc_script.proofs.LeftToWrite.{Leaves}
use Rattle.acc_script.proofs.print.blocks.write_ended.Given as goal

-- the blocks below the place of the search are written
abbrev pub invariant-each : goal.invariant-each
invariant-each g l = let w = (view l.device l.table.state).records in Leaves (g.W.Sink.told l.fn.writer) (g.W.Sink.told l.writer) (ended_texts 0 w) (ended_texts l.from w)

abbrev pub decreases-each : goal.decreases-each
decreases-each g l = 2 ^ 64 - l.from
