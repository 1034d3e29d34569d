use Rattle.std.proofs.Common.{drop}
use Rattle.acc_script.specs.Texts.{each_text}
use Rattle.acc_script.proofs.LeftToWrite.{Leaves}
use Rattle.acc_script.proofs.print.reports.write_each.Given as goal

-- the devices before this one are written
abbrev pub invariant-loop-device : goal.invariant-loop-device
invariant-loop-device g l = let devices = l.table.state.devices in Leaves (g.W.Sink.told l.fn.writer) (g.W.Sink.told l.writer) (each_text 0 devices) (each_text l.device (drop l.device devices))
