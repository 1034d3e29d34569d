use Rattle.std.proofs.Common.{drop}
use Rattle.acc_base.specs.Devices.{view}
use Rattle.acc_script.specs.Texts.{queues_text}
use Rattle.acc_script.proofs.LeftToWrite.{Leaves}
use Rattle.acc_script.proofs.print.queues.write_queues.Given as goal

-- the queues before this one are written
abbrev pub invariant-loop-q : goal.invariant-loop-q
invariant-loop-q g l = let queues = (view l.device l.table.state).records.queues in Leaves (g.W.Sink.told l.fn.writer) (g.W.Sink.told l.writer) (queues_text 0 queues) (queues_text l.q (drop l.q queues))
