use Rattle.std.proofs.Common.{◌≡◌, ◌<◌, ◌^◌}
use Rattle.acc_base.specs.Section.{end_of}
use Rattle.acc_base.specs.Devices.{view}
use Rattle.acc_script.specs.Texts.{pointers_text}
use Rattle.acc_script.proofs.LeftToWrite.{Leaves}
use Rattle.acc_script.proofs.print.pointers.write_pointers.Given as goal

-- the pointers that begin before the rest of the section are written
abbrev pub invariant-each : goal.invariant-each
invariant-each g l = let w = (view l.device l.table.state).records in record {
  ends : end_of l.rest ≡ l.end;
  low : l.end < 2 ^ 32;
  left : Leaves (g.W.Sink.told l.fn.writer) (g.W.Sink.told l.writer) (pointers_text l.fn.section w) (pointers_text l.rest w);
}

abbrev pub decreases-each : goal.decreases-each
decreases-each g l = l.rest.len
