use Rattle.std.proofs.Common.{◌+◌, ◌≤◌, false, length}
use Rattle.acc_read.specs.Lines.{lines_of}
use Rattle.acc_script.specs.Sessions.{session_state}
use Rattle.acc_script.specs.Scripts.{transcript_from}
use Rattle.acc_script.proofs.LineByLine.{PlaysOn}
use Rattle.acc_script.proofs.runs.play_lines.Given as goal

-- what the lines that are left come to is what all lines come to
abbrev pub invariant-lines : goal.invariant-lines
invariant-lines g l = record {
  rest : PlaysOn (transcript_from 1 (session_state l.fn.session) false (lines_of l.input)) (transcript_from (l.done + 1) (session_state l.session) l.refused (lines_of l.rest))
      (g.W.Sink.told l.fn.writer) (g.W.Sink.told l.writer);
  count : l.done + length l.rest ≤ length l.input;
}

abbrev pub decreases-lines : goal.decreases-lines
decreases-lines g l = length l.rest
