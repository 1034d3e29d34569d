use Rattle.std.proofs.Common.{Option, Result, Ok, Err, false, inr, subst}
use Rattle.acc_base.specs.declared.faults.Fault.{Fault}
use Rattle.acc_base.specs.declared.faults.Fault.TheVariants.{Memory}
use Rattle.acc_read.specs.Lines.{lines_of}
use Rattle.acc_script.specs.declared.runs.Status.{Status}
use Rattle.acc_script.specs.Told.{Taken}
use Rattle.acc_script.specs.Scripts.{SessionState, Transcript, transcript, transcript_from}
use Rattle.acc_script.specs.Runs.{LinesPlayed, Played}
use Rattle.acc_script.proofs.runs.run_text.Goals as goal

-- lines that were played were played as a whole
played : (t : Transcript) (old new : Option Taken) (r : Result Status Fault) → LinesPlayed t old new r → Played t old new r
played t old new (Ok status) h = h
played t old new (Err Memory) h = inr h
played t old new (Err _) h = h

pub returns : goal.returns
unfolding transcript
returns g c = played (transcript c.args.config c.args.input.now) (g.W.Sink.told c.args.writer.now) (g.W.Sink.told c.play_lines.new.writer) c.play_lines.result
    (subst (λ (s : SessionState). LinesPlayed (transcript_from 1 s false (lines_of c.args.input.now)) (g.W.Sink.told c.args.writer.now) (g.W.Sink.told c.play_lines.new.writer) c.play_lines.result) c.in_ok-session.ensures c.play_lines.ensures)
