use Rattle.std.proofs.Common.{◌≡◌, ◌+◌, ◌<◌, false, sym, ◌∙◌, arith}
use Rattle.std.proofs.lemmas.Bool.{eqb-true}
use Rattle.acc_base.specs.Devices.{open_regions}
use Rattle.acc_read.specs.Lines.{lines_of}
use Rattle.acc_script.specs.Sessions.{session_state}
use Rattle.acc_script.specs.Scripts.{transcript_from}
use Rattle.acc_script.proofs.LineByLine.{line_on, line_ends, ends_well, ends_unclosed, lines_none}
use Rattle.acc_script.proofs.runs.play_lines.Goals as goal

pub lines-init : goal.lines-init
lines-init g c = record { rest = λ last result h. h; count = omega arith }

pub returns-in-Err : goal.returns-in-Err
returns-in-Err g c =
    let told = g.W.Sink.told in
    let all = transcript_from 1 (session_state c.args.session.now) false (lines_of c.args.input.now) in
    line_ends all (c.lines.done + 1) (session_state c.lines.session) c.lines.refused (lines_of c.lines.rest.now) (told c.args.writer.now) (told c.lines.writer) c.lines.invariant.rest c.next_line.result.0.now (lines_of c.next_line.result.1.now) c.next_line.ensures.line
    (told c.run_line.new.writer) (session_state c.run_line.new.session) c.in-Err.fault c.in-Err.ensures

pub lines-preserved : goal.lines-preserved
lines-preserved g c =
    let told = g.W.Sink.told in
    let all = transcript_from 1 (session_state c.args.session.now) false (lines_of c.args.input.now) in
    record {
      rest = line_on all (c.lines.done + 1) (session_state c.lines.session) c.lines.refused (lines_of c.lines.rest.now) (told c.args.writer.now) (told c.lines.writer) c.lines.invariant.rest c.next_line.result.0.now (lines_of c.next_line.result.1.now) c.next_line.ensures.line
          (told c.run_line.new.writer) (session_state c.run_line.new.session) c.in-Ok.is_refused c.in-Ok.ensures;
      count = omega (arith, c.lines.invariant.count, c.next_line.ensures.shorter);
    }

pub returns-then-regions-gt0 : goal.returns-then-regions-gt0
returns-then-regions-gt0 g c =
    let told = g.W.Sink.told in
    let s = session_state c.lines.session in
    let empty = lines_none c.lines.rest.now (eqb-true _ _ (sym c.is_empty.ensures ∙ c.lines-test.false)) in
    let some_region : 0 < open_regions s.world.state = omega (arith, c.regions.ensures, c.if-regions-gt0.true) in
    ends_unclosed (transcript_from 1 (session_state c.args.session.now) false (lines_of c.args.input.now)) (c.lines.done + 1) s c.lines.refused (lines_of c.lines.rest.now) (told c.args.writer.now) (told c.lines.writer) c.lines.invariant.rest empty some_region

pub returns : goal.returns
returns g c =
    let told = g.W.Sink.told in
    let s = session_state c.lines.session in
    let empty = lines_none c.lines.rest.now (eqb-true _ _ (sym c.is_empty.ensures ∙ c.lines-test.false)) in
    let no_region : open_regions s.world.state ≡ 0 = omega (arith, c.regions.ensures, c.if-regions-gt0.false) in
    rw c.status_of-status.ensures (ends_well (transcript_from 1 (session_state c.args.session.now) false (lines_of c.args.input.now)) (c.lines.done + 1) s c.lines.refused (lines_of c.lines.rest.now) (told c.args.writer.now) (told c.lines.writer) c.lines.invariant.rest empty no_region)
