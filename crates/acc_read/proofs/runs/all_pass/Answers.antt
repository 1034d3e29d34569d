use Rattle.std.proofs.Common.{◌≡◌, ◌+◌, ◌-◌, ◌≤◌, true, length, take, drop, sym, ◌∙◌, ap, arith}
use Rattle.std.specs.List.{list_all}
use Rattle.std.proofs.lemmas.List.{take_rest}
use Rattle.acc_read.proofs.ByteRuns.{run_passes, run_overlaps}
use Rattle.acc_read.proofs.runs.all_pass.Goals as goal

pub loop-at-preserved : goal.loop-at-preserved
loop-at-preserved g c =
    let n : c.loop-at.at + 16 - c.loop-at.at ≡ 16 = omega arith in
    let run : list_all g.T.ByteTest.test (take 16 (drop c.loop-at.at c.args.bytes.now)) ≡ true = cc in
    record { within = omega arith; left = run_passes g.T.ByteTest.test c.args.bytes.now c.loop-at.at 16 run c.loop-at.invariant.left }

pub returns : goal.returns
returns g c =
    let from : length c.args.bytes.now - 16 ≤ c.loop-at.at = omega arith in
    c.all_in-2.ensures ∙ ap (list_all g.T.ByteTest.test) (take_rest c.args.bytes.now (length c.args.bytes.now - 16))
    ∙ sym (run_overlaps g.T.ByteTest.test c.args.bytes.now c.loop-at.at (length c.args.bytes.now - 16) from c.loop-at.invariant.left)
