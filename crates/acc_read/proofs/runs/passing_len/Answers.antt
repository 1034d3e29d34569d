use Rattle.std.proofs.Common.{◌≡◌, ◌+◌, ◌-◌, ◌≤◌, true, length, take, drop, drop-drop, length-drop, ap, arith}
use Rattle.std.specs.List.{list_all, prefix_len}
use Rattle.acc_read.proofs.ByteRuns.{front_passes}
use Rattle.acc_read.proofs.runs.passing_len.Goals as goal

pub loop-at-preserved : goal.loop-at-preserved
loop-at-preserved g c =
    let at = c.loop-at.at in
    let bytes = c.args.bytes.now in
    let n : at + 16 - at ≡ 16 = omega arith in
    let run : list_all g.T.ByteTest.test (take 16 (drop at bytes)) ≡ true = cc in
    let room : 16 ≤ length (drop at bytes) = omega (arith, length-drop at bytes) in
    let next = front_passes g.T.ByteTest.test 16 (drop at bytes) room run in
    let rest : prefix_len g.T.ByteTest.test (drop 16 (drop at bytes)) ≡ prefix_len g.T.ByteTest.test (drop (at + 16) bytes) = ap (prefix_len g.T.ByteTest.test) (drop-drop 16 at bytes) in
    record { within = omega arith; left = omega (arith, c.loop-at.invariant.left, next, rest) }
