use Rattle.std.proofs.Common.{◌≡◌, ◌+◌, get_or, ap, sym, ◌∙◌, arith, Some}
use Rattle.std.proofs.lemmas.Option.{slice_get-get_or}
use Rattle.std.specs.Prelude.{slice_get}
use Rattle.acc_lend.specs.Images.{summed, plus}
use Rattle.acc_lend.proofs.Turns.{turn}
use Rattle.acc_lend.proofs.bytewise.add_each.Goals as goal

pub loop-i-preserved : goal.loop-i-preserved
loop-i-preserved c =
    let i = c.loop-i.i in
    let src = c.args.src.now in
    let from : 0 + i ≡ i = omega arith in
    let there : slice_get src (0 + i) ≡ Some (get_or src i 0) = ap (λ n. slice_get src n) from ∙ slice_get-get_or src i 0 (omega arith) in
    turn (summed src) _ _ _ _ _ c.loop-i.invariant c.loop-i-test.true (ap (λ s. plus (get_or c.loop-i.part i 0) s) (sym there))
