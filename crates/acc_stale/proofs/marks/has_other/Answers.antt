use Rattle.std.proofs.Common.{◌≡◌, not, take, ap, ◌∙◌, arith}
use Rattle.std.specs.List.{list_any}
use Rattle.std.proofs.lemmas.Grind.{common_steps}
use Rattle.acc_stale.specs.declared.marks.Mark.TheVariants.{New}
use Rattle.acc_stale.specs.Marks.{is_mark}
use Rattle.acc_stale.proofs.Found.{any_suc}
use Rattle.acc_stale.proofs.marks.has_other.Goals as goal

pub loop-m-preserved : goal.loop-m-preserved
loop-m-preserved c = any_suc (λ m. not (is_mark c.args.mark m)) c.loop-m.m-index New c.args.marks.now c.loop-m.found (not c.is.result) c.loop-m-test.true c.loop-m.invariant (ap not c.is.ensures)

pub returns : goal.returns
returns c =
    let all : take c.loop-m.m-index c.args.marks.now ≡ c.args.marks.now = grind (arith, common_steps) in
    c.loop-m.invariant ∙ ap (λ ms. list_any (λ m. not (is_mark c.args.mark m)) ms) all
