use Rattle.std.proofs.Common.{◌<◌, length, sym, arith, inl, inr}
use Rattle.acc_lend.proofs.Summing.{summed_behind, summed_whole}
use Rattle.acc_lend.proofs.bytewise.PlusKernel.run.Goals as goal

pub returns-in_default : goal.returns-in_default
returns-in_default c =
    let past : length c.args.src.now < c.args.at = elim c.in_default.ensures.lookup.0 [ inl low ↦ low | inr none ↦ omega arith ] in
    sym (summed_behind c.args.src.now c.args.part.now c.args.at (λ i low. omega arith))

pub returns : goal.returns
returns c =
    let there = c.in-Some.ensures.lookup.0 in
    summed_whole c.args.src.now c.in-Some.behind.now _ _ c.args.at _ there.0 there.2 c.min-count.ensures c.add_each.ensures
