use Rattle.std.proofs.Common.{arith, ap, sym, ◌∙◌, Ok}
use Rattle.lamwiest_c.proofs.Reading.{read_nothing, refused_so, all_read, turn_read, turn_bad, turns_over}
use Rattle.lamwiest_c.proofs.items.items_of.Goals as goal

pub loop-item-init : goal.loop-item-init
loop-item-init g c = grind (arith, read_nothing)

pub returns-in_default-from_number : goal.returns-in_default-from_number
returns-in_default-from_number g c =
    refused_so _ _ (turn_bad g.C.NumberedClause.numbered c.loop-item.place c.loop-item.item-index c.args.items.now c.loop-item.read.items _ _ c.loop-item-test.true (sym c.from_number.ensures ∙ c.in_default-from_number.is) c.loop-item.invariant.so_far)

pub loop-item-preserved : goal.loop-item-preserved
loop-item-preserved g c =
    let read = turn_read g.C.NumberedClause.numbered c.loop-item.place c.loop-item.item-index c.args.items.now c.loop-item.read.items _ _ c.in-Some.clause c.loop-item-test.true (sym c.from_number.ensures ∙ c.in-Some.is) c.loop-item.invariant.so_far in
    grind arith

pub returns : goal.returns
returns g c = all_read _ _ (ap Ok c.from_vec.ensures ∙ turns_over g.C.NumberedClause.numbered c.loop-item.place c.loop-item.item-index c.args.items.now c.loop-item.read.items _ c.loop-item-test.false c.loop-item.invariant.so_far)
