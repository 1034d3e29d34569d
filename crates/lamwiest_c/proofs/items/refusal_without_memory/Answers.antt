use Rattle.std.proofs.Common.{refl, arith, sym, ◌∙◌, []}
use Rattle.lamwiest_c.proofs.Reading.{read_nothing, refused_so, wanted_so, turn_read, turn_bad, turns_over}
use Rattle.lamwiest_c.proofs.items.refusal_without_memory.Goals as goal

pub loop-item-init : goal.loop-item-init
loop-item-init g c = record { place = refl; so_far = record { done = []; before = read_nothing _ } }

pub returns-in_default : goal.returns-in_default
returns-in_default g c =
    let so = c.loop-item.invariant.so_far in
    refused_so _ _ (turn_bad g.C.NumberedClause.numbered c.loop-item.place c.loop-item.item-index c.args.items.now so.done _ _ c.loop-item-test.true (sym c.from_number.ensures ∙ c.in_default.is) so.before)

pub loop-item-preserved : goal.loop-item-preserved
loop-item-preserved g c =
    let so = c.loop-item.invariant.so_far in
    record {
      place = omega (arith, c.loop-item.invariant.place);
      so_far = record { done = _; before = turn_read g.C.NumberedClause.numbered c.loop-item.place c.loop-item.item-index c.args.items.now so.done _ _ _ c.loop-item-test.true (sym c.from_number.ensures ∙ c.in-Some.is) so.before };
    }

pub returns : goal.returns
returns g c =
    let so = c.loop-item.invariant.so_far in
    wanted_so g.C.NumberedClause.numbered c.args.items.now so.done c.requires (turns_over g.C.NumberedClause.numbered c.loop-item.place c.loop-item.item-index c.args.items.now so.done _ c.loop-item-test.false so.before)
