use Rattle.std.proofs.Common.{◌≡◌, ◌∙◌, ◌++◌, ◌∷◌, [], ◌+◌, ap, append_assoc, length-append, arith, rules}
use Rattle.std.specs.Vec.Iter.{into_iter_items}
use Rattle.acc_table.specs.Turning.{lends_in}
use Rattle.acc_table.proofs.Running.{run_more, lends_more}
use Rattle.acc_table.proofs.tables.Table.run.Goals as goal

pub loop-turn-preserved : goal.loop-turn-preserved
loop-turn-preserved c =
    let ahead : (c.loop-turn.yielded ++ c.in-Some.turn ∷ []) ++ into_iter_items c.next.new.self ≡ c.args.turns.items = append_assoc c.loop-turn.yielded (c.in-Some.turn ∷ []) (into_iter_items c.next.new.self) ∙ (search rules) in
    let steps : into_iter_items c.loop-turn.turn-iterator ≡ c.in-Some.turn ∷ into_iter_items c.next.new.self = search rules in
    let more : lends_in (into_iter_items c.loop-turn.turn-iterator) ≡ lends_in (c.in-Some.turn ∷ []) + lends_in (into_iter_items c.next.new.self) = ap lends_in steps ∙ lends_more c.in-Some.turn (into_iter_items c.next.new.self) in
    record {
      next = tt;
      finite = tt;
      ahead = ahead;
      answered = omega (arith, c.push_reserved.ensures.len, c.loop-turn.invariant.answered, length-append c.loop-turn.yielded (c.in-Some.turn ∷ []));
      room = search rules;
      places = omega (arith, more, c.take_turn-answer.ensures.len, c.take_turn-answer.ensures.capacity, c.loop-turn.invariant.places);
      ran = rw c.push_reserved.ensures.items (run_more c.args.self.now c.args.leases.now.items c.loop-turn.yielded c.loop-turn.answers.items c.loop-turn.self c.take_turn-answer.new.self c.loop-turn.leases.items c.take_turn-answer.new.leases.items c.in-Some.turn c.take_turn-answer.result c.loop-turn.invariant.ran c.take_turn-answer.ensures.may);
    }
