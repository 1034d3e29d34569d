use Rattle.std.proofs.Common.{◌≡◌, ◌≤◌, ◌+◌, ◌++◌, length, vec_len, vec_capacity}
use Rattle.std.specs.Vec.Iter.{into_iter_items}
use Rattle.acc_table.specs.Turns.{IsRun}
use Rattle.acc_table.specs.Turning.{lends_in}
use Rattle.acc_table.proofs.tables.Table.run.Given as goal

-- the turns so far led here, with one answer each. There is room for all answers and for a lease of each loan to come
abbrev pub invariant-loop-turn : goal.invariant-loop-turn
invariant-loop-turn l = record {
  next : (goal.iterator-loop-turn).can_next l.turn-iterator;
  finite : (goal.iterator-loop-turn).is_finite l.turn-iterator;
  ahead : l.yielded ++ into_iter_items l.turn-iterator ≡ l.fn.turns.items;
  answered : vec_len l.answers ≡ length l.yielded;
  room : length l.fn.turns.items ≤ vec_capacity l.answers;
  places : vec_len l.leases + lends_in (into_iter_items l.turn-iterator) ≤ vec_capacity l.leases;
  ran : IsRun l.fn.self l.fn.leases.items l.yielded l.answers.items l.self l.leases.items;
}
