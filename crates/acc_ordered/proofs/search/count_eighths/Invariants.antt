use Rattle.std.proofs.Common.{◌+◌, ◌*◌, ◌<◌, ◌≤◌, length}
use Rattle.acc_ordered.proofs.Counting.{IsEighths}
use Rattle.acc_ordered.proofs.search.count_eighths.Given as goal

abbrev pub invariant-loop-eighth : goal.invariant-loop-eighth
invariant-loop-eighth g l = record {
  whole : 8 * l.eighth-end ≤ length l.keys;
  rest : length l.keys < 8 * l.eighth-end + 8;
  comparisons : l.comparisons ≤ l.initial.comparisons + l.eighth;
  eighths : IsEighths g.K.Key.number (g.K.Key.number l.key) l.keys l.eighth l.low;
}
