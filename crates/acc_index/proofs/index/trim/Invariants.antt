use Rattle.std.proofs.Common.{◌≡◌, ◌≤◌, vec_len, vec_capacity}
use Rattle.acc_index.specs.Indexed.{live_entries, AreEntriesRising}
use Rattle.acc_index.proofs.index.trim.Given as goal

abbrev pub invariant-loop-items : goal.invariant-loop-items
invariant-loop-items g l = record {
  rising : AreEntriesRising l.items.items;
  entries : live_entries l.items.items ≡ live_entries l.fn.items.items;
  len : vec_len l.items ≤ vec_len l.fn.items;
  capacity : vec_capacity l.items ≡ vec_capacity l.fn.items;
}

abbrev pub decreases-loop-items : goal.decreases-loop-items
decreases-loop-items g l = vec_len l.items
