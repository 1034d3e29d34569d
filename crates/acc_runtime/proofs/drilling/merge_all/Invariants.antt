use Rattle.std.proofs.Common.{◌≡◌, ◌+◌, ◌*◌, ◌≤◌, All, map, sum_by, vec_len, None}
use Rattle.std.specs.Option.{option_or}
use Rattle.acc_runtime.specs.Drills.{IsWorked, first_fault}
use Rattle.acc_runtime.proofs.drilling.merge_all.Given as goal

abbrev pub invariant-loop-worker : goal.invariant-loop-worker
invariant-loop-worker g l = record {
  worked : All (λ w. IsWorked l.rounds w.caller w.fault) l.workers.items;
  kept : l.caller.made + l.caller.tickets + 2 * l.rounds * vec_len l.workers ≡ l.fn.caller.made + l.fn.caller.tickets + 2 * l.rounds * vec_len l.fn.workers;
  made : l.first ≡ None → l.caller.made + 2 * l.rounds * vec_len l.workers ≡ l.fn.caller.made + 2 * l.rounds * vec_len l.fn.workers;
  back : l.first ≡ None → l.caller.allowance + vec_len l.workers ≡ l.fn.caller.allowance + vec_len l.fn.workers;
  most : l.caller.allowance + vec_len l.workers ≤ l.fn.caller.allowance + vec_len l.fn.workers;
  entered : l.fn.caller.allowance + vec_len l.fn.workers + l.fn.caller.made ≤ l.caller.allowance + vec_len l.workers + l.caller.made;
  more : (l.fn.caller.allowance ≤ l.caller.allowance) × (l.fn.caller.made ≤ l.caller.made);
  allowance : l.caller.allowance + sum_by (λ w. w.caller.allowance) l.workers.items ≡ l.fn.caller.allowance + sum_by (λ w. w.caller.allowance) l.fn.workers.items;
  tickets : l.caller.tickets + sum_by (λ w. w.caller.tickets) l.workers.items ≡ l.fn.caller.tickets + sum_by (λ w. w.caller.tickets) l.fn.workers.items;
  all : l.caller.made + sum_by (λ w. w.caller.made) l.workers.items ≡ l.fn.caller.made + sum_by (λ w. w.caller.made) l.fn.workers.items;
  first : option_or (first_fault (map (λ w. w.fault) l.workers.items)) l.first ≡ first_fault (map (λ w. w.fault) l.fn.workers.items);
}

abbrev pub decreases-loop-worker : goal.decreases-loop-worker
decreases-loop-worker g l = vec_len l.workers
