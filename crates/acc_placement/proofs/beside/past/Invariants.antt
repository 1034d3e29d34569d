use Rattle.std.proofs.Common.{◌≡◌, ℕ, ◌-◌, ◌%◌, ◌≤◌, All}
use Rattle.acc_placement.specs.Changes.{IsBeside}
use Rattle.acc_placement.proofs.beside.past.Given as goal

abbrev pub invariant-loop-at : goal.invariant-loop-at
invariant-loop-at l = record {
  not_before : l.from ≤ l.at;
  limit : l.at ≤ l.top;
  least : (q : ℕ) → l.from ≤ q → IsBeside l.listed l.size q → l.at ≤ q;
  aligned : All (λ (t : ℕ × ℕ). t.0 % 16 ≡ 0) l.listed → l.from % 16 ≡ 0 → l.at % 16 ≡ 0;
}

abbrev pub decreases-loop-at : goal.decreases-loop-at
decreases-loop-at l = l.top - l.at
