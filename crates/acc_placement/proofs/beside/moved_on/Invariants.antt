use Rattle.std.proofs.Common.{◌≡◌, ℕ, ◌+◌, ◌%◌, ◌≤◌, ◌⊎◌, true, take, All}
use Rattle.acc_base.specs.Blocks.{rounded}
use Rattle.acc_placement.specs.Changes.{IsBeside}
use Rattle.acc_placement.proofs.beside.moved_on.Given as goal

abbrev pub invariant-loop-start : goal.invariant-loop-start
invariant-loop-start l = record {
  not_before : l.from ≤ l.at;
  limit : l.at ≤ l.top;
  stays : l.at ≡ l.from → All (λ (t : ℕ × ℕ). (l.from + l.size ≤ t.0) ⊎ (t.0 + rounded t.1 ≤ l.from)) (take l.start-index l.listed);
  behind : l.all_behind ≡ true → All (λ (t : ℕ × ℕ). t.0 + rounded t.1 ≤ l.at) (take l.start-index l.listed);
  least : (q : ℕ) → l.from ≤ q → IsBeside l.listed l.size q → l.at ≤ q;
  aligned : All (λ (t : ℕ × ℕ). t.0 % 16 ≡ 0) l.listed → l.from % 16 ≡ 0 → l.at % 16 ≡ 0;
}
