use Rattle.std.proofs.Common.{◌≡◌, ◌++◌, length, drop}
use Rattle.acc_base.specs.Acting.{judge_all}
use Rattle.acc_base.specs.Judge.{tasks_with}
use Rattle.acc_clauses.specs.Overlays.{IsPlanned, tasks_in, dids_in, state_after}
use Rattle.acc_clauses.proofs.Turns.{prefixed}
use Rattle.acc_clauses.proofs.planning.judge_each.Given as goal

-- what was done before what is still judged is what all tasks do
abbrev pub invariant-loop-n : goal.invariant-loop-n
invariant-loop-n g l = let tasks = tasks_with l.directive l.holdings in record {
  few : length l.draft ≡ l.n;
  asked : tasks_in l.draft ++ drop l.n tasks ≡ tasks;
  planned : IsPlanned l.view.limits l.draft l.view.state.records;
  judged : prefixed (dids_in l.draft) (judge_all l.view.limits l.n (drop l.n tasks) (state_after l.draft l.view.state)) ≡ judge_all l.view.limits 0 tasks l.view.state;
}
