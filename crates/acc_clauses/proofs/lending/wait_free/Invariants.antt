use Rattle.std.proofs.Common.{◌≡◌, drop}
use Rattle.std.specs.List.{flat_map}
use Rattle.acc_base.specs.Loans.{none_lent}
use Rattle.acc_clauses.proofs.lending.wait_free.Given as goal

-- the queues that are left decide as all of them do
abbrev pub invariant-loop-q : goal.invariant-loop-q
invariant-loop-q l = none_lent (flat_map (λ transfers. transfers) (drop l.q l.view.state.records.queues)) l.view.state.records.loans ≡ none_lent (flat_map (λ transfers. transfers) l.view.state.records.queues) l.view.state.records.loans
