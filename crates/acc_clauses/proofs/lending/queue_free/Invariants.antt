use Rattle.std.proofs.Common.{◌≡◌, drop}
use Rattle.acc_base.specs.Queues.{queue_at}
use Rattle.acc_base.specs.Loans.{none_lent}
use Rattle.acc_clauses.proofs.lending.queue_free.Given as goal

-- the transfers that are left decide as all of them do
abbrev pub invariant-loop-place : goal.invariant-loop-place
invariant-loop-place l = none_lent (drop l.place (queue_at l.q l.view.state.records.queues)) l.view.state.records.loans ≡ none_lent (queue_at l.q l.view.state.records.queues) l.view.state.records.loans
