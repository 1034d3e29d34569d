use Rattle.std.proofs.Common.{◌≡◌, length}
use Rattle.acc_clauses.proofs.slates.Slate.new.Given as goal

abbrev pub invariant-loop : goal.invariant-loop
invariant-loop g l = length l.cells.items ≡ l.counter
