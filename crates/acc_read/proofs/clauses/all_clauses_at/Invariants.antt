use Rattle.std.proofs.Common.{length}
use Rattle.acc_read.specs.Clauses.{clause_at, goes_on}
use Rattle.acc_read.specs.Meanings.{IsRead}
use Rattle.acc_read.proofs.Repeated.{IsLeft}
use Rattle.acc_read.proofs.clauses.all_clauses_at.Given as goal

-- what is left reads, behind what was kept, as all of the text does
abbrev pub invariant-loop : goal.invariant-loop
invariant-loop g l = IsLeft (clause_at g.C.ScriptClause.grammar l.arrays) goes_on (IsRead l.fn.unfinished) (IsRead l.unfinished) (length l.text) l.counter l.text l.rest
