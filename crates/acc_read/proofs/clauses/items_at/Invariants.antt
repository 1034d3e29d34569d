use Rattle.std.proofs.Common.{length}
use Rattle.acc_read.specs.Tokens.{is_mark_next, comma}
use Rattle.acc_read.specs.Clauses.{item_at}
use Rattle.acc_read.specs.Meanings.{IsKept}
use Rattle.acc_read.proofs.Repeated.{IsLeft}
use Rattle.acc_read.proofs.clauses.items_at.Given as goal

-- what is left reads, behind what was kept, as all of the text does
abbrev pub invariant-loop : goal.invariant-loop
invariant-loop g l = IsLeft (item_at l.kind l.clause l.arrays) (is_mark_next comma) (IsKept l.fn.items) (IsKept l.items) (length l.text) l.counter l.text l.rest
