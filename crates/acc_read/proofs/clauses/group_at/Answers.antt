use Rattle.acc_read.specs.Clauses.{group_at}
use Rattle.acc_read.specs.Tokens.{mark_at, right_parenthesis}
use Rattle.acc_read.specs.Meanings.{IsKept}
use Rattle.acc_read.proofs.Keeping.{closes}
use Rattle.acc_read.proofs.clauses.group_at.Goals as goal

pub returns : goal.returns
unfolding group_at
returns g c = λ before h.
    let read = c.in_ok-rest.ensures before h in
    rw (c.in_ok-inside.ensures, c.in_ok-modified.ensures, ← c.lists.ensures, read.1) (closes (IsKept c.items_at.new.items) (λ x. x.now) read.0 c.mark_at-2.result (mark_at right_parenthesis c.in_ok-rest.rest.now) read.2 c.mark_at-2.ensures)
