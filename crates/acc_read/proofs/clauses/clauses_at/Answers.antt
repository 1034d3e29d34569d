use Rattle.std.proofs.Common.{refl}
use Rattle.acc_read.specs.Clauses.{clauses_at, nothing_read}
use Rattle.acc_read.proofs.clauses.clauses_at.Goals as goal

pub returns : goal.returns
unfolding clauses_at
returns g c =
    let read = c.in_ok-all_clauses_at.ensures nothing_read (record { items = c.new.ensures; has_option = refl; queue = refl }) in
    rw read.1 (c.with_clause.ensures read.0 read.2)
