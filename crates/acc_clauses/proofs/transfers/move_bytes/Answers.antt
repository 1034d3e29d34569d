use Rattle.std.proofs.Common.{ℕ, Option, sym, subst}
use Rattle.acc_clauses.specs.Contents.{beside}
use Rattle.acc_clauses.specs.Acts.{IsMovedBy}
use Rattle.acc_clauses.proofs.transfers.move_bytes.Goals as goal

pub returns-in-Some : goal.returns-in-Some
returns-in-Some c = record {
  moved = subst (λ (o : Option ℕ). IsMovedBy o c.args.t (beside c.args.environment.now c.args.host.now) (beside c.put.new.environment c.args.host.now)) (sym c.in-Some.is) (c.put.ensures.moved c.args.host.now);
}
