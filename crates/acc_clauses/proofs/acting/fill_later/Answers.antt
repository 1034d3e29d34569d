use Rattle.std.proofs.Common.{◌∙◌, sym}
use Rattle.acc_clauses.specs.Contents.{beside}
use Rattle.acc_clauses.proofs.Giving.{filled_acts}
use Rattle.acc_clauses.proofs.acting.fill_later.Goals as goal

pub returns-then-copies_in : goal.returns-then-copies_in
returns-then-copies_in c = record {
  filled = filled_acts c.args.queue c.args.item c.args.block c.named-section.result (beside c.args.environment.now c.args.host.now) (beside c.move_bytes.new.environment c.move_bytes.new.host) (sym c.is_some.ensures ∙ c.if-is_some.true) (sym c.copies_in.ensures ∙ c.if-copies_in.true) (rw c.is_attach.ensures at c.named-section.ensures) c.move_bytes.ensures.moved;
}
