use Rattle.std.proofs.Common.{refl}
use Rattle.acc_base.specs.declared.events.Step.TheVariants.{Moved}
use Rattle.acc_clauses.specs.Contents.{beside}
use Rattle.acc_clauses.proofs.Giving.{needed_free, can_move_bytes, moved_acts}
use Rattle.acc_clauses.proofs.acting.update.Goals as goal

pub move_bytes-requires-clause-can : goal.move_bytes-requires-clause-can
move_bytes-requires-clause-can c = can_move_bytes c.args.task.now (Moved c.args.block) c.args.block (beside c.args.environment.now c.args.host.now) c.queue.result c.transfer_at-t.result c.requires.can c.queue.ensures c.transfer_at-t.ensures refl refl (needed_free c.args.task.now c.args.block (beside c.args.environment.now c.args.host.now) c.requires.needed) c.requires.queue c.requires.puts

pub returns : goal.returns
returns c = record { acted = moved_acts c.args.task.now c.args.block (beside c.args.environment.now c.args.host.now) (beside c.move_bytes.new.environment c.move_bytes.new.host) c.queue.result c.transfer_at-t.result c.queue.ensures c.transfer_at-t.ensures c.move_bytes.ensures.moved }
