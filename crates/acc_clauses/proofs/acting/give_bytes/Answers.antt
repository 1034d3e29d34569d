use Rattle.std.proofs.Common.{◌∙◌, sym, refl, true}
use Rattle.acc_base.specs.declared.events.Step.TheVariants.{Dropped}
use Rattle.acc_clauses.specs.Contents.{beside}
use Rattle.acc_clauses.proofs.Giving.{can_move_bytes, given_acts}
use Rattle.acc_clauses.proofs.acting.give_bytes.Goals as goal

pub returns-then-gives_bytes : goal.returns-then-gives_bytes
returns-then-gives_bytes c = record { given = given_acts c.args.task.now c.args.block (beside c.args.environment.now c.args.host.now) (beside c.move_bytes.new.environment c.move_bytes.new.host) c.queue.result c.transfer_at-t.result (sym c.gives_bytes.ensures ∙ c.if-gives_bytes.true) c.queue.ensures c.transfer_at-t.ensures c.move_bytes.ensures.moved }

pub move_bytes-requires-clause-can : goal.move_bytes-requires-clause-can
move_bytes-requires-clause-can c =
    let gives = sym c.gives_bytes.ensures ∙ c.if-gives_bytes.true in
    can_move_bytes c.args.task.now (Dropped c.args.block true) c.args.block (beside c.args.environment.now c.args.host.now) c.queue.result c.transfer_at-t.result c.requires.can c.queue.ensures c.transfer_at-t.ensures (rw gives refl) gives (λ none. c.requires.free) c.requires.queue c.requires.puts
