use Rattle.std.proofs.Common.{sym, ◌∙◌}
use Rattle.acc_clauses.specs.Contents.{beside}
use Rattle.acc_clauses.proofs.Steps.{is_some}
use Rattle.acc_clauses.proofs.Ending.{loans_kept, range_there, end_there, end_mark, end_mapped, gone_changes, kept_changes, ended_acts}
use Rattle.acc_clauses.proofs.acting.end.Goals as goal
use Rattle.std.proofs.lemmas.Bool.{false≢true}

pub end_mapping-requires : goal.end_mapping-requires
end_mapping-requires c = record { there = is_some _ _ (range_there c.args.task.now c.args.block _ (beside c.args.environment.now c.args.host.now) (beside c.give_bytes.new.environment c.give_bytes.new.host) c.requires.can c.give_bytes.ensures.given) }

pub retire-requires-clause-there : goal.retire-requires-clause-there
retire-requires-clause-there c = end_there c.args.task.now c.args.block _ (beside c.args.environment.now c.args.host.now) (beside c.give_bytes.new.environment c.give_bytes.new.host) c.requires.can c.give_bytes.ensures.given

pub retire-requires-clause-mapped : goal.retire-requires-clause-mapped
retire-requires-clause-mapped c = end_mapped c.args.task.now c.args.block _ (beside c.args.environment.now c.args.host.now) (beside c.give_bytes.new.environment c.give_bytes.new.host) c.requires.can c.give_bytes.ensures.given c.laws.ensures.marks

pub returns-then-retire : goal.returns-then-retire
returns-then-retire c =
    let x = beside c.args.environment.now c.args.host.now in
    let y = beside c.give_bytes.new.environment c.give_bytes.new.host in
    let given = c.give_bytes.ensures.given in
    let mark = end_mark c.args.task.now c.args.block _ x y c.requires.can given c.laws.ensures.marks in
    record {
      acted = ended_acts c.args.task.now c.args.block x y _ given (gone_changes c.args.block y c.end_mapping.new.self c.retire.new.self c.forget.new.self given.marked c.laws.ensures.memories mark
          c.end_mapping.ensures.table c.end_mapping.ensures.room (c.retire.ensures.given_back.0 c.if-retire.true) c.if-retire.ensures.retired c.forget.ensures.attached c.forget.ensures.counter_max c.forget.ensures.spare);
    }

pub returns-else-retire : goal.returns-else-retire
returns-else-retire c =
    let x = beside c.args.environment.now c.args.host.now in
    let y = beside c.give_bytes.new.environment c.give_bytes.new.host in
    let given = c.give_bytes.ensures.given in
    let mark = end_mark c.args.task.now c.args.block _ x y c.requires.can given c.laws.ensures.marks in
    record {
      acted = ended_acts c.args.task.now c.args.block x y _ given (kept_changes c.args.block y c.end_mapping.new.self c.retire.new.self given.marked mark
          c.end_mapping.ensures.table c.end_mapping.ensures.room (λ none. false≢true (sym c.if-retire.false ∙ c.retire.ensures.given_back.1 none)) c.if-retire.ensures.kept);
    }

pub retire-requires-clause-free : goal.retire-requires-clause-free
retire-requires-clause-free c = loans_kept c.args.task.now c.args.block (beside c.args.environment.now c.args.host.now) (beside c.give_bytes.new.environment c.give_bytes.new.host) c.give_bytes.ensures.given c.requires.free
