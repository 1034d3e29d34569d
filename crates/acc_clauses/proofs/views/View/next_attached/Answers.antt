use Rattle.std.proofs.Common.{sym, arith}
use Rattle.acc_base.proofs.Pointers.{next_low}
use Rattle.acc_clauses.proofs.NextAttached.{first_begins, none_begins, none_next}
use Rattle.acc_clauses.proofs.views.View.next_attached.Goals as goal

pub overflow_sub-pointer : goal.overflow_sub-pointer
overflow_sub-pointer c = next_low c.args.block c.args.section.start c.args.self.now.state.records.attached c.in-Some.pointer (sym c.in-Some.ensures)

pub returns-then-section-pointer : goal.returns-then-section-pointer
returns-then-section-pointer c =
    let from = next_low c.args.block c.args.section.start c.args.self.now.state.records.attached c.in-Some.pointer (sym c.in-Some.ensures) in
    sym (none_begins c.args.block c.args.section c.in-Some.pointer c.args.self.now.state.records.attached c.laws.ensures.sound.records.attached.rising (sym c.in-Some.ensures) (omega arith))

pub returns-else-section-pointer : goal.returns-else-section-pointer
returns-else-section-pointer c =
    let from = next_low c.args.block c.args.section.start c.args.self.now.state.records.attached c.in-Some.pointer (sym c.in-Some.ensures) in
    rw c.count-count.ensures.value (sym (first_begins c.args.block c.args.section c.in-Some.pointer c.args.self.now.state.records.attached (sym c.in-Some.ensures) (omega arith)))

pub returns-in-None : goal.returns-in-None
returns-in-None c = sym (none_next c.args.block c.args.section c.args.self.now.state.records.attached (sym c.in-None.ensures))
