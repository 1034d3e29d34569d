use Rattle.std.proofs.Common.{true, refl}
use Rattle.acc_read.specs.Clauses.{clause_at}
use Rattle.acc_read.proofs.Keeping.{lists}
use Rattle.acc_read.proofs.clauses.clause_at.Goals as goal

pub returns-then-is_option : goal.returns-then-is_option
unfolding clause_at
returns-then-is_option g c = λ before h. (
  record before { has_option = true },
  rw (c.in_ok-word.ensures, ← c.is_option.ensures, c.if-is_option.true, ← h.has_option, c.if-unfinished.false) refl,
  record { items = h.items; has_option = refl; queue = h.queue },
)

pub returns-then-is_async : goal.returns-then-is_async
unfolding clause_at
returns-then-is_async g c = λ before h. rw (c.in_ok-word.ensures, ← c.is_option.ensures, c.if-is_option.false, ← c.is_async.ensures, c.if-is_async.true) (c.queued.ensures before h)

pub returns : goal.returns
unfolding clause_at
returns g c = λ before h. rw (c.in_ok-word.ensures, ← c.is_option.ensures, c.if-is_option.false, ← c.is_async.ensures, c.if-is_async.false, ← c.from_word.ensures, ← c.ok_or.ensures.value, c.in_ok-clause.was) (lists c.args.unfinished.now c.group_at.new.items (λ x. x.now) g.C.ScriptClause.grammar c.in_ok-clause.clause c.args.arrays.now before c.in_ok-word.rest.now c.group_at.result h (c.group_at.ensures before.items h.items))
