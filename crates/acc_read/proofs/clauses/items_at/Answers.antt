use Rattle.std.proofs.Common.{length, sym, ◌∙◌}
use Rattle.std.proofs.lemmas.Result.{err_from_is_err_and}
use Rattle.acc_read.specs.Tokens.{is_mark_next, comma}
use Rattle.acc_read.specs.Clauses.{item_at}
use Rattle.acc_read.specs.Meanings.{IsKept}
use Rattle.acc_read.proofs.Repeated.{goes_further, ends, fails, runs_out}
use Rattle.acc_read.proofs.clauses.items_at.Goals as goal

pub returns-in_err-rest : goal.returns-in_err-rest
returns-in_err-rest g c =
    let p = err_from_is_err_and c.from_residual.result c.from_residual.ensures.1 in
    rw (p.1, p.2) (fails (item_at c.args.kind c.args.clause c.args.arrays.now) (is_mark_next comma) (IsKept c.args.items.now) (IsKept c.loop.items) (length c.args.text.now) c.loop.counter c.args.text.now c.loop.rest.now c.in_err-rest.field-0.0 c.loop-test.true c.loop.invariant c.in_err-rest.ensures)

pub returns-then-not-is_mark_next : goal.returns-then-not-is_mark_next
returns-then-not-is_mark_next g c = ends (item_at c.args.kind c.args.clause c.args.arrays.now) (is_mark_next comma) (IsKept c.args.items.now) (IsKept c.loop.items) (length c.args.text.now) c.loop.counter c.args.text.now c.loop.rest.now (IsKept c.item_at.new.items) c.in_ok-rest.rest.now c.loop-test.true c.loop.invariant c.in_ok-rest.ensures (sym c.is_mark_next.ensures ∙ c.if-not-is_mark_next.true)

pub loop-preserved : goal.loop-preserved
loop-preserved g c = rw c.skip_comma-rest.ensures (goes_further (item_at c.args.kind c.args.clause c.args.arrays.now) (is_mark_next comma) (IsKept c.args.items.now) (IsKept c.loop.items) (length c.args.text.now) c.loop.counter c.args.text.now c.loop.rest.now (IsKept c.item_at.new.items) c.in_ok-rest.rest.now c.loop-test.true c.loop.invariant c.in_ok-rest.ensures (sym c.is_mark_next.ensures ∙ c.if-not-is_mark_next.false))

pub returns : goal.returns
returns g c = runs_out (item_at c.args.kind c.args.clause c.args.arrays.now) (is_mark_next comma) (IsKept c.args.items.now) (IsKept c.loop.items) (length c.args.text.now) c.loop.counter c.args.text.now c.loop.rest.now c.loop-test.false c.loop.invariant
