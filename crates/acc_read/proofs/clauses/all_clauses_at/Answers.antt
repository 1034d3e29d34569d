use Rattle.std.proofs.Common.{length, sym, ap, ◌∙◌}
use Rattle.std.specs.Prelude.{not}
use Rattle.std.proofs.lemmas.Result.{err_from_is_err_and}
use Rattle.acc_read.specs.Clauses.{clause_at, goes_on}
use Rattle.acc_read.specs.Meanings.{IsRead}
use Rattle.acc_read.proofs.Repeated.{goes_further, ends, fails, runs_out}
use Rattle.acc_read.proofs.clauses.all_clauses_at.Goals as goal

pub returns-in_err-rest : goal.returns-in_err-rest
returns-in_err-rest g c =
    let p = err_from_is_err_and c.from_residual.result c.from_residual.ensures.1 in
    rw (p.1, p.2) (fails (clause_at g.C.ScriptClause.grammar c.args.arrays.now) goes_on (IsRead c.args.unfinished.now) (IsRead c.loop.unfinished) (length c.args.text.now) c.loop.counter c.args.text.now c.loop.rest.now c.in_err-rest.field-0.0 c.loop-test.true c.loop.invariant c.in_err-rest.ensures)

pub returns-then-is_at_end : goal.returns-then-is_at_end
returns-then-is_at_end g c = ends (clause_at g.C.ScriptClause.grammar c.args.arrays.now) goes_on (IsRead c.args.unfinished.now) (IsRead c.loop.unfinished) (length c.args.text.now) c.loop.counter c.args.text.now c.loop.rest.now (IsRead c.clause_at.new.unfinished) c.in_ok-rest.rest.now c.loop-test.true c.loop.invariant c.in_ok-rest.ensures (ap not (sym c.is_at_end.ensures ∙ c.if-is_at_end.true))

pub loop-preserved : goal.loop-preserved
loop-preserved g c = rw c.skip_comma-rest.ensures (goes_further (clause_at g.C.ScriptClause.grammar c.args.arrays.now) goes_on (IsRead c.args.unfinished.now) (IsRead c.loop.unfinished) (length c.args.text.now) c.loop.counter c.args.text.now c.loop.rest.now (IsRead c.clause_at.new.unfinished) c.in_ok-rest.rest.now c.loop-test.true c.loop.invariant c.in_ok-rest.ensures (ap not (sym c.is_at_end.ensures ∙ c.if-is_at_end.false)))

pub returns : goal.returns
returns g c = runs_out (clause_at g.C.ScriptClause.grammar c.args.arrays.now) goes_on (IsRead c.args.unfinished.now) (IsRead c.loop.unfinished) (length c.args.text.now) c.loop.counter c.args.text.now c.loop.rest.now c.loop-test.false c.loop.invariant
