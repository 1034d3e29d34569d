use Rattle.std.proofs.Common.{◌∙◌, arith}
use Rattle.acc_clauses.specs.Contents.{beside}
use Rattle.acc_clauses.proofs.Sweeping.{out_first, out_next, out_last, out_run, out_in_host}
use Rattle.acc_clauses.proofs.copies.copy_out.Goals as goal

pub loop-at-init : goal.loop-at-init
loop-at-init c = record { low = omega arith; most = omega arith; swept = out_first c.args.section c.args.block c.args.start (beside c.args.environment.now c.args.host.now) }

pub run_out-requires-clause-in_host : goal.run_out-requires-clause-in_host
run_out-requires-clause-in_host c =
    let i = c.loop-at.invariant in
    let x = beside c.args.environment.now c.args.host.now in
    let run = out_run c.args.section c.run_from.result c.args.block c.loop-at.at c.run_end-stop.result.0 x i.low c.loop-at-test.true c.run_from.ensures.start c.run_from.ensures.len c.run_end-stop.ensures in
    out_in_host c.args.section c.run_from.result c.args.block c.args.start c.loop-at.at c.run_end-stop.result.0 x c.loop-at.host i.swept run c.requires.can

pub run_out-requires-clause-there : goal.run_out-requires-clause-there
run_out-requires-clause-there c = c.requires.can.there

pub run_out-requires-clause-within : goal.run_out-requires-clause-within
run_out-requires-clause-within c = grind (arith)

pub loop-at-preserved : goal.loop-at-preserved
loop-at-preserved c =
    let i = c.loop-at.invariant in
    let run = out_run c.args.section c.run_from.result c.args.block c.loop-at.at c.run_end-stop.result.0 (beside c.args.environment.now c.args.host.now) i.low c.loop-at-test.true c.run_from.ensures.start c.run_from.ensures.len c.run_end-stop.ensures in
    record {
      low = omega (arith, i.low, c.run_end-stop.ensures.more);
      most = omega (arith, c.run_end-stop.ensures.most);
      swept = out_next c.args.section c.run_from.result c.args.block c.args.start c.loop-at.at c.run_end-stop.result.0 (beside c.args.environment.now c.args.host.now) c.loop-at.host c.run_out.new.host i.swept run c.run_out.ensures;
    }

pub returns : goal.returns
returns c = c.loop-at.invariant.swept ∙ out_last c.args.section c.args.block c.args.start c.loop-at.at (beside c.args.environment.now c.args.host.now) (omega arith)
