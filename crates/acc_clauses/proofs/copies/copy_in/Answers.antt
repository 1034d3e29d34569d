use Rattle.std.proofs.Common.{◌∙◌, arith}
use Rattle.acc_clauses.proofs.Sweeping.{in_first, in_next, in_last, in_run, in_within}
use Rattle.acc_clauses.proofs.copies.copy_in.Goals as goal

pub loop-at-init : goal.loop-at-init
loop-at-init c = record { low = omega arith; most = omega arith; swept = in_first c.args.section c.args.block c.args.start c.args.host.now c.args.environment.now }

pub run_in-requires-clause-in_host : goal.run_in-requires-clause-in_host
run_in-requires-clause-in_host c = grind (arith)

pub run_in-requires-clause-there : goal.run_in-requires-clause-there
run_in-requires-clause-there c = rw c.loop-at.invariant.swept c.requires.can.there

pub run_in-requires-clause-within : goal.run_in-requires-clause-within
run_in-requires-clause-within c = grind (arith, in_run, in_within)

pub loop-at-preserved : goal.loop-at-preserved
loop-at-preserved c =
    let i = c.loop-at.invariant in
    let run = in_run c.args.section c.run_from.result c.args.block c.args.start c.loop-at.at c.run_end-stop.result.0 c.args.host.now c.args.environment.now c.loop-at.environment i.swept i.low c.loop-at-test.true c.run_from.ensures.start c.run_from.ensures.len c.run_end-stop.ensures in
    record {
      low = omega (arith, i.low, c.run_end-stop.ensures.more);
      most = omega (arith, c.run_end-stop.ensures.most);
      swept = in_next c.args.section c.run_from.result c.args.block c.args.start c.loop-at.at c.run_end-stop.result.0 c.args.host.now c.args.environment.now c.loop-at.environment c.run_in.new.device i.swept run c.run_in.ensures;
    }

pub returns : goal.returns
returns c = c.loop-at.invariant.swept ∙ in_last c.args.section c.args.block c.args.start c.loop-at.at c.args.host.now c.args.environment.now (omega arith)
