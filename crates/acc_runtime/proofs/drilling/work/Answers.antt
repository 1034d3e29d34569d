use Rattle.std.proofs.Common.{rules}
use Rattle.acc_runtime.proofs.Rounds.{run}
use Rattle.acc_runtime.proofs.Faults.{worked}
use Rattle.acc_runtime.proofs.drilling.work.Goals as goal

pub returns-clause-run : goal.returns-clause-run
returns-clause-run g c = run c.args.runtime.now c.args.rounds c.args.worker.now.caller c.make_rounds.new.caller c.make_rounds.result c.err-worker.result c.err-worker.ensures.value (search rules)
    c.make_rounds.ensures.accepted c.make_rounds.ensures.stopped

pub returns-clause-worked : goal.returns-clause-worked
returns-clause-worked g c = worked c.args.rounds c.args.worker.now.caller c.make_rounds.new.caller c.make_rounds.result c.err-worker.result c.err-worker.ensures.value (search rules)
    c.make_rounds.ensures.kept c.make_rounds.ensures.made c.make_rounds.ensures.back c.make_rounds.ensures.shares
