use Rattle.std.proofs.Common.{◌+◌, ◌∙◌, ap, arith}
use Rattle.std.proofs.lemmas.Bool.Decides.{nat_tests}
use Rattle.acc_base.specs.Devices.{OneDevice}
use Rattle.acc_base.specs.Waits.{drained}
use Rattle.acc_clauses.specs.Contents.{Numbers}
use Rattle.acc_clauses.specs.Devices.{state_beside}
use Rattle.acc_clauses.specs.Overlays.{tasks_in, dids_in}
use Rattle.acc_clauses.specs.Planned.{holdings_by}
use Rattle.acc_clauses.proofs.Finished.{finished_enter, finished_exit, finished_wait, finished_step}
use Rattle.acc_clauses.proofs.finishing.finish.Goals as goal

pub returns-in-Enter-clause-state : goal.returns-in-Enter-clause-state
returns-in-Enter-clause-state c = λ serial. rw c.in-Enter.is (finished_enter c.in-Enter.device c.in-Enter.items c.args.plan.now _ _ (holdings_by (tasks_in c.acts.result.now) (dids_in c.acts.result.now)) (ap (λ ts. holdings_by ts (dids_in c.acts.result.now)) c.acts.ensures.tasks ∙ ap (λ ds. holdings_by c.args.plan.now.tasks ds) c.acts.ensures.dids) (ap (λ (x : OneDevice). state_beside x c.args.host.now (record { region = c.args.next_region.now + 1; serial = serial })) c.enter.ensures.device))

pub returns-in-Exit-clause-state : goal.returns-in-Exit-clause-state
returns-in-Exit-clause-state c = λ serial. rw c.in-Exit.is (finished_exit _ c.args.plan.now _ _ (ap (λ (x : OneDevice). state_beside x c.args.host.now (record { region = c.args.next_region.now; serial = serial })) c.leave.ensures.device))

pub returns-in-Wait-clause-state : goal.returns-in-Wait-clause-state
returns-in-Wait-clause-state c = λ serial.
    let n : Numbers = record { region = c.args.next_region.now; serial = serial } in
    rw c.in-Wait.is (finished_wait c.in-Wait.device c.in-Wait.queue c.args.plan.now (state_beside c.args.device.now.device c.args.host.now n) (state_beside c.drain.new.device.device c.drain.new.host n) (c.drain.ensures.state n))

pub returns-in-Step-clause-state : goal.returns-in-Step-clause-state
returns-in-Step-clause-state c = λ serial. rw c.in-Step.is (finished_step c.in-Step.device _ c.args.plan.now _ _ (c.step.ensures.state (record { region = c.args.next_region.now; serial = serial })))

pub returns-in_default-clause-state : goal.returns-in_default-clause-state
unfolding drained
returns-in_default-clause-state c = λ serial. grind (arith, nat_tests)
