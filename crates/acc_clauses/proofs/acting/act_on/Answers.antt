use Rattle.acc_clauses.specs.Overlays.{puts_by}
use Rattle.acc_clauses.specs.Contents.{beside}
use Rattle.acc_clauses.proofs.Doing.{aim_after, step_after, needed_kept, do_needed, not_entry, entry_done, leaves, queues_kept, puts_kept, do_queue}
use Rattle.acc_clauses.proofs.acting.act_on.Goals as goal

pub returns-in-Enter : goal.returns-in-Enter
returns-in-Enter c = record { done = entry_done c.args.x.now.task c.args.x.now.did (beside c.args.environment.now c.args.host.now) (beside c.step_on.new.environment c.step_on.new.host) (beside c.aim_on.new.environment c.step_on.new.host) (rw c.in-Enter.is tt) c.step_on.ensures.acted c.aim_on.ensures.aimed }

pub returns-in-ExitRegion : goal.returns-in-ExitRegion
returns-in-ExitRegion c = record { done = leaves c.args.x.now.task c.args.x.now.did (beside c.args.environment.now c.args.host.now) (beside c.aim_on-in-ExitRegion.new.environment c.args.host.now) (beside c.step_on-in-ExitRegion.new.environment c.step_on-in-ExitRegion.new.host) (not_entry c.args.x.now.task c.in-ExitRegion.is) c.aim_on-in-ExitRegion.ensures.aimed c.step_on-in-ExitRegion.ensures.acted }

pub step_on-requires-in-ExitRegion-clause-queue : goal.step_on-requires-in-ExitRegion-clause-queue
step_on-requires-in-ExitRegion-clause-queue c =
    let x = beside c.args.environment.now c.args.host.now in
    queues_kept c.args.x.now.did.aim c.args.x.now.task c.args.x.now.did.step x (beside c.aim_on-in-ExitRegion.new.environment c.args.host.now) c.aim_on-in-ExitRegion.ensures.aimed (do_queue x c.args.x.now.task c.args.x.now.did c.requires.can)

pub step_on-requires-in-ExitRegion-clause-puts : goal.step_on-requires-in-ExitRegion-clause-puts
step_on-requires-in-ExitRegion-clause-puts c = puts_kept c.args.x.now.did.aim (λ q. puts_by q c.args.x.now.task c.args.x.now.did.step) (beside c.args.environment.now c.args.host.now) (beside c.aim_on-in-ExitRegion.new.environment c.args.host.now) c.aim_on-in-ExitRegion.ensures.aimed c.requires.puts

pub step_on-requires-in-ExitRegion-clause-needed : goal.step_on-requires-in-ExitRegion-clause-needed
step_on-requires-in-ExitRegion-clause-needed c =
    let x = beside c.args.environment.now c.args.host.now in
    needed_kept c.args.x.now.did.aim c.args.x.now.task c.args.x.now.did.step x (beside c.aim_on-in-ExitRegion.new.environment c.args.host.now) c.aim_on-in-ExitRegion.ensures.aimed (do_needed x c.args.x.now.task c.args.x.now.did c.requires.can)

pub aim_on-requires-clause-can : goal.aim_on-requires-clause-can
aim_on-requires-clause-can c = aim_after c.args.x.now.task c.args.x.now.did (beside c.args.environment.now c.args.host.now) (beside c.step_on.new.environment c.step_on.new.host) (rw c.in-Enter.is tt) c.requires.can c.step_on.ensures.acted

pub step_on-requires-in-ExitRegion-clause-can : goal.step_on-requires-in-ExitRegion-clause-can
step_on-requires-in-ExitRegion-clause-can c = step_after c.args.x.now.task c.args.x.now.did (beside c.args.environment.now c.args.host.now) (beside c.aim_on-in-ExitRegion.new.environment c.args.host.now) (not_entry c.args.x.now.task c.in-ExitRegion.is) c.requires.can c.aim_on-in-ExitRegion.ensures.aimed
