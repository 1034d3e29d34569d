use Rattle.std.proofs.Common.{rules, ◌∙◌, sym, None, Some, inr}
use Rattle.acc_runtime.proofs.Rounds.{have_worked}
use Rattle.acc_runtime.proofs.drilling.drill.Goals as goal

pub returns-clause-told : goal.returns-clause-told
returns-clause-told g c = rw c.look.ensures.same c.look.ensures.told

pub returns-in-Some-clause-fault : goal.returns-in-Some-clause-fault
returns-in-Some-clause-fault g c = inr (inr (have_worked (λ w. w.caller) (λ w. w.fault) c.args.runtime.now c.args.threads c.args.rounds _ c.args.caller.now c.enter_data.new.caller c.split_all.new.caller
    c.merge_all.new.caller (Some c.in-Some.fault) c.work_all.new.workers.items (search rules) (search rules) (search rules) c.split_all.ensures.allowance c.split_all.ensures.tickets
    c.split_all.ensures.made c.work_all.ensures.run (sym c.in-Some.is ∙ c.merge_all.ensures.first) c.merge_all.ensures.allowance c.merge_all.ensures.tickets c.merge_all.ensures.all))

pub returns-clause-worked : goal.returns-clause-worked
returns-clause-worked g c = rw c.look.ensures.same (have_worked (λ w. w.caller) (λ w. w.fault) c.args.runtime.now c.args.threads c.args.rounds _ c.args.caller.now c.enter_data.new.caller c.split_all.new.caller
    c.merge_all.new.caller None c.work_all.new.workers.items (search rules) (search rules) (search rules) c.split_all.ensures.allowance c.split_all.ensures.tickets
    c.split_all.ensures.made c.work_all.ensures.run (search rules) c.merge_all.ensures.allowance c.merge_all.ensures.tickets c.merge_all.ensures.all)
