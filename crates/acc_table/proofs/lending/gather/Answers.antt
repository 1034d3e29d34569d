use Rattle.acc_table.proofs.lending.gather.Goals as goal

pub returns-in-Ok-clause-done : goal.returns-in-Ok-clause-done
returns-in-Ok-clause-done c = rw (← c.in-Ok.ensures.same) c.take_back.ensures.made
