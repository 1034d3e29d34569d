use Rattle.acc_present.proofs.Keeping.{kept_without}
use Rattle.acc_present.proofs.attaching.Attached.forget.Goals as goal

pub invariant_of-self : goal.invariant_of-self
invariant_of-self c = rw c.take_out_all.ensures.counters (kept_without c.self.inside.counter_max c.args.block c.self.inside.counters.counters c.self.invariant)
