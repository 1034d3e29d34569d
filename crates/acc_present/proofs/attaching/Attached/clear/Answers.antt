use Rattle.std.proofs.Common.{arith}
use Rattle.acc_present.proofs.Keeping.{kept_with}
use Rattle.acc_present.proofs.attaching.Attached.clear.Goals as goal

pub invariant_of-self : goal.invariant_of-self
invariant_of-self c = rw c.take_out.ensures.counters (kept_with c.self.inside.counter_max c.args.block c.args.pointer 0 c.self.inside.counters.counters c.self.invariant (omega arith))
