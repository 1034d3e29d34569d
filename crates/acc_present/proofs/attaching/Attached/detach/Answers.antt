use Rattle.std.proofs.Common.{arith}
use Rattle.acc_present.proofs.Keeping.{count_limit}
use Rattle.acc_present.proofs.attaching.Attached.detach.Goals as goal

pub put-requires-clause-most : goal.put-requires-clause-most
put-requires-clause-most c =
    let most = count_limit c.self.inside.counter_max c.args.block c.args.pointer c.self.inside.counters.counters c.self.invariant in
    rw (← c.self.view_is) (omega (arith, c.find-found.ensures, most))
