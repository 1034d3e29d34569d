use Rattle.std.proofs.Common.{sym, ◌∙◌}
use Rattle.acc_present.proofs.Keeping.{kept_with, zero_none}
use Rattle.acc_present.proofs.attaching.Attached.put.Goals as goal

pub add-requires-clause-new : goal.add-requires-clause-new
add-requires-clause-new c =
    let count = rw (← c.self.view_is) at c.requires.found in
    zero_none c.self.inside.counter_max c.args.block c.args.pointer c.self.inside.counters.counters c.self.invariant (sym count ∙ c.if-found-eq0.true)

pub invariant_of-self : goal.invariant_of-self
invariant_of-self c =
    let most = rw (← c.self.view_is) at c.requires.most in
    rw c.add.ensures.counters (kept_with c.self.inside.counter_max c.args.block c.args.pointer c.args.count c.self.inside.counters.counters c.self.invariant most)

pub invariant_of-self-else-found-eq0 : goal.invariant_of-self-else-found-eq0
invariant_of-self-else-found-eq0 c =
    let most = rw (← c.self.view_is) at c.requires.most in
    rw c.set.ensures.counters (kept_with c.self.inside.counter_max c.args.block c.args.pointer c.args.count c.self.inside.counters.counters c.self.invariant most)
