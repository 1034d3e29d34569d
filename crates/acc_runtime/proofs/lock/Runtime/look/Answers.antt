use Rattle.acc_runtime.proofs.Sharing.{settled_as}
use Rattle.acc_runtime.proofs.lock.Runtime.look.Goals as goal

pub look-requires : goal.look-requires
look-requires g c = λ settled. c.requires c.deref_mut.result.now (settled_as c.args.self.now g.Regions.Limited.limits g.Regions.Ledger.parts g.Tickets.Ledger.parts c.args.caller.now c.deref_mut.result.now c.lock.ensures settled)

pub returns-clause-called : goal.returns-clause-called
returns-clause-called g c = (
  c.deref_mut.result.now,
  settled_as c.args.self.now g.Regions.Limited.limits g.Regions.Ledger.parts g.Tickets.Ledger.parts c.args.caller.now c.deref_mut.result.now c.lock.ensures c.look.ensures.tells,
  c.look.ensures.called,
)
